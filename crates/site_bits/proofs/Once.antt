-- Each choice has one list of bits at most.
use Rattle.std.proofs.Common.{◌≡◌, ◌⊎◌, inl, inr, ℕ, List, [], ◌∷◌, ◌++◌, Option, Some, None, map, slice_get, refl, sym, ap, ◌∙◌, subst}
use Rattle.arch_types.specs.declared.block.PbType.{PbType}
use Rattle.arch_types.specs.declared.block.Mode.{Mode}
use Rattle.arch_types.specs.declared.block.Inter.{Inter}
use Rattle.arch_types.specs.declared.block.Meta.{Meta}
use Rattle.arch_types.specs.Address.{Hop, Address, at, child_at}
use Rattle.arch_types.specs.Tree.{modes_of, inters_of, metas_of}
use Rattle.mode_edges.specs.declared.pin.LocalPin.{LocalPin}
use Rattle.meta_lines.specs.declared.types.Feature.{Feature}
use Rattle.meta_lines.specs.declared.types.PinFeatures.{PinFeatures}
use Rattle.meta_said.specs.declared.types.OwnerMeta.{OwnerMeta}
use Rattle.meta_said.specs.Answers.{HasOneAnswer}
use Rattle.meta_said.specs.Owners.{Says, IsRefused}
use Rattle.meta_said.specs.Inters.{SaysInter, RefusesInter}
use Rattle.kept_features.specs.Firsts.{SetsBit, KeepsBehind, KeepsFirsts}
use Rattle.site_bits.specs.Paths.{word_of, GivesWord, AreWordsBelow, AreWords, prefixed}
use Rattle.site_bits.specs.Choices.{listed, below_root, AreBits, AreRootBits, AreModeBits, AreUseBits, AreOfLine, AreOfPin, AreEdgeBits}
use Rattle.site_bits.specs.Laws.{IsOne, AreBitsOnce}

abbrev pub OneOwner : Type 0
OneOwner = (count : Option ℕ) (metas : List Meta) → HasOneAnswer (Says count metas) (IsRefused count metas)

abbrev pub OneInter : Type 0
OneInter = (block : PbType) (mode : Mode) (inter : Inter) → HasOneAnswer (SaysInter block mode inter) (RefusesInter block mode inter)

some_one : {X : Type 0} (x y : X) (o : Option X) → o ≡ Some x → o ≡ Some y → x ≡ y
some_one x y o a b = (let both : Some x ≡ Some y = sym a ∙ b in cc)

one_kept : (before fs : List Feature) (a b : List Feature) → KeepsBehind before fs a → KeepsBehind before fs b → a ≡ b
one_kept before [] a b x y = x ∙ sym y
one_kept before (f ∷ fs) a b (inl x) (inl y) = one_kept (before ++ f ∷ []) fs a b x.1 y.1
one_kept before (f ∷ fs) a b (inl x) (inr y) = absurd (y.0 x.0)
one_kept before (f ∷ fs) a b (inr x) (inl y) = absurd (x.0 y.0)
one_kept before (f ∷ fs) a b (inr x) (inr y) = x.1.1 ∙ (ap (λ (l : List Feature). f ∷ l) (one_kept (before ++ f ∷ []) fs x.1.0 y.1.0 x.1.2 y.1.2) ∙ sym y.1.1)

one_of_line : (lines : List PinFeatures) (pin : LocalPin) (a b : List Feature) → AreOfLine lines pin a → AreOfLine lines pin b → a ≡ b
one_of_line [] pin a b x y = x ∙ sym y
one_of_line (line ∷ lines) pin a b (inl x) (inl y) = x.1 ∙ sym y.1
one_of_line (line ∷ lines) pin a b (inl x) (inr y) = absurd (y.0 x.0)
one_of_line (line ∷ lines) pin a b (inr x) (inl y) = absurd (x.0 y.0)
one_of_line (line ∷ lines) pin a b (inr x) (inr y) = one_of_line lines pin a b x.1 y.1

one_of_pin : (given : Option (List PinFeatures)) (pin : LocalPin) (a b : List Feature) → AreOfPin given pin a → AreOfPin given pin b → a ≡ b
one_of_pin None pin a b x y = x ∙ sym y
one_of_pin (Some lines) pin a b x y = one_of_line lines pin a b x y

module _ (owner : OneOwner) (inter : OneInter) where
  same_said : (p q : PbType) (a b : OwnerMeta) → p ≡ q → Says (Some p.count) p.metas a → Says (Some q.count) q.metas b → a ≡ b
  same_said p q a b same x y = (owner (Some q.count) q.metas).one a b (subst (λ (r : PbType). Says (Some r.count) r.metas a) same x) y

  same_mode_said : (m n : Mode) (a b : OwnerMeta) → m ≡ n → Says None (metas_of m) a → Says None (metas_of n) b → a ≡ b
  same_mode_said m n a b same x y = (owner None (metas_of n)).one a b (subst (λ (r : Mode). Says None (metas_of r) a) same x) y

  one_word : (p q : PbType) (instance : ℕ) (u v : List (List ℕ)) → p ≡ q → GivesWord p instance u → GivesWord q instance v → u ≡ v
  one_word p q instance u v same x y = x.is ∙ (ap (λ (said : OwnerMeta). word_of said.prefixes instance) (same_said p q x.said y.said same x.says y.says) ∙ sym y.is)

  one_below : (p q : PbType) (a : Address) (u v : List (List ℕ)) → p ≡ q → AreWordsBelow p a u → AreWordsBelow q a v → u ≡ v
  one_below p q [] u v same x y = x ∙ sym y
  one_below p q (hop ∷ hops) u v same x y =
      let kid : x.0 ≡ y.0 = some_one x.0 y.0 (child_at q hop) (ap (λ (r : PbType). child_at r hop) (sym same) ∙ x.1) y.1 in
      let own = one_word x.0 y.0 hop.instance x.2.0 y.2.0 kid x.2.1 y.2.1 in
      let rest = one_below x.0 y.0 hops x.2.2.0 y.2.2.0 kid x.2.2.1 y.2.2.1 in
      x.2.2.2 ∙ (ap (λ (l : List (List ℕ)). l ++ x.2.2.0) own ∙ ap (λ (l : List (List ℕ)). y.2.0 ++ l) rest ∙ sym y.2.2.2)

  module _ (block : PbType) where
    one_words : (a : Address) → IsOne (AreWords block a)
    one_words a u v x y =
        x.is ∙ (ap (λ (l : List (List ℕ)). l ++ x.rest) (one_word block block 0 x.own y.own refl x.gives y.gives)
        ∙ ap (λ (l : List (List ℕ)). y.own ++ l) (one_below block block a x.rest y.rest refl x.below y.below) ∙ sym y.is)

    same_bits : (a : Address) (fs gs u v : List Feature) → fs ≡ gs → AreBits block a fs u → AreBits block a gs v → u ≡ v
    same_bits a fs gs u v same x y =
        let words = one_words a x.words y.words x.are y.are in
        let kept = one_kept [] gs x.kept y.kept (subst (λ (l : List Feature). KeepsFirsts l x.kept) same x.keeps) y.keeps in
        x.is ∙ (ap (λ (w : List (List ℕ)). map (prefixed w) x.kept) words ∙ ap (map (prefixed y.words)) kept ∙ sym y.is)

    one_root : IsOne (AreRootBits block)
    one_root u v x y = same_bits [] (listed x.said.features) (listed y.said.features) u v (ap (λ (s : OwnerMeta). listed s.features) (same_said block block x.said y.said refl x.says y.says)) x.are y.are

    one_use : (a : Address) → IsOne (AreUseBits block a)
    one_use a u v x y =
        let p = some_one x.p y.p (at block a) x.there y.there in
        same_bits a (below_root a x.said) (below_root a y.said) u v (ap (below_root a) (same_said x.p y.p x.said y.said p x.says y.says)) x.are y.are

    one_mode : (a : Address) (number : ℕ) → IsOne (AreModeBits block a number)
    one_mode a number u v x y =
        let p = some_one x.p y.p (at block a) x.there y.there in
        let mode = some_one x.mode y.mode (slice_get (modes_of y.p.kind) number) (ap (λ (r : PbType). slice_get (modes_of r.kind) number) (sym p) ∙ x.is) y.is in
        let own = ap (below_root a) (same_said x.p y.p x.own y.own p x.own_says y.own_says) in
        let said = ap (λ (s : OwnerMeta). listed s.features) (same_mode_said x.mode y.mode x.said y.said mode x.says y.says) in
        same_bits a (below_root a x.own ++ listed x.said.features) (below_root a y.own ++ listed y.said.features) u v
        (ap (λ (l : List Feature). l ++ listed x.said.features) own ∙ ap (λ (l : List Feature). below_root a y.own ++ l) said) x.are y.are

    one_edge : (a : Address) (number place : ℕ) (source : LocalPin) → IsOne (AreEdgeBits block a number place source)
    one_edge a number place source u v x y =
        let p = some_one x.p y.p (at block a) x.there y.there in
        let mode = some_one x.mode y.mode (slice_get (modes_of y.p.kind) number) (ap (λ (r : PbType). slice_get (modes_of r.kind) number) (sym p) ∙ x.is) y.is in
        let i = some_one x.inter y.inter (slice_get (inters_of y.mode) place) (ap (λ (m : Mode). slice_get (inters_of m) place) (sym mode) ∙ x.is_inter) y.is_inter in
        let says : SaysInter y.p y.mode y.inter x.given =
        subst (λ (r : Inter). SaysInter y.p y.mode r x.given) i (subst (λ (m : Mode). SaysInter y.p m x.inter x.given) mode (subst (λ (r : PbType). SaysInter r x.mode x.inter x.given) p x.says)) in
        let given = (inter y.p y.mode y.inter).one x.given y.given says y.says in
        same_bits a x.features y.features u v (one_of_pin y.given source x.features y.features (subst (λ (g : Option (List PinFeatures)). AreOfPin g source x.features) given x.of_pin) y.of_pin) x.are y.are

    pub bits_once : AreBitsOnce block
    bits_once = record { words = one_words; root = one_root; modes = one_mode; uses = one_use; edges = one_edge }
