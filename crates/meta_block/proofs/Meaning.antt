-- What the metadata of a block type says is one, and is told in one way.
use Rattle.std.proofs.Common.{◌≡◌, inl, inr, ℕ, List, [], ◌∷◌, Option, Some, None, MatchOption, sym, ap, ◌∙◌, subst, arith}
use Rattle.arch_types.specs.declared.block.PbType.{PbType}
use Rattle.arch_types.specs.declared.block.Mode.{Mode}
use Rattle.arch_types.specs.declared.block.Inter.{Inter}
use Rattle.arch_types.specs.declared.block.Meta.{Meta}
use Rattle.arch_types.specs.Tree.{metas_of}
use Rattle.meta_lines.specs.Each.{Each}
use Rattle.meta_lines.specs.declared.types.Field.{Field}
use Rattle.meta_lines.specs.declared.error.LineError.{LineError}
use Rattle.meta_said.specs.declared.types.OwnerMeta.{OwnerMeta}
use Rattle.meta_said.specs.declared.types.LutFields.{LutFields}
use Rattle.meta_said.specs.Answers.{HasOneAnswer as HasOneLineAnswer}
use Rattle.meta_said.specs.Owners.{Says, IsRefused}
use Rattle.meta_said.specs.Inters.{SaysInter, RefusesInter}
use Rattle.lut_widths.specs.Fields.{Misfits, IsLeast, UsesOfMode, UsesOfPbType}
use Rattle.meta_block.specs.declared.types.OwnerSaid.{OwnerSaid}
use Rattle.meta_block.specs.declared.types.OwnerSaid.TheVariants as say
use Rattle.meta_block.specs.declared.error.MetaError.{MetaError}
use Rattle.meta_block.specs.declared.error.MetaError.TheVariants.{LutWidth}
use Rattle.meta_block.specs.Telling.{told}
use Rattle.meta_block.specs.Owners.{Owner, pb_type_at, mode_at, inter_at, SaysOwn, RefusesOwn, RefusesWidth, RefusesPins, SaysOwner, RefusesOwner, RefusesOwners}
use Rattle.meta_block.specs.Answers.{HasOneAnswer}

-- what is known of single owners
pub record Known : Type 0 where
  pub owner : (count : Option ℕ) (metas : List Meta) → HasOneLineAnswer (Says count metas) (IsRefused count metas)
  pub inter : (block : PbType) (mode : Mode) (i : Inter) → HasOneLineAnswer (SaysInter block mode i) (RefusesInter block mode i)

-- texts and widths

module _ (known : Known) (name : List ℕ) (count : Option ℕ) (metas : List Meta) (Uses : LutFields → ℕ → Field → ℕ → Type 0) where
  one_texts : (x y : LineError) (e f : MetaError) → IsRefused count metas x → IsRefused count metas y → e ≡ told name x → f ≡ told name y → e ≡ f
  one_texts x y e f a b p q = p ∙ (ap (told name) ((known.owner count metas).refused x y a b) ∙ sym q)

  same_fields : (said also : OwnerMeta) (fields others : LutFields) → Says count metas said → Says count metas also → said.luts ≡ Some fields → also.luts ≡ Some others → fields ≡ others
  same_fields said also fields others a b is are = by (sym is ∙ (ap (λ (o : OwnerMeta). o.luts) ((known.owner count metas).one said also a b) ∙ are))
    where
      by : Some fields ≡ Some others → fields ≡ others
      by e = cc

  one_least : (P : ℕ → Type 0) (m n : ℕ) → IsLeast P (Some m) → IsLeast P (Some n) → m ≡ n
  one_least P m n a b = let p = a.1 n b.0 in let q = b.1 m a.0 in omega (arith, p, q)

  one_width : (e f : MetaError) → RefusesWidth name count metas Uses e → RefusesWidth name count metas Uses f → e ≡ f
  one_width e f a b =
      let same : a.fields ≡ b.fields = same_fields a.said b.said a.fields b.fields a.texts b.texts a.luts b.luts in
      let line : a.line ≡ b.line = one_least (Misfits (Uses b.fields)) a.line b.line (subst (λ (x : LutFields). IsLeast (Misfits (Uses x)) (Some a.line)) same a.least) b.least in
      a.is ∙ (ap (λ (n : ℕ). LutWidth name n) line ∙ sym b.is)

  pub one_own : HasOneAnswer (SaysOwn count metas Uses) (RefusesOwn name count metas Uses)
  one_own = record { one = λ a b says also. (known.owner count metas).one a b says.texts also.texts; refused = refused; apart = apart }
    where
      refused : (e f : MetaError) → RefusesOwn name count metas Uses e → RefusesOwn name count metas Uses f → e ≡ f
      refused e f (inl a) (inl b) = one_texts a.error b.error e f a.refused b.refused a.is b.is
      refused e f (inl a) (inr b) = absurd ((known.owner count metas).apart b.said a.error b.texts a.refused)
      refused e f (inr a) (inl b) = absurd ((known.owner count metas).apart a.said b.error a.texts b.refused)
      refused e f (inr a) (inr b) = one_width e f a b

      fits : (luts : Option LutFields) (fields : LutFields) (line : ℕ) → luts ≡ Some fields → MatchOption luts (Unit {0}) (λ x. IsLeast (Misfits (Uses x)) None) → Misfits (Uses fields) line → ⊥
      fits None fields line is none misfits = absurd (cc)
      fits (Some x) fields line is none misfits = none line (subst (λ (y : LutFields). Misfits (Uses y) line) (by is) misfits)
        where
          by : Some x ≡ Some fields → fields ≡ x
          by e = cc

      apart : (said : OwnerMeta) (e : MetaError) → SaysOwn count metas Uses said → RefusesOwn name count metas Uses e → ⊥
      apart said e says (inl a) = (known.owner count metas).apart said a.error says.texts a.refused
      apart said e says (inr b) =
          let same : said ≡ b.said = (known.owner count metas).one said b.said says.texts b.texts in
          fits said.luts b.fields b.line (ap (λ (o : OwnerMeta). o.luts) same ∙ b.luts) says.widths b.least.0

-- owners

one_pins : Known → (name : List ℕ) (block : PbType) (mode : Mode) (i : Inter) (e f : MetaError) → RefusesPins name block mode i e → RefusesPins name block mode i f → e ≡ f
one_pins known name block mode i e f a b = a.is ∙ (ap (told name) ((known.inter block mode i).refused a.error b.error a.refused b.refused) ∙ sym b.is)

pb_type_answer : Known → (way : List (List ℕ)) (block : PbType) → HasOneAnswer (SaysOwn (Some block.count) block.metas (λ fields. UsesOfPbType block fields)) (RefusesOwner (pb_type_at way block))
pb_type_answer known way block = one_own known _ (Some block.count) block.metas (λ fields. UsesOfPbType block fields)

mode_answer : Known → (way : List (List ℕ)) (mode : Mode) → HasOneAnswer (SaysOwn None (metas_of mode) (λ fields. UsesOfMode mode fields)) (RefusesOwner (mode_at way mode))
mode_answer known way mode = one_own known _ None (metas_of mode) (λ fields. UsesOfMode mode fields)

one_says : Known → (owner : Owner) (a b : OwnerSaid) → SaysOwner owner a → SaysOwner owner b → a ≡ b
one_says known (pb_type_at way block) (say.PbType a) (say.PbType b) x y = ap say.PbType ((pb_type_answer known way block).one a b x y)
one_says known (mode_at way mode) (say.Mode a) (say.Mode b) x y = ap say.Mode ((mode_answer known way mode).one a b x y)
one_says known (inter_at way block mode i) (say.Inter a) (say.Inter b) x y = ap say.Inter ((known.inter block mode i).one a b x y)
one_says known (pb_type_at way block) (say.PbType a) (say.Mode b) x y = absurd y
one_says known (pb_type_at way block) (say.PbType a) (say.Inter b) x y = absurd y
one_says known (pb_type_at way block) (say.Mode a) b x y = absurd x
one_says known (pb_type_at way block) (say.Inter a) b x y = absurd x
one_says known (mode_at way mode) (say.Mode a) (say.PbType b) x y = absurd y
one_says known (mode_at way mode) (say.Mode a) (say.Inter b) x y = absurd y
one_says known (mode_at way mode) (say.PbType a) b x y = absurd x
one_says known (mode_at way mode) (say.Inter a) b x y = absurd x
one_says known (inter_at way block mode i) (say.Inter a) (say.PbType b) x y = absurd y
one_says known (inter_at way block mode i) (say.Inter a) (say.Mode b) x y = absurd y
one_says known (inter_at way block mode i) (say.PbType a) b x y = absurd x
one_says known (inter_at way block mode i) (say.Mode a) b x y = absurd x

one_refuses : Known → (owner : Owner) (e f : MetaError) → RefusesOwner owner e → RefusesOwner owner f → e ≡ f
one_refuses known (pb_type_at way block) e f x y = (pb_type_answer known way block).refused e f x y
one_refuses known (mode_at way mode) e f x y = (mode_answer known way mode).refused e f x y
one_refuses known (inter_at way block mode i) e f x y = one_pins known _ block mode i e f x y

owner_apart : Known → (owner : Owner) (a : OwnerSaid) (e : MetaError) → SaysOwner owner a → RefusesOwner owner e → ⊥
owner_apart known (pb_type_at way block) (say.PbType a) e x y = (pb_type_answer known way block).apart a e x y
owner_apart known (pb_type_at way block) (say.Mode a) e x y = x
owner_apart known (pb_type_at way block) (say.Inter a) e x y = x
owner_apart known (mode_at way mode) (say.Mode a) e x y = (mode_answer known way mode).apart a e x y
owner_apart known (mode_at way mode) (say.PbType a) e x y = x
owner_apart known (mode_at way mode) (say.Inter a) e x y = x
owner_apart known (inter_at way block mode i) (say.Inter a) e x y = (known.inter block mode i).apart a y.error x y.refused
owner_apart known (inter_at way block mode i) (say.PbType a) e x y = x
owner_apart known (inter_at way block mode i) (say.Mode a) e x y = x

-- lists of owners

all_one : Known → (owners : List Owner) (a b : List OwnerSaid) → Each SaysOwner owners a → Each SaysOwner owners b → a ≡ b
all_one known [] a b x y = x ∙ sym y
all_one known (o ∷ os) [] b x y = absurd x
all_one known (o ∷ os) (s ∷ a) [] x y = absurd y
all_one known (o ∷ os) (s ∷ a) (t ∷ b) x y = ap (λ (r : OwnerSaid). r ∷ a) (one_says known o s t x.0 y.0) ∙ ap (λ (l : List OwnerSaid). t ∷ l) (all_one known os a b x.1 y.1)

all_refused : Known → (owners : List Owner) (e f : MetaError) → RefusesOwners owners e → RefusesOwners owners f → e ≡ f
all_refused known [] e f x y = absurd x
all_refused known (o ∷ os) e f (inl x) (inl y) = one_refuses known o e f x y
all_refused known (o ∷ os) e f (inl x) (inr y) = absurd (owner_apart known o y.0 e y.1 x)
all_refused known (o ∷ os) e f (inr x) (inl y) = absurd (owner_apart known o x.0 f x.1 y)
all_refused known (o ∷ os) e f (inr x) (inr y) = all_refused known os e f x.2 y.2

all_apart : Known → (owners : List Owner) (a : List OwnerSaid) (e : MetaError) → Each SaysOwner owners a → RefusesOwners owners e → ⊥
all_apart known [] a e x y = y
all_apart known (o ∷ os) [] e x y = x
all_apart known (o ∷ os) (s ∷ a) e x (inl y) = owner_apart known o s e x.0 y
all_apart known (o ∷ os) (s ∷ a) e x (inr y) = all_apart known os a e x.1 y.2

pub owners_mean_one : Known → (owners : List Owner) → HasOneAnswer (Each SaysOwner owners) (RefusesOwners owners)
owners_mean_one known owners = record { one = all_one known owners; refused = all_refused known owners; apart = all_apart known owners }
