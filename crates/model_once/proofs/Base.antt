-- What lines need of lists, of the last element and of pins is found in one way.
use Rattle.std.proofs.Common.{◌≡◌, ◌<◌, ◌↔◌, inl, inr, ℕ, Bool, true, false, List, [], ◌∷◌, ◌++◌, Some, IsTrue, length, refl, sym, ap, ◌∙◌, subst, arith}
use Rattle.std.specs.Prelude.{slice_set}
use Rattle.vtr_base.specs.Lists.{Has, IsFirstPlace}
use Rattle.list_laws.proofs.Members.{has_at}
use Rattle.arch_types.specs.declared.arch.CellModel.{CellModel}
use Rattle.blif_nets.specs.Mentions.{NumbersAll}
use Rattle.blif_boxes.specs.Pins.{ActualSaid, says_unconnected, says_net, PinSaid}
use Rattle.blif_books.specs.Books.{BookSaid}
use Rattle.blif_books.specs.Laws.{HasOneBook}
use Rattle.blif_items.specs.declared.elem.PinAt.{PinAt}
use Rattle.blif_items.specs.Items.{ElemSaid}
use Rattle.blif_items.specs.Params.{names_of, PutsParam}
use Rattle.blif_items.specs.Pins.{IsPinAt, PlacesPin, PlacesPins, IsCellName}
use Rattle.blif_parts.specs.Models.{ItemSaid, is_input, is_output, is_elem, elems_of, HasLast}

pub some_same : {X : Type 0} (x y : X) → Some x ≡ Some y → x ≡ y
some_same x y is = cc

pub one_place : (xs : List (List ℕ)) (x : List ℕ) (m n : ℕ) → IsFirstPlace xs x m → IsFirstPlace xs x n → m ≡ n
one_place xs x m n a b =
    let low : m < n → ⊥ = λ l. b.first m l a.there in
    let high : n < m → ⊥ = λ l. a.first n l b.there in
    omega (arith, low, high)

pub one_truth : (a b : Bool) (X : Type 0) → IsTrue a ↔ X → IsTrue b ↔ X → a ≡ b
one_truth true true X a b = refl
one_truth true false X a b = sym (b.1 (a.0 refl))
one_truth false true X a b = a.1 (b.0 refl)
one_truth false false X a b = refl

-- as many numbers as names
pub numbers_long : (old names new : List (List ℕ)) (numbers : List ℕ) → NumbersAll old names new numbers → length numbers ≡ length names
numbers_long old [] new numbers all = ap length all.1
numbers_long old (name ∷ names) new numbers all = omega (arith, ap length all.4, numbers_long all.0 names new all.2 all.5)

-- the last element

append_elems : (front pads : List ItemSaid) (e : ElemSaid) → elems_of (front ++ is_elem e ∷ pads) ≡ [] → ⊥
append_elems [] pads e none = let bad : ⊥ = cc none in bad
append_elems (is_input net ∷ front) pads e none = append_elems front pads e none
append_elems (is_output net ∷ front) pads e none = append_elems front pads e none
append_elems (is_elem x ∷ front) pads e none = let bad : ⊥ = cc none in bad

pub last_elems : (items front : List ItemSaid) (e : ElemSaid) (pads : List ItemSaid) → HasLast items front e pads → elems_of items ≡ [] → ⊥
last_elems items front e pads last none = append_elems front pads e (ap elems_of (sym last.are) ∙ none)

pub record AreSameLast (front other : List ItemSaid) (e f : ElemSaid) (pads behind : List ItemSaid) : Type 0 where
  pub front_is : front ≡ other
  pub elem_is : e ≡ f
  pub pads_is : pads ≡ behind

same_lasts : (front other pads behind : List ItemSaid) (e f : ElemSaid) → front ++ is_elem e ∷ pads ≡ other ++ is_elem f ∷ behind → elems_of pads ≡ [] → elems_of behind ≡ [] →
    AreSameLast front other e f pads behind
same_lasts [] [] pads behind e f same a b = record { front_is = refl; elem_is = cc same; pads_is = cc same }
same_lasts [] (y ∷ other) pads behind e f same a b =
    let rest : pads ≡ other ++ is_elem f ∷ behind = cc same in absurd (append_elems other behind f (ap elems_of (sym rest) ∙ a))
same_lasts (x ∷ front) [] pads behind e f same a b =
    let rest : front ++ is_elem e ∷ pads ≡ behind = cc same in absurd (append_elems front pads e (ap elems_of rest ∙ b))
same_lasts (x ∷ front) (y ∷ other) pads behind e f same a b =
    let head : x ≡ y = cc same in
    let tail : front ++ is_elem e ∷ pads ≡ other ++ is_elem f ∷ behind = cc same in
    let rest = same_lasts front other pads behind e f tail a b in
    record { front_is = ap (λ z. z ∷ front) head ∙ ap (λ l. y ∷ l) rest.front_is; elem_is = rest.elem_is; pads_is = rest.pads_is }

pub one_last : (items front other : List ItemSaid) (e f : ElemSaid) (pads behind : List ItemSaid) → HasLast items front e pads → HasLast items other f behind → AreSameLast front other e f pads behind
one_last items front other e f pads behind a b = same_lasts front other pads behind e f (sym a.are ∙ b.are) a.pads_only b.pads_only

-- parameters

pub one_put : (old : List (List ℕ × List ℕ)) (name value : List ℕ) (new other : List (List ℕ × List ℕ)) → PutsParam old name value new → PutsParam old name value other → new ≡ other
one_put old name value new other (inl a) (inl b) = a.2 ∙ (ap (λ k. slice_set old k (name, value)) (one_place (names_of old) name a.0 b.0 a.1 b.1) ∙ sym b.2)
one_put old name value new other (inl a) (inr b) = absurd (b.0 (has_at (names_of old) a.0 name a.1.there))
one_put old name value new other (inr a) (inl b) = absurd (a.0 (has_at (names_of old) b.0 name b.1.there))
one_put old name value new other (inr a) (inr b) = a.1 ∙ sym b.1

-- names of boxes

pub one_name : (nets : List (List ℕ)) (boxes : ℕ) (outs : List ℕ) (name other : List ℕ) → IsCellName nets boxes outs name → IsCellName nets boxes outs other → name ≡ other
one_name nets boxes [] name other a b = a ∙ sym b
one_name nets boxes (net ∷ outs) name other a b = some_same name other (sym a ∙ b)

-- pins

pin_at : List ℕ → ℕ → ℕ → Bool → PinAt
pin_at port bit net side = record { port = port; bit = bit; net = net; is_output = side }

one_pin : (model : CellModel) (p : PinSaid) (net : ℕ) (a b : PinAt) → IsPinAt model p net a → IsPinAt model p net b → a ≡ b
unfolding pin_at
one_pin model p net a b x y =
    ap (λ t. pin_at t a.bit a.net a.is_output) (x.port ∙ sym y.port) ∙
    (ap (λ t. pin_at b.port t a.net a.is_output) (x.bit ∙ sym y.bit) ∙
    (ap (λ t. pin_at b.port b.bit t a.is_output) (x.net_is ∙ sym y.net_is) ∙ ap (λ t. pin_at b.port b.bit b.net t) (one_truth a.is_output b.is_output (Has model.outs p.port) x.side y.side)))

module _ (book : HasOneBook) where
  one_placing : (model : CellModel) (p : PinSaid) (a : ActualSaid) (old new other : BookSaid) (pins qins : List PinAt) → PlacesPin model p a old new pins → PlacesPin model p a old other qins →
      (new ≡ other) × (pins ≡ qins)
  one_placing model p says_unconnected old new other pins qins a b = (a.0 ∙ sym b.0, a.1 ∙ sym b.1)
  one_placing model p (says_net name) old new other pins qins a b =
      let same = book.mention old name new other a.0 b.0 a.2 b.2 in
      let pin : a.1 ≡ b.1 = one_pin model p b.0 a.1 b.1 (subst (λ n. IsPinAt model p n a.1) same.1 a.3) b.3 in
      (same.0, a.4 ∙ (ap (λ x. x ∷ []) pin ∙ sym b.4))

  pub one_places : (model : CellModel) (ps : List PinSaid) (old new other : BookSaid) (pins qins : List PinAt) → PlacesPins model ps old new pins → PlacesPins model ps old other qins →
      (new ≡ other) × (pins ≡ qins)
  one_places model [] old new other pins qins a b = (a.0 ∙ sym b.0, a.1 ∙ sym b.1)
  one_places model (p ∷ ps) old new other pins qins a b =
      let here = one_placing model p p.actual old a.0 b.0 a.1 b.1 a.3 b.3 in
      let rest = one_places model ps b.0 new other a.2 b.2 (subst (λ m. PlacesPins model ps m new a.2) here.0 a.5) b.5 in
      (rest.0, a.4 ∙ (ap (λ l. l ++ a.2) here.1 ∙ (ap (λ l. b.1 ++ l) rest.1 ∙ sym b.4)))
