-- A part of a file is refused in one way, and never where it is read.
use Rattle.std.proofs.Common.{◌≡◌, ◌⊎◌, ℕ, List, [], ◌∷◌, ◌++◌, Option, Some, map, codes, refl, sym, ap, ◌∙◌, subst, inl, inr}
use Rattle.vtr_base.specs.Lists.{Has}
use Rattle.list_laws.specs.Orders.{Once}
use Rattle.list_laws.proofs.Members.{has_map, has_right}
use Rattle.elem_text.specs.declared.elem.Elem.{Elem}
use Rattle.elem_attrs.specs.Attributes.{HasAttribute, LacksAttribute}
use Rattle.arch_types.specs.declared.arch.Tile.{Tile}
use Rattle.rr_items.specs.declared.switches.Switch.{Switch}
use Rattle.rr_items.specs.Switches.{SaysSwitch}
use Rattle.rr_places.specs.declared.error.PlaceError.{PlaceError}
use Rattle.rr_places.specs.declared.error.PlaceError.TheVariants.{UnknownBlock}
use Rattle.rr_places.specs.Reading.{EachSays, AreRead, IsFirstRefused}
use Rattle.rr_places.specs.Switches.{id_of, IsBadSwitch}
use Rattle.rr_places.specs.Pins.{PinItem, NumberedPin, SaysPin, IsBadPin, ptc_of, named_of, classed_pins}
use Rattle.rr_places.specs.Types.{NumberedType, IsTileName, SaysType, HasHead, IsHeadless, IsBadType, tile_at, type_id, ArePins, ArePinsRefused}
use Rattle.rr_places.proofs.OneReading.{same_values, one_pin, one_tile}
use Rattle.rr_places.proofs.TileReading.{one_number}

-- two fronts of a list end at one element, or one of them goes on into the other
abbrev Goes : {A : Type 0} → List A → A → List A → Type 0
Goes {A} xs x ys = (more : List A) × (ys ≡ xs ++ x ∷ more)

meets : {A : Type 0} (xs ys : List A) (x y : A) (rest more : List A) → xs ++ x ∷ rest ≡ ys ++ y ∷ more →
    ((xs ≡ ys) × (x ≡ y)) ⊎ (Goes ys y xs ⊎ Goes xs x ys)
meets [] [] x y rest more e = inl (refl, cc)
meets [] (b ∷ ys) x y rest more e = let is : b ≡ x = cc in inr (inr (ys, ap (λ z. z ∷ ys) is))
meets (a ∷ xs) [] x y rest more e = let is : a ≡ y = cc in inr (inl (xs, ap (λ z. z ∷ xs) is))
meets (a ∷ xs) (b ∷ ys) x y rest more e =
    let head : a ≡ b = cc in
    let tail : xs ++ x ∷ rest ≡ ys ++ y ∷ more = cc in
    elim (meets xs ys x y rest more tail) [
      | inl same ↦ inl (ap (λ z. z ∷ xs) head ∙ ap (λ l. b ∷ l) same.0, same.1)
      | inr on ↦ elim on [
        | inl p ↦ inr (inl (p.0, ap (λ z. z ∷ xs) head ∙ ap (λ l. b ∷ l) p.1))
        | inr q ↦ inr (inr (q.0, ap (λ z. z ∷ ys) (sym head) ∙ ap (λ l. a ∷ l) q.1))
      ]
    ]

record SplitAt {A B : Type 0} (Says : A → B → Type 0) (before : List A) (a : A) (values : List B) : Type 0 where
  front : List B
  value : B
  back : List B
  spelled : values ≡ front ++ value ∷ back
  each : EachSays Says before front
  says : Says a value

split_at : {A B : Type 0} (Says : A → B → Type 0) (before : List A) (a : A) (behind : List A) (values : List B) →
    EachSays Says (before ++ a ∷ behind) values → SplitAt Says before a values
split_at Says [] a behind [] each = absurd each
split_at Says [] a behind (v ∷ vs) each = record { front = []; value = v; back = vs; spelled = refl; each = tt; says = each.0 }
split_at Says (b ∷ before) a behind [] each = absurd each
split_at Says (b ∷ before) a behind (v ∷ vs) each =
    let s = split_at Says before a behind vs each.1 in
    record { front = v ∷ s.front; value = s.value; back = s.back; spelled = ap (λ l. v ∷ l) s.spelled; each = (each.0, s.each); says = s.says }

once_middle : {B K : Type 0} (key : B → K) (front : List B) (value : B) (back : List B) → Once (map key (front ++ value ∷ back)) → Has (map key front) (key value) → ⊥
once_middle key [] value back once has = has
once_middle key (f ∷ front) value back once (inl is) =
    once.0 (subst (Has (map key (front ++ value ∷ back))) is (has_map key (front ++ value ∷ back) value (has_right front (value ∷ back) value (inl refl))))
once_middle key (f ∷ front) value back once (inr has) = once_middle key front value back once.1 has

module _ {A B K E : Type 0} (Says : A → B → Type 0) (key : B → K) (Refused : List B → A → E → Type 0)
    (one : (a : A) (b c : B) → Says a b → Says a c → b ≡ c)
    (apart : (values : List B) (a : A) (e : E) (b : B) → Refused values a e → Says a b → (Has (map key values) (key b) → ⊥) → ⊥)
    (same : (values : List B) (a : A) (d e : E) → Refused values a d → Refused values a e → d ≡ e) where
  pub not_both : (items : List A) (values : List B) (e : E) → AreRead Says key items values → IsFirstRefused Says key Refused items e → ⊥
  not_both items values e read refused =
      let each : EachSays Says (refused.before ++ refused.item ∷ refused.behind) values = subst (λ l. EachSays Says l values) refused.spelled read.each in
      let s = split_at Says refused.before refused.item refused.behind values each in
      let front : s.front ≡ refused.values = same_values Says one refused.before s.front refused.values s.each refused.read.each in
      apart refused.values refused.item e s.value refused.refused s.says
      (λ has. once_middle key s.front s.value s.back (subst (λ l. Once (map key l)) s.spelled read.once)
      (subst (λ l. Has (map key l) (key s.value)) (sym front) has))

  pub one_way : (items : List A) (d e : E) → IsFirstRefused Says key Refused items d → IsFirstRefused Says key Refused items e → d ≡ e
  one_way items d e p q =
      elim (meets p.before q.before p.item q.item p.behind q.behind (sym p.spelled ∙ q.spelled)) [
        | inl both ↦
            (let values : p.values ≡ q.values =
            same_values Says one q.before p.values q.values (subst (λ l. EachSays Says l p.values) both.0 p.read.each) q.read.each in
            same q.values q.item d e (subst (λ v. Refused v q.item d) values (subst (λ a. Refused p.values a d) both.1 p.refused)) q.refused)
        | inr on ↦ elim on [
          | inl more ↦ absurd (not_both p.before p.values e p.read
              (record { before = q.before; item = q.item; behind = more.0; spelled = more.1; values = q.values; read = q.read; refused = q.refused }))
          | inr more ↦ absurd (not_both q.before q.values d q.read
              (record { before = p.before; item = p.item; behind = more.0; spelled = more.1; values = p.values; read = p.read; refused = p.refused }))
        ]
      ]

-- switches

pub switch_apart : (seen : List Switch) (e : Elem) (error : PlaceError) (s : Switch) → IsBadSwitch seen e error → SaysSwitch e s →
    (Has (map id_of seen) (id_of s) → ⊥) → ⊥
switch_apart seen e error s bad says fresh = fresh (bad.bad s says)

pub switch_same : (seen : List Switch) (e : Elem) (c d : PlaceError) → IsBadSwitch seen e c → IsBadSwitch seen e d → c ≡ d
switch_same seen e c d p q = p.told ∙ sym q.told

-- pins

pin_apart : (tile : Option Tile) (seen : List NumberedPin) (item : PinItem) (error : PlaceError) (p : NumberedPin) → IsBadPin tile seen item error → SaysPin tile item p →
    (Has (map ptc_of seen) (ptc_of p) → ⊥) → ⊥
pin_apart tile seen item error p (inl lacks) says fresh = lacks.none p.0 says.ptc
pin_apart tile seen item error p (inr none) says fresh = elim none.unknown [
  | inl known ↦ fresh (subst (Has (map ptc_of seen)) (one_number item.1 (codes "ptc") 2147483647 none.ptc p.0 none.numbered says.ptc)
      (has_map ptc_of seen (none.ptc, known.0) known.1))
  | inr no_pin ↦ no_pin (named_of p.1) says.named
]

pin_same : (tile : Option Tile) (seen : List NumberedPin) (item : PinItem) (c d : PlaceError) → IsBadPin tile seen item c → IsBadPin tile seen item d → c ≡ d
pin_same tile seen item c d (inl p) (inl q) = p.told ∙ sym q.told
pin_same tile seen item c d (inl p) (inr q) = absurd (p.none q.ptc q.numbered)
pin_same tile seen item c d (inr p) (inl q) = absurd (q.none p.ptc p.numbered)
pin_same tile seen item c d (inr p) (inr q) = p.told ∙ sym q.told

-- block types

lacks_or_has : (e : Elem) (name value : List ℕ) → LacksAttribute e name → HasAttribute e name value → ⊥
lacks_or_has e name value lacks has = cc (sym lacks ∙ has)

one_attribute : (e : Elem) (name v w : List ℕ) → HasAttribute e name v → HasAttribute e name w → v ≡ w
one_attribute e name v w p q = let both : Some v ≡ Some w = sym p ∙ q in cc

headless_apart : (seen : List NumberedType) (e : Elem) (error : PlaceError) (id : ℕ) (name : List ℕ) → IsHeadless seen e error → HasHead seen e id name → ⊥
headless_apart seen e error id name headless head = elim headless.lacks [
  | inl known ↦ head.fresh (known id head.number)
  | inr lacks ↦ lacks_or_has e (codes "name") name lacks head.named
]

pub type_apart : (tiles : List Tile) (seen : List NumberedType) (e : Elem) (error : PlaceError) (t : NumberedType) → IsBadType tiles seen e error → SaysType tiles e t →
    (Has (map type_id seen) (type_id t) → ⊥) → ⊥
type_apart tiles seen e error t bad says fresh = by bad
  where
    head : HasHead seen e t.0 says.name
    head = record { number = says.id; fresh = λ known. fresh (has_map type_id seen (t.0, known.0) known.1); named = says.named }

    by : IsBadType tiles seen e error → ⊥
    by (inl headless) = headless_apart seen e error t.0 says.name headless head
    by (inr (inl none)) =
        let name = one_attribute e (codes "name") says.name none.name says.named none.head.named in
        none.none t.1.tile (subst (λ n. IsTileName tiles n t.1.tile) name says.tile)
    by (inr (inr bad_pin)) =
        let name = one_attribute e (codes "name") says.name bad_pin.name says.named bad_pin.head.named in
        let tile = one_tile tiles bad_pin.name t.1.tile bad_pin.tile (subst (λ n. IsTileName tiles n t.1.tile) name says.tile) bad_pin.is in
        let there = tile_at tiles bad_pin.tile in
        not_both (SaysPin there) ptc_of (IsBadPin there) (one_pin there) (pin_apart there) (pin_same there) (classed_pins e) t.1.pins error
        (subst (λ n. ArePins tiles n e t.1.pins) tile says.pins) bad_pin.refused

pub type_same : (tiles : List Tile) (seen : List NumberedType) (e : Elem) (c d : PlaceError) → IsBadType tiles seen e c → IsBadType tiles seen e d → c ≡ d
type_same tiles seen e c d (inl p) (inl q) = p.told ∙ sym q.told
type_same tiles seen e c d (inl p) (inr (inl q)) = absurd (headless_apart seen e c q.id q.name p q.head)
type_same tiles seen e c d (inl p) (inr (inr q)) = absurd (headless_apart seen e c q.id q.name p q.head)
type_same tiles seen e c d (inr (inl p)) (inl q) = absurd (headless_apart seen e d p.id p.name q p.head)
type_same tiles seen e c d (inr (inl p)) (inr (inl q)) =
    p.told ∙ ap UnknownBlock (one_number e (codes "id") 2147483647 p.id q.id p.head.number q.head.number) ∙ sym q.told
type_same tiles seen e c d (inr (inl p)) (inr (inr q)) =
    absurd (p.none q.tile (subst (λ n. IsTileName tiles n q.tile) (one_attribute e (codes "name") q.name p.name q.head.named p.head.named) q.is))
type_same tiles seen e c d (inr (inr p)) (inl q) = absurd (headless_apart seen e d p.id p.name q p.head)
type_same tiles seen e c d (inr (inr p)) (inr (inl q)) =
    absurd (q.none p.tile (subst (λ n. IsTileName tiles n p.tile) (one_attribute e (codes "name") p.name q.name p.head.named q.head.named) p.is))
type_same tiles seen e c d (inr (inr p)) (inr (inr q)) =
    let name = one_attribute e (codes "name") p.name q.name p.head.named q.head.named in
    let tile = one_tile tiles q.name p.tile q.tile (subst (λ n. IsTileName tiles n p.tile) name p.is) q.is in
    let there = tile_at tiles q.tile in
    one_way (SaysPin there) ptc_of (IsBadPin there) (one_pin there) (pin_apart there) (pin_same there) (classed_pins e) c d
    (subst (λ n. ArePinsRefused tiles n e c) tile p.refused) q.refused
