-- The first lines for instances, and the set of instances that some line is for.
use Rattle.std.proofs.Common.{◌≡◌, ◌⊎◌, ◌&&◌, ◌||◌, inl, inr, ℕ, Bool, true, false, nat_eq, List, [], ◌∷◌, ◌++◌, Some, if◌then◌else◌, slice_get, refl, sym, ap, ◌∙◌, subst, arith}
use Rattle.std.specs.List.{list_any}
use Rattle.std.proofs.lemmas.Bool.Decides.{nat_tests}
use Rattle.std.proofs.lemmas.Bool.{false≢true, and_parts, and_from, or_cases}
use Rattle.indexmap.specs.IndexSet.{insert_key}
use Rattle.vtr_base.specs.Lists.{Has}
use Rattle.list_laws.specs.Orders.{Once}
use Rattle.list_laws.proofs.Members.{has_left, has_last, has_pushed}
use Rattle.list_laws.proofs.Onces.{once_at}
use Rattle.meta_lines.specs.declared.types.ChildField.{ChildField}
use Rattle.lut_widths.specs.declared.lines.SeenLine.{SeenLine}
use Rattle.lut_widths.specs.Fields.{IsFor, IsFirstFor}
use Rattle.lut_widths.specs.Tables.{HasLine, AreSeen}

-- `==` of instances

abbrev pub same_place : SeenLine → SeenLine → Bool
same_place x y = nat_eq x.child y.child && nat_eq x.instance y.instance

abbrev place_of : ℕ → ℕ → SeenLine
place_of child instance = record { child = child; instance = instance }

nat_same : (m n : ℕ) → nat_eq m n ≡ true → m ≡ n
nat_same m n e = grind (arith, nat_tests)

nat_itself : (m : ℕ) → nat_eq m m ≡ true
nat_itself m = grind (arith, nat_tests)

place_same : (x y : SeenLine) → same_place x y ≡ true → x ≡ y
place_same x y e =
    let k = and_parts (nat_eq x.child y.child) (nat_eq x.instance y.instance) e in
    ap (λ (c : ℕ). place_of c x.instance) (nat_same x.child y.child k.0) ∙ ap (λ (i : ℕ). place_of y.child i) (nat_same x.instance y.instance k.1)

place_itself : (x : SeenLine) → same_place x x ≡ true
place_itself x = and_from (nat_eq x.child x.child) (nat_eq x.instance x.instance) (nat_itself x.child) (nat_itself x.instance)

pub any_place : (ks : List SeenLine) (k : SeenLine) → list_any (same_place k) ks ≡ true → Has ks k
any_place [] k e = absurd (false≢true e)
any_place (x ∷ ks) k e = elim (or_cases (same_place k x) (list_any (same_place k) ks) e) [ inl here ↦ inl (place_same k x here) | inr later ↦ inr (any_place ks k later) ]

pub no_place : (ks : List SeenLine) (k : SeenLine) → list_any (same_place k) ks ≡ false → Has ks k → ⊥
no_place [] k e has = has
no_place (x ∷ ks) k e has = by (same_place k x) (list_any (same_place k) ks) refl (no_place ks k) e has
  where
    by : (a b : Bool) → same_place k x ≡ a → (b ≡ false → Has ks k → ⊥) → (a || b) ≡ false → Has (x ∷ ks) k → ⊥
    by true b here rest none h = absurd (false≢true (sym none))
    by false b here rest none (inl is) = false≢true (sym here ∙ (ap (λ (q : SeenLine). same_place k q) (sym is) ∙ place_itself k))
    by false b here rest none (inr later) = rest none later

-- a key that isn't there goes last
pub inserted : (keys : List SeenLine) (k : SeenLine) → list_any (same_place k) keys ≡ false → insert_key same_place keys k ≡ keys ++ k ∷ []
inserted keys k none = ap (λ (t : Bool). if t then keys else keys ++ k ∷ []) none

-- first lines

pub first_on : (xs ys : List ChildField) (name : List ℕ) (i : ℕ) (d : ChildField) → IsFirstFor xs name i d → IsFirstFor (xs ++ ys) name i d
first_on [] ys name i d first = absurd first
first_on (x ∷ xs) ys name i d (inl here) = inl here
first_on (x ∷ xs) ys name i d (inr later) = inr (later.0, first_on xs ys name i d later.1)

pub first_last : (xs : List ChildField) (c : ChildField) (name : List ℕ) (i : ℕ) → (HasLine xs name i → ⊥) → IsFor c name i → IsFirstFor (xs ++ c ∷ []) name i c
first_last [] c name i none for = inl (for, refl)
first_last (x ∷ xs) c name i none for = inr (λ also. none (x, inl (also, refl)), first_last xs c name i (λ has. later has) for)
  where
    later : HasLine xs name i → ⊥
    later has = none (has.0, inr (λ also. none (x, inl (also, refl)), has.1))

pub record IsNewLast (xs : List ChildField) (c : ChildField) (name : List ℕ) (i : ℕ) (d : ChildField) : Type 0 where
  pub none : HasLine xs name i → ⊥
  pub for : IsFor c name i
  pub is : d ≡ c

pub first_pushed : (xs : List ChildField) (c : ChildField) (name : List ℕ) (i : ℕ) (d : ChildField) → IsFirstFor (xs ++ c ∷ []) name i d → IsFirstFor xs name i d ⊎ IsNewLast xs c name i d
first_pushed [] c name i d (inl here) = inr (record { none = λ has. has.1; for = here.0; is = here.1 })
first_pushed [] c name i d (inr later) = absurd later.1
first_pushed (x ∷ xs) c name i d (inl here) = inl (inl here)
first_pushed (x ∷ xs) c name i d (inr later) = elim (first_pushed xs c name i d later.1) [ inl front ↦ inl (inr (later.0, front)) | inr last ↦ inr (record { none = none last; for = last.for; is = last.is }) ]
  where
    at : IsNewLast xs c name i d → (e : ChildField) → IsFirstFor (x ∷ xs) name i e → ⊥
    at last e (inl here) = later.0 here.0
    at last e (inr behind) = last.none (e, behind.1)

    none : IsNewLast xs c name i d → HasLine (x ∷ xs) name i → ⊥
    none last has = at last has.0 has.1

-- the set, with one line more

pub seen_none : (names : List (List ℕ)) → AreSeen names [] []
seen_none names place = (λ has. absurd has, λ some. absurd some.2.1)

-- for an instance that a line before it is for, or of no child
pub seen_still : (names : List (List ℕ)) (before : List ChildField) (seen : List SeenLine) (c : ChildField) →
    ((n : ℕ) (name : List ℕ) → slice_get names n ≡ Some name → IsFor c name c.instance → HasLine before name c.instance) → AreSeen names before seen → AreSeen names (before ++ c ∷ []) seen
seen_still names before seen c had old place = (forth, back)
  where
    forth : Has seen place → (name : List ℕ) × (slice_get names place.child ≡ Some name) × HasLine (before ++ c ∷ []) name place.instance
    forth has = let o = (old place).0 has in (o.0, o.1, (o.2.0, first_on before (c ∷ []) o.0 place.instance o.2.0 o.2.1))

    at : (name : List ℕ) (d : ChildField) → slice_get names place.child ≡ Some name → IsFirstFor before name place.instance d ⊎ IsNewLast before c name place.instance d → Has seen place
    at name d there (inl front) = (old place).1 (name, there, (d, front))
    at name d there (inr last) =
        let line : HasLine before name c.instance = had place.child name there (last.for.0, refl) in
        absurd (last.none (subst (λ (i : ℕ). HasLine before name i) last.for.1 line))

    back : ((name : List ℕ) × (slice_get names place.child ≡ Some name) × HasLine (before ++ c ∷ []) name place.instance) → Has seen place
    back some = at some.0 some.2.0 some.1 (first_pushed before c some.0 place.instance some.2.0 some.2.1)

-- for an instance that no line before it is for
pub seen_new : (names : List (List ℕ)) (before : List ChildField) (seen : List SeenLine) (c : ChildField) (child : ℕ) → Once names → slice_get names child ≡ Some c.child →
    (HasLine before c.child c.instance → ⊥) → AreSeen names before seen → AreSeen names (before ++ c ∷ []) (seen ++ record { child = child; instance = c.instance } ∷ [])
seen_new names before seen c child once there none old place = (λ has. forth (has_pushed seen here place has), back)
  where
    here : SeenLine
    here = place_of child c.instance

    forth : Has seen place ⊎ (place ≡ here) → (name : List ℕ) × (slice_get names place.child ≡ Some name) × HasLine (before ++ c ∷ []) name place.instance
    forth (inl has) = let o = (old place).0 has in (o.0, o.1, (o.2.0, first_on before (c ∷ []) o.0 place.instance o.2.0 o.2.1))
    forth (inr is) =
        subst (λ (p : SeenLine). (name : List ℕ) × (slice_get names p.child ≡ Some name) × HasLine (before ++ c ∷ []) name p.instance) (sym is)
        (c.child, there, (c, first_last before c c.child c.instance none (refl, refl)))

    at : (name : List ℕ) (d : ChildField) → slice_get names place.child ≡ Some name → IsFirstFor before name place.instance d ⊎ IsNewLast before c name place.instance d →
        Has (seen ++ here ∷ []) place
    at name d is (inl front) = has_left seen (here ∷ []) place ((old place).1 (name, is, (d, front)))
    at name d is (inr last) =
        let child_is : child ≡ place.child = once_at names once child place.child name (there ∙ ap Some last.for.0) is in
        let same : here ≡ place = ap (λ (n : ℕ). place_of n c.instance) child_is ∙ ap (λ (i : ℕ). place_of place.child i) last.for.1 in
        subst (Has (seen ++ here ∷ [])) same (has_last seen here)

    back : ((name : List ℕ) × (slice_get names place.child ≡ Some name) × HasLine (before ++ c ∷ []) name place.instance) → Has (seen ++ here ∷ []) place
    back some = at some.0 some.2.0 some.1 (first_pushed before c some.0 place.instance some.2.0 some.2.1)

-- a line for the instance that another line is for
pub has_for : (before : List ChildField) (c : ChildField) (name : List ℕ) → HasLine before c.child c.instance → IsFor c name c.instance → HasLine before name c.instance
has_for before c name had for = subst (λ (m : List ℕ). HasLine before m c.instance) for.0 had
