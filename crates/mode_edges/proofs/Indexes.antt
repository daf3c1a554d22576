-- A map from names to places: what it finds, and how it grows.
use Rattle.std.proofs.Common.{◌≡◌, ◌<◌, ◌≤◌, ◌+◌, ◌⊎◌, inl, inr, ℕ, List, [], ◌∷◌, ◌++◌, Bool, true, false, cond, nat_eq, Option, Some, None, is_some, Bor, map, length, get_or, slice_get, refl, sym, ◌∙◌, ap, subst, arith}
use Rattle.std.specs.Cmp.Lexicographic.{pointwise}
use Rattle.std.specs.Map.{lookup}
use Rattle.std.proofs.lemmas.Bool.{and_parts, and_from, both_ways}
use Rattle.std.proofs.lemmas.Bool.Decides.{nat_tests}
use Rattle.std.proofs.lemmas.List.{map-append}
use Rattle.std.proofs.lemmas.Option.{slice_get_within, slice_get-map, slice_get_read}
use Rattle.std.specs.Option.{option_map}
use Rattle.indexmap.specs.IndexMap.{IndexMap, get_by, insert_entry}
use Rattle.indexmap.proofs.CallerLemmas.{insert_entry-new}
use Rattle.vtr_base.specs.Lists.{Has, IsFirstPlace}
use Rattle.mode_edges.specs.Scopes.{Named, places_in, IsIndex, AddsName, FindsName}

nat_same : (m n : ℕ) → nat_eq m n ≡ true → m ≡ n
nat_same m n e = grind (arith, nat_tests)

nat_itself : (m : ℕ) → nat_eq m m ≡ true
nat_itself m = grind (arith, nat_tests)

text_same : (a b : List ℕ) → pointwise nat_eq a b ≡ true → a ≡ b
text_same [] [] e = refl
text_same [] (y ∷ ys) e = cc
text_same (x ∷ xs) [] e = cc
text_same (x ∷ xs) (y ∷ ys) e =
    let k = and_parts (nat_eq x y) (pointwise nat_eq xs ys) e in
    let first = nat_same x y k.0 in
    let rest = text_same xs ys k.1 in
    cc

text_itself : (a : List ℕ) → pointwise nat_eq a a ≡ true
text_itself [] = refl
text_itself (x ∷ xs) = and_from (nat_eq x x) (pointwise nat_eq xs xs) (nat_itself x) (text_itself xs)

abbrev pub is_name : List ℕ → Bor (List ℕ) → Bool
is_name name k = pointwise nat_eq name k.now

abbrev pub same_name : Bor (List ℕ) → Bor (List ℕ) → Bool
same_name x y = pointwise nat_eq x.now y.now

abbrev places : List (Bor (List ℕ) × ℕ) → List Named
places es = map (λ entry. (entry.0.now, entry.1)) es

name_found : (es : List (Bor (List ℕ) × ℕ)) (name : List ℕ) (p : ℕ) → lookup (is_name name) es ≡ Some p → Has (places es) (name, p)
name_found [] name p e = cc
name_found (x ∷ xs) name p e = by (is_name name x.0) refl (name_found xs name p)
  where
    by : (b : Bool) → is_name name x.0 ≡ b → (lookup (is_name name) xs ≡ Some p → Has (places xs) (name, p)) → Has (places (x ∷ xs)) (name, p)
    by true t more =
        let same = text_same name x.0.now t in
        let at : Some x.1 ≡ Some p = sym (ap (λ (b : Bool). cond b (Some x.1) (lookup (is_name name) xs)) t) ∙ e in
        let value : x.1 ≡ p = cc in
        inl (ap (λ (n : List ℕ). (n, p)) same ∙ ap (λ (q : ℕ). (x.0.now, q)) (sym value))
    by false f more = inr (more (sym (ap (λ (b : Bool). cond b (Some x.1) (lookup (is_name name) xs)) f) ∙ e))

name_lost : (es : List (Bor (List ℕ) × ℕ)) (name : List ℕ) → lookup (is_name name) es ≡ None → (q : ℕ) → Has (places es) (name, q) → ⊥
name_lost [] name e q h = h
name_lost (x ∷ xs) name e q h = by (is_name name x.0) refl h (name_lost xs name)
  where
    by : (b : Bool) → is_name name x.0 ≡ b → Has (places (x ∷ xs)) (name, q) → (lookup (is_name name) xs ≡ None → (r : ℕ) → Has (places xs) (name, r) → ⊥) → ⊥
    by true t had more =
        let at : Some x.1 ≡ None = sym (ap (λ (b : Bool). cond b (Some x.1) (lookup (is_name name) xs)) t) ∙ e in
        cc
    by false f (inl is) more =
        let same : name ≡ x.0.now = ap (λ (n : Named). n.0) is in
        both_ways (is_name name x.0) f (subst (λ (n : List ℕ). pointwise nat_eq name n ≡ true) same (text_itself name))
    by false f (inr had) more = more (sym (ap (λ (b : Bool). cond b (Some x.1) (lookup (is_name name) xs)) f) ∙ e) q had

some_is : {X : Type 0} (o : Option X) → is_some o ≡ true → (x : X) × (o ≡ Some x)
some_is None e = cc
some_is (Some x) e = (x, refl)

none_is : {X : Type 0} (o : Option X) → is_some o ≡ false → o ≡ None
none_is None e = refl
none_is (Some x) e = cc

pub keeps_name : {S : Type 0} (m : IndexMap (Bor (List ℕ)) ℕ S) (name : List ℕ) (place : ℕ) (test : Bool) → test ≡ is_some (get_by (is_name name) m) → test ≡ true →
    AddsName (places_in m) (places_in m) name place
keeps_name m name place test is t =
    let there = some_is (get_by (is_name name) m) (sym is ∙ t) in
    inl ((there.0, name_found m.entries name there.0 there.1), refl)

pub takes_name : {S : Type 0} (m n : IndexMap (Bor (List ℕ)) ℕ S) (name : Bor (List ℕ)) (place number : ℕ) (test : Bool) →
    test ≡ is_some (get_by (is_name name.now) m) → test ≡ false → number ≡ place → n.entries ≡ insert_entry same_name m.entries name number →
    AddsName (places_in m) (places_in n) name.now place
takes_name m n name place number test is f same grown =
    let none = none_is (get_by (is_name name.now) m) (sym is ∙ f) in
    let last = grown ∙ insert_entry-new same_name m name number none in
    inr (
      name_lost m.entries name.now none,
      ap places last ∙ (map-append (λ entry. (entry.0.now, entry.1)) m.entries ((name, number) ∷ []) ∙ ap (λ (p : ℕ). places m.entries ++ (name.now, p) ∷ []) same),
    )

pub finds_name : {S : Type 0} (m : IndexMap (Bor (List ℕ)) ℕ S) (name : List ℕ) (found : Option ℕ) → found ≡ get_by (is_name name) m → FindsName (places_in m) name found
finds_name m name None is = name_lost m.entries name (sym is)
finds_name m name (Some p) is = name_found m.entries name p (sym is)

-- the first names of a list are indexed
pub record IsIndexTo (names : List (List ℕ)) (i : ℕ) (places : List Named) : Type 0 where
  pub first : (name : List ℕ) (place : ℕ) → Has places (name, place) → IsFirstPlace names name place
  pub all : (name : List ℕ) (n : ℕ) → n < i → slice_get names n ≡ Some name → (place : ℕ) × Has places (name, place)

pub index_starts : {S : Type 0} (names : List (List ℕ)) (m : IndexMap (Bor (List ℕ)) ℕ S) → m.entries ≡ [] → IsIndexTo names 0 (places_in m)
index_starts names m none = record {
  first = λ name place h. absurd (subst (λ (l : List Named). Has l (name, place)) (ap places none) h);
  all = λ name n less is. absurd (omega arith);
}

has_left : (xs ys : List Named) (x : Named) → Has xs x → Has (xs ++ ys) x
has_left [] ys x h = absurd h
has_left (y ∷ xs) ys x (inl e) = inl e
has_left (y ∷ xs) ys x (inr h) = inr (has_left xs ys x h)

has_last : (xs : List Named) (x : Named) → Has (xs ++ x ∷ []) x
has_last [] x = inl refl
has_last (y ∷ xs) x = inr (has_last xs x)

has_before : (xs : List Named) (x y : Named) → Has (xs ++ y ∷ []) x → Has xs x ⊎ (x ≡ y)
has_before [] x y (inl is) = inr is
has_before [] x y (inr none) = absurd none
has_before (z ∷ xs) x y (inl is) = inl (inl is)
has_before (z ∷ xs) x y (inr h) = elim (has_before xs x y h) [ inl there ↦ inl (inr there) | inr is ↦ inr is ]

less_or_same : (n i : ℕ) → n < i + 1 → (n < i) ⊎ (n ≡ i)
less_or_same n i less = grind arith

pub index_more : (names : List (List ℕ)) (i : ℕ) (old new : List Named) (name : List ℕ) → slice_get names i ≡ Some name → AddsName old new name i →
    IsIndexTo names i old → IsIndexTo names (i + 1) new
index_more names i old new name at (inl (known, same)) so_far = record {
  first = λ x place h. so_far.first x place (subst (λ (l : List Named). Has l (x, place)) same h);
  all = λ x n less is. elim (less_or_same n i less) [
    | inl before ↦ still x (so_far.all x n before is)
    | inr here ↦ still x (named x n here is)
  ];
}
  where
    still : (x : List ℕ) → ((p : ℕ) × Has old (x, p)) → (p : ℕ) × Has new (x, p)
    still x (p, h) = (p, subst (λ (l : List Named). Has l (x, p)) (sym same) h)

    named : (x : List ℕ) (n : ℕ) → n ≡ i → slice_get names n ≡ Some x → (p : ℕ) × Has old (x, p)
    named x n here is =
        let same_name : name ≡ x = cc (at, here, is) in
        subst (λ (y : List ℕ). (p : ℕ) × Has old (y, p)) same_name known
index_more names i old new name at (inr (unknown, grown)) so_far = record {
  first = λ x place h. elim (has_before old (x, place) (name, i) (subst (λ (l : List Named). Has l (x, place)) grown h)) [
    | inl there ↦ so_far.first x place there
    | inr last ↦ subst (λ (n : Named). IsFirstPlace names n.0 n.1) (sym last) new_first
  ];
  all = λ x n less is. elim (less_or_same n i less) [
    | inl before ↦ let old_place = so_far.all x n before is in (old_place.0, into (x, old_place.0) (has_left old ((name, i) ∷ []) (x, old_place.0) old_place.1))
    | inr here ↦ (i, into (x, i) (named x n here is))
  ];
}
  where
    into : (y : Named) → Has (old ++ (name, i) ∷ []) y → Has new y
    into y h = subst (λ (l : List Named). Has l y) (sym grown) h

    named : (x : List ℕ) (n : ℕ) → n ≡ i → slice_get names n ≡ Some x → Has (old ++ (name, i) ∷ []) (x, i)
    named x n here is =
        let same_name : name ≡ x = cc (at, here, is) in
        subst (λ (y : List ℕ). Has (old ++ (name, i) ∷ []) (y, i)) same_name (has_last old (name, i))

    new_first : IsFirstPlace names name i
    new_first = record {
      there = at;
      first = λ k less is. let p = so_far.all name k less is in unknown p.0 p.1;
    }

pub index_ends : (names : List (List ℕ)) (i : ℕ) (places : List Named) → length names ≤ i → IsIndexTo names i places → IsIndex names places
index_ends names i places end so_far = record {
  first = so_far.first;
  all = λ name n is. so_far.all name n (omega (arith, slice_get_within names n name is)) is;
}

-- the name of an element that was read
pub name_at : {X : Type 0} (name : X → List ℕ) (xs : List X) (i : ℕ) (x : X) (text : List ℕ) → i < length xs → x ≡ get_or xs i x → text ≡ name x →
    slice_get (map name xs) i ≡ Some text
name_at name xs i x text inside is reads =
    slice_get-map name xs i ∙ (ap (option_map name) (slice_get_read xs (length xs) i x refl inside is) ∙ ap Some (sym reads))
