-- The names of a model's ports, one by one.
use Rattle.std.proofs.Common.{◌≡◌, ◌<◌, ◌≤◌, ◌+◌, ◌⊎◌, ◌↔◌, inl, inr, ℕ, true, false, List, [], ◌∷◌, ◌++◌, Option, Some, None, MatchOption, is_some, length, take, get_or, slice_get, append-nil, append_assoc, refl, sym, ap, ◌∙◌, subst, arith}
use Rattle.std.proofs.lemmas.Option.{slice_get_within}
use Rattle.std.proofs.lemmas.List.{take_more, take_all}
use Rattle.vtr_base.specs.Lists.{Has, IsFirstPlace}
use Rattle.list_laws.specs.Orders.{Once}
use Rattle.list_laws.proofs.Members.{has_at, at_has, has_left, has_last, has_pushed}
use Rattle.list_laws.proofs.Onces.{once_at}
use Rattle.list_laws.proofs.Places.{get_front, get_either}
use Rattle.names.specs.Naming.{AddsName}
use Rattle.arch_types.specs.declared.arch.CellModel.{CellModel}
use Rattle.blif_pins.specs.Pins.{IsPort}
use Rattle.blif_pins.specs.Ports.{Ports, Fits, AddsNames}

pub adds_none : (old : List (List ℕ)) → AddsNames old [] old
adds_none old = record {
  added = [];
  grown = sym (append-nil old);
  all = λ name. (λ has. inl has, λ either. elim either [ inl has ↦ has | inr none ↦ absurd none ]);
}

into : (old xs : List (List ℕ)) (x name : List ℕ) → Has old name ⊎ Has xs name → Has old name ⊎ Has (xs ++ x ∷ []) name
into old xs x name (inl has) = inl has
into old xs x name (inr has) = inr (has_left xs (x ∷ []) name has)

out_of : (old xs mid : List (List ℕ)) (x name : List ℕ) → (Has old name ⊎ Has xs name → Has mid name) → Has old name ⊎ Has (xs ++ x ∷ []) name → Has mid name ⊎ (name ≡ x)
out_of old xs mid x name back (inl has) = inl (back (inl has))
out_of old xs mid x name back (inr has) = elim (has_pushed xs x name has) [ inl had ↦ inl (back (inr had)) | inr last ↦ inr last ]

at_last : (mid : List (List ℕ)) (x name : List ℕ) → Has mid x → Has mid name ⊎ (name ≡ x) → Has mid name
at_last mid x name has (inl had) = had
at_last mid x name has (inr is) = subst (Has mid) (sym is) has

within_new : (mid : List (List ℕ)) (x name : List ℕ) → Has mid name ⊎ (name ≡ x) → Has (mid ++ x ∷ []) name
within_new mid x name (inl had) = has_left mid (x ∷ []) name had
within_new mid x name (inr is) = subst (Has (mid ++ x ∷ [])) (sym is) (has_last mid x)

from_new : (old xs mid : List (List ℕ)) (x name : List ℕ) → (Has mid name → Has old name ⊎ Has xs name) → Has mid name ⊎ (name ≡ x) → Has old name ⊎ Has (xs ++ x ∷ []) name
from_new old xs mid x name on (inl had) = into old xs x name (on had)
from_new old xs mid x name on (inr is) = inr (subst (Has (xs ++ x ∷ [])) (sym is) (has_last xs x))

-- one more name
pub adds_more : (old xs mid new : List (List ℕ)) (x : List ℕ) → AddsNames old xs mid → AddsName mid x new → AddsNames old (xs ++ x ∷ []) new
adds_more old xs mid new x so_far (inl known) = record {
  added = so_far.added;
  grown = known.1 ∙ so_far.grown;
  all = λ name. (
    λ has. into old xs x name ((so_far.all name).0 (subst (λ l. Has l name) known.1 has)),
    λ either. subst (λ l. Has l name) (sym known.1) (at_last mid x name known.0 (out_of old xs mid x name (so_far.all name).1 either)),
  );
}
adds_more old xs mid new x so_far (inr fresh) = record {
  added = so_far.added ++ x ∷ [];
  grown = fresh.1 ∙ (ap (λ l. l ++ x ∷ []) so_far.grown ∙ append_assoc old so_far.added (x ∷ []));
  all = λ name. (
    λ has. from_new old xs mid x name (so_far.all name).0 (has_pushed mid x name (subst (λ l. Has l name) fresh.1 has)),
    λ either. subst (λ l. Has l name) (sym fresh.1) (within_new mid x name (out_of old xs mid x name (so_far.all name).1 either)),
  );
}

in_front : (xs ys : List (List ℕ)) (n : ℕ) (name : List ℕ) → n < length xs → slice_get (xs ++ ys) n ≡ Some name → slice_get xs n ≡ Some name
in_front xs ys n name low at = elim (get_either xs ys n name at) [ inl front ↦ front | inr behind ↦ absurd (omega (arith, behind.1, low)) ]

of_outputs : (outs first : List (List ℕ)) (name : List ℕ) → AddsNames [] outs first → Has first name → Has outs name
of_outputs outs first name a has = elim ((a.all name).0 has) [ inl none ↦ absurd none | inr out ↦ out ]

-- outputs and then inputs
pub fits_of : (model : CellModel) (first names : List (List ℕ)) (outs : ℕ) → AddsNames [] model.outs first → AddsNames first model.ins names → outs ≡ length first → Once names →
    Fits (record { model = model; names = names; outs = outs })
fits_of model first names outs a b count once = record {
  once = once;
  all = λ name. (
    λ has. elim ((b.all name).0 has) [ inl front ↦ inl (of_outputs model.outs first name a front) | inr last ↦ inr last ],
    λ port. elim port [ inl out ↦ (b.all name).1 (inl ((a.all name).1 (inr out))) | inr last ↦ (b.all name).1 (inr last) ],
  );
  outputs = λ n name at. (
    λ low. of_outputs model.outs first name a
        (has_at first n name (in_front first b.added n name (omega (arith, low, count)) (subst (λ l. slice_get l n ≡ Some name) b.grown at))),
    λ out.
        (let place = at_has first name ((a.all name).1 (inr out)) in
        let there = subst (λ l. slice_get l place.0 ≡ Some name) (sym b.grown) (get_front first b.added place.0 name place.1) in
        omega (arith, once_at names once n place.0 name at there, slice_get_within first place.0 name place.1, count)),
  );
}

-- a name that isn't found is of no port
pub no_port : (t : Ports) (name : List ℕ) → Fits t → ((n : ℕ) → slice_get t.names n ≡ Some name → ⊥) → IsPort t.model name → ⊥
no_port t name fits none port = let place = at_has t.names name ((fits.all name).1 port) in none place.0 place.1

pub adds_next : (old more mid new : List (List ℕ)) (k : ℕ) (x text : List ℕ) → k < length more → x ≡ get_or more k x → text ≡ x →
    AddsNames old (take k more) mid → AddsName mid text new → AddsNames old (take (k + 1) more) new
adds_next old more mid new k x text within is reads so_far adds =
    subst (λ l. AddsNames old l new) (sym (take_more more k x within ∙ ap (λ n. take k more ++ n ∷ []) (sym is)))
    (adds_more old (take k more) mid new x so_far (subst (λ n. AddsName mid n new) reads adds))

pub adds_all : (old more new : List (List ℕ)) (k : ℕ) → length more ≤ k → AddsNames old (take k more) new → AddsNames old more new
adds_all old more new k whole are = subst (λ l. AddsNames old l new) (take_all k more whole) are

-- a name that is looked up
abbrev pub FindsName : List (List ℕ) → List ℕ → Option ℕ → Type 0
FindsName names name r = MatchOption r ((n : ℕ) → slice_get names n ≡ Some name → ⊥) (IsFirstPlace names name)

pub found_name : (names : List (List ℕ)) (name : List ℕ) (r : Option ℕ) → is_some r ≡ true → FindsName names name r → Has names name
found_name names name None some finds = absurd (cc)
found_name names name (Some n) some finds = has_at names n name finds.there

pub unfound_name : (names : List (List ℕ)) (name : List ℕ) (r : Option ℕ) → is_some r ≡ false → FindsName names name r → Has names name → ⊥
unfound_name names name None none finds has = let place = at_has names name has in finds place.0 place.1
unfound_name names name (Some n) none finds has = cc

pub added_name : (old new : List (List ℕ)) (name : List ℕ) → (Has old name → ⊥) → new ≡ old ++ name ∷ [] → AddsName old name new
added_name old new name fresh grown = inr (fresh, grown)

pub fits_built : (model : CellModel) (none first names : List (List ℕ)) (outs : ℕ) (given then : List (List ℕ)) → none ≡ [] → given ≡ model.outs → then ≡ model.ins → AddsNames none given first →
    AddsNames first then names → outs ≡ length first → Once names → Fits (record { model = model; names = names; outs = outs })
fits_built model none first names outs given then empty outputs inputs a b =
    fits_of model first names outs
    (subst (λ l. AddsNames l model.outs first) empty (subst (λ l. AddsNames none l first) outputs a)) (subst (λ l. AddsNames first l names) inputs b)
