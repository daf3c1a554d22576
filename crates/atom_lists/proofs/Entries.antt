-- Reading the entries of a list one by one.
use Rattle.std.proofs.Common.{◌≡◌, ◌+◌, ◌<◌, ◌≤◌, ◌⊎◌, ℕ, List, [], ◌∷◌, ◌++◌, Some, length, map, slice_get, take, refl, sym, ap, ◌∙◌, subst, inl, inr, arith}
use Rattle.std.proofs.lemmas.Bool.{cases_eq}
use Rattle.std.proofs.lemmas.List.{map-append, length-map, length-take-le, take_all}
use Rattle.vtr_base.specs.Lists.{Has}
use Rattle.list_laws.specs.Orders.{Once}
use Rattle.list_laws.proofs.Members.{has_at, at_has, has_map, from_map}
use Rattle.list_laws.proofs.Onces.{once_pushed}
use Rattle.atom_lists.specs.Lists.{IsFresh, IsUnknown, IsAgain, SpellAtoms}
use Rattle.atom_lists.proofs.Fronts.{front_at, at_front, one_more}

-- the entries before this place are these names, of atoms with these numbers
pub record AreNumbered (known entries : List (List ℕ)) (place : ℕ) (seen : List (List ℕ)) (numbers : List ℕ) : Type 0 where
  pub are_seen : seen ≡ take place entries
  pub named : map (λ (n : ℕ). slice_get known n) numbers ≡ map (λ entry. Some entry) seen
  pub once : Once numbers
  pub fresh : (k : ℕ) → k < place → IsFresh known entries k

pub none_numbered : (known entries : List (List ℕ)) → AreNumbered known entries 0 [] []
none_numbered known entries = record { are_seen = refl; named = refl; once = tt; fresh = λ k low. absurd (omega arith) }

-- one entry more
pub one_numbered : (known entries : List (List ℕ)) (place : ℕ) (seen new : List (List ℕ)) (numbers : List ℕ) (entry : List ℕ) (number : ℕ) →
    AreNumbered known entries place seen numbers → slice_get entries place ≡ Some entry → slice_get known number ≡ Some entry →
    ((n : ℕ) → slice_get seen n ≡ Some entry → ⊥) → new ≡ seen ++ entry ∷ [] → AreNumbered known entries (place + 1) new (numbers ++ number ∷ [])
one_numbered known entries place seen new numbers entry number so_far at is unseen added = record {
  are_seen = added ∙ ap (λ l. l ++ entry ∷ []) so_far.are_seen ∙ sym (one_more entries place entry at);
  named =
      map-append (λ (n : ℕ). slice_get known n) numbers (number ∷ []) ∙ ap (λ l. l ++ slice_get known number ∷ []) so_far.named ∙
      ap (λ o. map (λ e. Some e) seen ++ o ∷ []) is ∙ sym (map-append (λ (e : List ℕ). Some e) seen (entry ∷ [])) ∙
      ap (λ l. map (λ (e : List ℕ). Some e) l) (sym added);
  once = once_pushed numbers number so_far.once unnumbered;
  fresh = λ k low. by k low (cases_eq k place);
}
  where
    unnumbered : Has numbers number → ⊥
    unnumbered has =
        let named : Has (map (λ (n : ℕ). slice_get known n) numbers) (Some entry) =
        subst (Has (map (λ (n : ℕ). slice_get known n) numbers)) is (has_map (λ (n : ℕ). slice_get known n) numbers number has) in
        let r = from_map (λ (e : List ℕ). Some e) seen (Some entry) (subst (λ l. Has l (Some entry)) so_far.named named) in
        let there = at_has seen r.item r.has in
        unseen there.0 (there.1 ∙ sym r.is)

    here : IsFresh known entries place
    here = record {
      entry = entry;
      first = record { there = at; first = λ k low again. unseen k (ap (λ l. slice_get l k) so_far.are_seen ∙ at_front entries place k entry low again) };
      is_known = has_at known number entry is;
    }

    by : (k : ℕ) → k < place + 1 → (k ≡ place) ⊎ (k ≡ place → ⊥) → IsFresh known entries k
    by k low (inl same) = subst (IsFresh known entries) (sym same) here
    by k low (inr other) = so_far.fresh k (omega arith)

-- all entries were read
pub all_numbered : (known entries seen : List (List ℕ)) (place : ℕ) (numbers : List ℕ) → AreNumbered known entries place seen numbers → length entries ≤ place →
    length entries ≤ 4096 → SpellAtoms known entries numbers
all_numbered known entries seen place numbers so_far all few = record {
  named = so_far.named ∙ ap (λ l. map (λ (e : List ℕ). Some e) l) whole;
  once = so_far.once;
  few = omega (arith, few, long);
}
  where
    whole : seen ≡ entries
    whole = so_far.are_seen ∙ take_all place entries all

    long : length numbers ≡ length entries
    long = sym (length-map numbers (λ (n : ℕ). slice_get known n)) ∙ ap length so_far.named ∙ length-map seen (λ (e : List ℕ). Some e) ∙ ap length whole

-- so many names were read
pub so_many : (known entries seen : List (List ℕ)) (place : ℕ) (numbers : List ℕ) → AreNumbered known entries place seen numbers → place ≤ length entries →
    length seen ≡ place
so_many known entries seen place numbers so_far low = ap length so_far.are_seen ∙ length-take-le place entries low

-- the next entry is wrong

pub unknown_next : (known entries seen : List (List ℕ)) (place : ℕ) (numbers : List ℕ) (entry : List ℕ) → AreNumbered known entries place seen numbers →
    length entries ≤ 4096 → slice_get entries place ≡ Some entry → ((n : ℕ) → slice_get known n ≡ Some entry → ⊥) → IsUnknown known entries place
unknown_next known entries seen place numbers entry so_far few at none = record {
  before = record { few = few; fresh = so_far.fresh };
  entry = entry;
  there = at;
  unknown = λ has. (let there = at_has known entry has in none there.0 there.1);
}

pub again_next : (known entries seen : List (List ℕ)) (place earlier : ℕ) (numbers : List ℕ) (entry : List ℕ) → AreNumbered known entries place seen numbers →
    length entries ≤ 4096 → slice_get entries place ≡ Some entry → slice_get seen earlier ≡ Some entry → IsAgain known entries place
again_next known entries seen place earlier numbers entry so_far few at there =
    let front = front_at entries place earlier entry (ap (λ l. slice_get l earlier) (sym so_far.are_seen) ∙ there) in
    record { before = record { few = few; fresh = so_far.fresh }; entry = entry; there = at; earlier = earlier; is_earlier = front.0; same = front.1 }
