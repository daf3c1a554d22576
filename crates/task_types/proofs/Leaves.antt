-- A search by halves among leaves that ascend, and the list in which it searches.
use Rattle.std.proofs.Common.{◌≡◌, ◌≤◌, ◌==◌, inl, inr, ℕ, zero, suc, false, List, [], ◌∷◌, Some, None, refl, sym, ap, arith}
use Rattle.std.specs.Prelude.{slice_get, slice_index_or}
use Rattle.std.specs.List.{list_any}
use Rattle.std.proofs.lemmas.Bool.{cases_lt}
use Rattle.std.proofs.lemmas.Bool.Decides.{nat_tests}
use Rattle.std.proofs.lemmas.Option.{get_or_from_slice_get}
use Rattle.list_laws.proofs.Members.{at_has}
use Rattle.list_laws.proofs.Searches.{any_none}
use Rattle.pb_expand.specs.declared.number.PbIx.{PbIx}
use Rattle.task_types.specs.declared.task.Task.{Task}
use Rattle.task_types.specs.Realises.{can_hold}
use Rattle.task_types.specs.Tasks.{AreHalves}

pub no_leaf : (leaves : List PbIx) (leaf low high : ℕ) → AreHalves leaves leaf low high → high ≤ low → list_any (λ (pb : PbIx). pb.0 == leaf) leaves ≡ false
no_leaf leaves leaf low high halves met =
    any_none (λ (pb : PbIx). pb.0 == leaf) leaves
    (λ pb has passes. let k = at_has leaves pb has in
    let same : pb.0 ≡ leaf = grind (arith, nat_tests) in
    elim (cases_lt k.0 low) [
      | inl before ↦ (let less = halves.before k.0 pb before k.1 in absurd (omega (arith, less, same)))
      | inr behind ↦ (let more = halves.behind k.0 pb (omega (arith, behind, met)) k.1 in absurd (omega (arith, more, same)))
    ])

unlisted : (homes : List (List PbIx)) (k : ℕ) → slice_get homes k ≡ None → slice_index_or homes k [] ≡ []
unlisted [] k none = refl
unlisted (leaves ∷ homes) zero none = absurd (let bad : ⊥ = cc none in bad)
unlisted (leaves ∷ homes) (suc k) none = unlisted homes k none

-- an atom without a list can be held nowhere
pub held_nowhere : (t : Task) (place leaf : ℕ) → slice_get t.homes place ≡ None → can_hold t place leaf ≡ false
held_nowhere t place leaf none = ap (λ leaves. list_any (λ (pb : PbIx). pb.0 == leaf) leaves) (unlisted t.homes place none)

-- and one with a list just there
pub held_there : (t : Task) (place leaf : ℕ) (leaves : List PbIx) → slice_get t.homes place ≡ Some leaves → list_any (λ (pb : PbIx). pb.0 == leaf) leaves ≡ can_hold t place leaf
held_there t place leaf leaves is = ap (λ xs. list_any (λ (pb : PbIx). pb.0 == leaf) xs) (sym (get_or_from_slice_get t.homes place leaves [] is))
