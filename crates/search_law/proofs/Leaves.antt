-- What a valid task lists for its atoms are leaves.
use Rattle.std.proofs.Common.{◌≡◌, ◌==◌, inl, inr, ℕ, zero, suc, true, false, List, [], ◌∷◌, Option, Some, None, refl, sym, ap, ◌∙◌, arith}
use Rattle.std.specs.Prelude.{slice_get, slice_index_or}
use Rattle.std.specs.List.{list_any}
use Rattle.std.specs.Option.{option_map}
use Rattle.std.proofs.lemmas.Bool.Decides.{eqb_tells}
use Rattle.std.proofs.lemmas.Option.{slice_get_within, get_or_from_slice_get}
use Rattle.vtr_base.specs.Lists.{Has}
use Rattle.list_laws.proofs.Places.{element}
use Rattle.arch_types.specs.declared.block.PbType.{PbType}
use Rattle.pb_expand.specs.declared.number.PbIx.{PbIx}
use Rattle.pb_expand.specs.Graph.{Graph, pb_ix, kind_of}
use Rattle.prog_map.specs.Leaves.{IsLeaf}
use Rattle.task_types.specs.declared.task.Task.{Task}
use Rattle.task_types.specs.Nets.{NetSaid}
use Rattle.task_types.specs.Realises.{can_hold}
use Rattle.leaf_homes.specs.Leaves.{CanHold}
use Rattle.task_rules.specs.Valid.{IsValid}

any_has : (leaf : ℕ) (leaves : List PbIx) → list_any (λ (pb : PbIx). pb.0 == leaf) leaves ≡ true → Has leaves (pb_ix leaf)
any_has leaf [] any = absurd (let bad : ⊥ = cc any in bad)
any_has leaf (pb ∷ leaves) any = elim (eqb_tells pb.0 leaf) [
  | inl same ↦ inl (ap (λ k. pb_ix k) (sym same.1))
  | inr apart ↦ inr (any_has leaf leaves (rw apart.0 at any))
]

leaf_of : (g : Graph) (n : NetSaid) (number leaf : ℕ) → CanHold n g number leaf → IsLeaf g leaf
leaf_of g n number leaf holds = record {
  atom = holds.held.kind;
  is = ap (λ o. option_map (λ (block : PbType). kind_of block.kind) o) holds.held.is_block ∙ ap (λ k. Some k) holds.held.is_leaf;
}

none_listed : (lists : List (List PbIx)) (place : ℕ) → slice_get lists place ≡ None → slice_index_or lists place [] ≡ []
none_listed [] place is = refl
none_listed (leaves ∷ lists) zero is = absurd (let bad : ⊥ = cc is in bad)
none_listed (leaves ∷ lists) (suc k) is = none_listed lists k is

pub is_leaf : (g : Graph) (n : NetSaid) (t : Task) (place leaf : ℕ) → IsValid g n t → can_hold t place leaf ≡ true → IsLeaf g leaf
is_leaf g n t place leaf valid holds = by (slice_get t.homes place) refl
  where
    by : (o : Option (List PbIx)) → slice_get t.homes place ≡ o → IsLeaf g leaf
    by None is =
        let none : can_hold t place leaf ≡ false = ap (λ leaves. list_any (λ (pb : PbIx). pb.0 == leaf) leaves) (none_listed t.homes place is) in
        absurd (let bad : ⊥ = cc (sym none ∙ holds) in bad)
    by (Some leaves) is =
        let same : can_hold t place leaf ≡ list_any (λ (pb : PbIx). pb.0 == leaf) leaves = ap (λ leaves. list_any (λ (pb : PbIx). pb.0 == leaf) leaves) (get_or_from_slice_get t.homes place leaves [] is) in
        let number = element t.atoms place (omega (arith, slice_get_within t.homes place leaves is, valid.homes.each)) in
        leaf_of g n number.0 leaf
        (valid.homes.fit number.0 leaf leaves (record { place = place; listed = number.1; is = is })
        (any_has leaf leaves (sym same ∙ holds)))
