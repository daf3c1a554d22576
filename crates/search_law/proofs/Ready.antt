-- Where nothing is left to decide, each atom has its home.
use Rattle.std.proofs.Common.{◌≡◌, ◌<◌, inl, inr, ℕ, List, Option, Some, None, length, refl, sym, ap, ◌∙◌, arith}
use Rattle.std.specs.Prelude.{slice_get, IsSome}
use Rattle.std.specs.Option.{option_map, option_and_then}
use Rattle.std.proofs.lemmas.Option.{slice_get_within}
use Rattle.list_laws.proofs.Places.{element}
use Rattle.arch_types.specs.declared.block.PbType.{PbType}
use Rattle.arch_types.specs.Address.{Address, at}
use Rattle.pb_expand.specs.Graph.{Graph, kind_of}
use Rattle.pb_expand.specs.Expansion.{IsExpansion}
use Rattle.prog_map.specs.Leaves.{IsLeaf}
use Rattle.task_types.specs.declared.task.Task.{Task}
use Rattle.task_types.specs.declared.decision.Decision.{Decision}
use Rattle.task_types.specs.Nets.{NetSaid}
use Rattle.task_types.specs.Decisions.{occupant_in}
use Rattle.search_rules.specs.Closing.{AreHoused}
use Rattle.search_rules.specs.Left.{IsAllDecided, HasLeafHomes}
use Rattle.search_rules.specs.Settled.{IsHomeOf, IsReady}
use Rattle.search_law.proofs.Modes.{open_is_live}

leaf_inside : (g : Graph) (leaf : ℕ) → IsLeaf g leaf → leaf < length g.instances
leaf_inside g leaf is_leaf = by (slice_get g.instances leaf) refl
  where
    by : (o : Option Address) → slice_get g.instances leaf ≡ o → leaf < length g.instances
    by None e = absurd (let bad : ⊥ = cc (sym (ap (λ o. option_map (λ (block : PbType). kind_of block.kind) (option_and_then (λ address. at g.root address) o)) e) ∙ is_leaf.is) in bad)
    by (Some address) e = slice_get_within g.instances leaf address e

pub ready : (g : Graph) (n : NetSaid) (t : Task) (made : List Decision) → IsExpansion g → HasLeafHomes g t → AreHoused g t made → IsAllDecided g n t made → IsReady g n t made
ready g n t made law homes housed all = record {
  homes = λ place inside. (
      let leaf = element housed.leaves place (omega (arith, inside, housed.long)) in
      (leaf.0, home place leaf.0 leaf.1));
  needs = all.needs;
}
  where
    home : (place leaf : ℕ) → slice_get housed.leaves place ≡ Some leaf → IsHomeOf made place leaf
    home place leaf is =
        let free = housed.open' place leaf is in
        let is_leaf = homes.each place leaf free.holds in
        elim free.free [
          | inl there ↦ there
          | inr none ↦ (
              let live = open_is_live g law made all.modes leaf free.open' (leaf_inside g leaf is_leaf) in
              let some : IsSome (occupant_in made leaf) = all.leaves.each leaf is_leaf live in
              let bad : ⊥ = cc (rw none.1 at some) in absurd bad)
        ]
