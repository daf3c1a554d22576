-- Where each need has a way and each atom a leaf of its own, nothing closes the node.
use Rattle.std.proofs.Common.{◌≡◌, ◌<◌, ℕ, zero, suc, List, Some, map, length, sym, subst, arith}
use Rattle.std.specs.Prelude.{slice_get, slice_index_or}
use Rattle.std.proofs.lemmas.List.{length-map}
use Rattle.std.proofs.lemmas.Option.{slice_get-get_or}
use Rattle.vtr_base.specs.Lists.{Has}
use Rattle.list_laws.proofs.Members.{from_map}
use Rattle.list_laws.proofs.Onces.{once_of, once_map}
use Rattle.list_laws.proofs.Counting.{no_longer}
use Rattle.pb_expand.specs.declared.number.PinIx.{PinIx}
use Rattle.pb_expand.specs.Graph.{Graph, pin_ix}
use Rattle.task_types.specs.declared.task.Task.{Task}
use Rattle.task_types.specs.declared.decision.Decision.{Decision}
use Rattle.task_types.specs.Nets.{NetSaid}
use Rattle.task_types.specs.Open.{IsOpenTo}
use Rattle.task_types.specs.Nodes.{IsHomeless, IsCut}
use Rattle.task_types.specs.Tidy.{HasHope}
use Rattle.search_rules.specs.Closing.{LeadsBack, HasWay, HaveAllWays, AreHoused, IsHopeful}

module _ (g : Graph) (n : NetSaid) (t : Task) (made : List Decision) where
  -- a way from a pin of a cut ends in the cut
  stays : (number : ℕ) (pins : List PinIx) → IsCut g n t made number pins → (steps p q : ℕ) → LeadsBack g made steps p q → Has pins (pin_ix p) → Has pins (pin_ix q)
  stays number pins cut zero p q same has = subst (λ x. Has pins (pin_ix x)) same has
  stays number pins cut (suc steps) p q way has = stays number pins cut steps way.0 q way.2 (cut.closed p way.0 has way.1)

  uncut : HaveAllWays g n t made → (number : ℕ) (pins : List PinIx) → IsCut g n t made number pins → ⊥
  uncut ways number pins cut =
      let way = ways.each number cut.need cut.active in
      cut.sourceless way.source way.is_source (stays number pins cut way.steps way.last way.source way.way (cut.ends way.last way.is_end))

  -- different atoms have as many leaves
  housed : AreHoused g t made → (atoms : List ℕ) → IsHomeless g t made atoms → ⊥
  housed homes atoms homeless =
      let leaf : ℕ → ℕ = λ place. slice_index_or homes.leaves place 0 in
      let at : (place : ℕ) → Has atoms place → slice_get homes.leaves place ≡ Some (leaf place) =
      λ place has. slice_get-get_or homes.leaves place 0 (omega (arith, homeless.atoms_of place has, homes.long)) in
      let few = no_longer (map leaf atoms) homeless.leaves
      (once_map leaf atoms (once_of atoms homeless.once)
      (λ a b has_a has_b same. homes.once a b (leaf b) (subst (λ l. slice_get homes.leaves a ≡ Some l) same (at a has_a)) (at b has_b)))
      (λ l has. let m = from_map leaf atoms l has in
      homeless.all m.item l m.has (subst (λ x. IsOpenTo g t made m.item x) (sym m.is) (homes.open' m.item (leaf m.item) (at m.item m.has)))) in
      omega (arith, few, length-map atoms leaf, homeless.fewer)

  pub has_hope : IsHopeful g n t made → HasHope g n t made
  has_hope hopeful = record {
    uncut = uncut hopeful.uncut;
    housed = housed hopeful.housed;
    ways = hopeful.uncrowded.ways;
  }
