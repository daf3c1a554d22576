-- The numbering of wires, node by node over a list in ascending order.
use Rattle.std.proofs.Common.{◌≡◌, ◌<◌, ◌≤◌, ◌+◌, ℕ, List, [], Some, length, take, drop, get_or, slice_get, refl, sym, ap, ◌∙◌, subst, arith}
use Rattle.std.proofs.lemmas.List.{length-take, take-append-drop, take_more, take_all}
use Rattle.std.proofs.lemmas.Option.{slice_get_within, slice_get-get_or}
use Rattle.vtr_base.specs.Lists.{Has}
use Rattle.list_laws.specs.Orders.{Ordered}
use Rattle.list_laws.proofs.Members.{at_has}
use Rattle.list_laws.proofs.Places.{get_front}
use Rattle.rr_items.specs.declared.carriers.CarriedNode.{CarriedNode}
use Rattle.rr_wires.specs.declared.types.WireIx.{WireIx}
use Rattle.rr_wires.specs.Numbering.{Numbering}
use Rattle.rr_wires.specs.Wires.{IsNumberingOf, no_wires}
use Rattle.rr_wires.specs.Steps.{AddsNode, HaveLows}
use Rattle.rr_wires.proofs.Orders.{ordered_at}
use Rattle.rr_wires.proofs.AddedNodes.{none_numbered, not_below, node_low, add_step, lows_step}

-- the nodes so far are numbered
pub record AreNumbered (nodes : List CarriedNode) (n : Numbering) : Type 0 where
  pub numbers : IsNumberingOf nodes n
  pub lows : HaveLows nodes

pub none_yet : (n : Numbering) → n ≡ no_wires → AreNumbered [] n
none_yet n is = subst (λ (m : Numbering). AreNumbered [] m) (sym is) (record { numbers = none_numbered; lows = λ node has wired. absurd has })

module _ (nodes : List CarriedNode) (ordered : Ordered (λ n m. n.id < m.id) nodes) (i : ℕ) (d : CarriedNode) (within : i < length nodes) where
  above : (m : CarriedNode) → Has (take i nodes) m → m.id < (get_or nodes i d).id
  above m has =
      let at = at_has (take i nodes) m has in
      let low : at.0 < i = omega (arith, slice_get_within (take i nodes) at.0 m at.1, length-take i nodes) in
      let there : slice_get nodes at.0 ≡ Some m =
      ap (λ (l : List CarriedNode). slice_get l at.0) (sym (take-append-drop i nodes)) ∙ get_front (take i nodes) (drop i nodes) at.0 m at.1 in
      ordered_at (λ (n m : CarriedNode). n.id < m.id) nodes ordered at.0 i m (get_or nodes i d) low there (slice_get-get_or nodes i d within)

  pub fresh_id : (old : Numbering) → AreNumbered (take i nodes) old → (w : WireIx) → Has old.nodes ((get_or nodes i d).id, w) → ⊥
  fresh_id old are w has = not_below (get_or nodes i d).id (node_low (take i nodes) (get_or nodes i d) above are.lows old are.numbers (get_or nodes i d).id w has)

  pub one_more : (old new : Numbering) → AreNumbered (take i nodes) old → AddsNode old (get_or nodes i d) new → AreNumbered (take (i + 1) nodes) new
  one_more old new are added =
      let longer = take_more nodes i d within in
      subst (λ (l : List CarriedNode). AreNumbered l new) (sym longer) (record {
        numbers = add_step (take i nodes) (get_or nodes i d) above are.lows old are.numbers (get_or nodes i d).carrier refl new added;
        lows = lows_step (take i nodes) (get_or nodes i d) above are.lows old are.numbers new added;
      })

pub all_numbered : (nodes : List CarriedNode) (i : ℕ) (n : Numbering) → length nodes ≤ i → AreNumbered (take i nodes) n → AreNumbered nodes n
all_numbered nodes i n end are = subst (λ (l : List CarriedNode). AreNumbered l n) (take_all i nodes end) are
