use Rattle.std.proofs.Common.{◌≡◌, Option, Some, None, sym, ◌∙◌, arith}
use Rattle.std.specs.Prelude.{MatchOption, ℕ, slice_get}
use Rattle.pb_expand.specs.declared.number.EdgeIx.{EdgeIx}
use Rattle.prog_map.specs.Choices.{IsEdgeInto}
use Rattle.task_options.proofs.Pins.{pin_inside, none_into, first_into_is}
use Rattle.task_options.proofs.live.first_into.Goals as goal

pub returns-then-pin-pins : goal.returns-then-pin-pins
returns-then-pin-pins c number into =
    let less = pin_inside c.args.graph.now c.args.pin.0 c.args.mode number c.law.ensures into in
    omega (arith, less, c.pins.ensures)

pub returns : goal.returns
returns c = by c.copied.result (sym (c.copied.ensures ∙ c.first.ensures.value))
  where
    by : (o : Option EdgeIx) → slice_get c.edges_into.result.now 0 ≡ o →
        MatchOption o ((number : ℕ) → IsEdgeInto c.args.graph.now c.args.pin.0 c.args.mode number → ⊥) (λ edge. IsEdgeInto c.args.graph.now c.args.pin.0 c.args.mode edge.0)
    by None none = none_into c.args.graph.now c.args.pin.0 c.args.mode c.edges_into.result.now c.lists_ends.ensures c.edges_into.ensures none
    by (Some first) is = first_into_is c.args.graph.now c.args.pin.0 c.args.mode c.edges_into.result.now first c.lists_ends.ensures c.edges_into.ensures is
