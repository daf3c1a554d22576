use Rattle.std.proofs.Common.{◌∙◌, ℕ, List, nat_eq, ap}
use Rattle.indexmap.proofs.CallerLemmas.{insert_entry-new}
use Rattle.rr_wires.specs.declared.types.WireIx.{WireIx}
use Rattle.rr_wires.proofs.Keys.{key_fresh, nat_same, nat_itself, numbering}
use Rattle.rr_wires.proofs.numbers.WireNumbers.put_node.Goals as goal

pub returns : goal.returns
returns c =
    let known = rw (← c.self.view_is) at c.requires in
    let none = key_fresh {V = WireIx} nat_eq nat_same nat_itself c.self.inside.nodes.entries c.args.id known in
    let last = c.in_ok-insert.ensures.entries ∙ insert_entry-new nat_eq c.self.inside.nodes c.args.id c.args.wire none in
    rw (← c.self.view_is) (ap (λ (es : List (ℕ × WireIx)). numbering c.self.inside.least.items es c.self.inside.pins.entries) last)
