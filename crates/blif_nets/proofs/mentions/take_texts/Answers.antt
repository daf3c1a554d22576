use Rattle.std.proofs.Common.{ℕ, List, ◌∙◌}
use Rattle.blif_nets.proofs.Growing.{grows_same, reads_more, reads_known, reads_end}
use Rattle.blif_nets.proofs.mentions.take_texts.Goals as goal

pub loop-text-init : goal.loop-text-init
loop-text-init c = grows_same c.args.names.now c.args.more.now

pub returns-then-not-branch : goal.returns-then-not-branch
returns-then-not-branch c =
    reads_known (λ (t : List ℕ). t) c.args.names.now c.args.more.now c.args.more.now c.loop-text.names c.take_name.new.names c.loop-text.text-index c.text-item.result c.as_str.result.now c.in_ok-take_name.field-0
    c.loop-text-test.true (c.as_str.ensures ∙ c.text-item.is) c.if-not-branch.true c.in_ok-take_name.ensures c.loop-text.invariant

pub loop-text-preserved : goal.loop-text-preserved
loop-text-preserved c =
    reads_more (λ (t : List ℕ). t) c.args.names.now c.args.more.now c.args.more.now c.loop-text.names c.take_name.new.names c.loop-text.text-index c.text-item.result c.as_str.result.now c.in_ok-take_name.field-0
    c.loop-text-test.true (c.as_str.ensures ∙ c.text-item.is) c.if-not-branch.false c.in_ok-take_name.ensures c.loop-text.invariant

pub returns : goal.returns
returns c = reads_end (λ (t : List ℕ). t) c.args.names.now c.args.more.now c.args.more.now c.loop-text.names c.loop-text.text-index c.loop-text-test.false c.loop-text.invariant
