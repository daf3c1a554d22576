use Rattle.std.proofs.Common.{refl, []}
use Rattle.std.proofs.lemmas.Bool.{false≢true}
use Rattle.tree_lines.proofs.EachWord.{found_at, not_at}
use Rattle.tree_lines.proofs.words.cut_at.Goals as goal

pub returns-then-is_same : goal.returns-then-is_same
returns-then-is_same c =
    found_at c.args.words.now c.loop-i.i c.args.at.now (record { ref_ptr = (0, 0); now = [] }) c.loop-i-test.true (c.if-is_same.ensures.0 refl) c.loop-i.invariant

pub loop-i-preserved : goal.loop-i-preserved
loop-i-preserved c =
    not_at c.args.words.now c.loop-i.i c.args.at.now (record { ref_ptr = (0, 0); now = [] }) c.loop-i-test.true (λ same. false≢true (c.if-is_same.ensures.1 same)) c.loop-i.invariant
