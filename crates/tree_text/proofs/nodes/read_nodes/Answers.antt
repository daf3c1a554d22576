use Rattle.std.proofs.Common.{◌≡◌, ◌+◌, ◌-◌, ◌<◌, ◌≤◌, sym, subst, arith}
use Rattle.std.specs.Str.Lines.{lines}
use Rattle.task_types.specs.Trees.{IsWholeTree, kids_of}
use Rattle.tree_text.proofs.Reading.{IsReading, reads_line, whole_read}
use Rattle.tree_text.proofs.nodes.read_nodes.Goals as goal

pub loop-line-preserved : goal.loop-line-preserved
loop-line-preserved c =
    let kids : c.from.result ≡ kids_of c.in-Some-2.node = omega (arith, c.from.ensures, c.kids.ensures.is) in
    let some : 0 < c.loop-line.left = omega (arith, c.if-left-eq0.false) in
    let more : (c.loop-line.left - 1 + c.from.result) + 1 ≡ c.loop-line.left + kids_of c.in-Some-2.node = omega (arith, kids, some) in
    let small : kids_of c.in-Some-2.node ≤ 4294967295 = omega (arith, c.kids.ensures.is, c.kids.ensures.narrow) in
    subst
    (λ n. IsReading c.args.graph.now c.args.task.now c.args.atoms.now (lines c.args.bytes.now) c.in-Some.behind.now c.push.new.self.items (c.loop-line.left - 1 + c.from.result) n)
    (sym c.saturating_add-number.ensures)
    (reads_line c.args.graph.now c.args.task.now c.args.atoms.now (lines c.args.bytes.now) c.loop-line.rest.now c.in-Some.behind.now c.loop-line.nodes.items c.push.new.self.items
    c.loop-line.left (c.loop-line.left - 1 + c.from.result) c.loop-line.number c.in-Some.line.now c.in-Some-2.node c.loop-line.invariant c.in-Some.ensures.line
    (rw c.in-Some-2.is at c.in_ok-node.ensures) some more small c.in_ok-push.ensures.items)

pub returns-clause-whole : goal.returns-clause-whole
returns-clause-whole c =
    subst IsWholeTree (sym c.from_vec.ensures)
    (whole_read c.args.graph.now c.args.task.now c.args.atoms.now (lines c.args.bytes.now) c.loop-line.rest.now c.loop-line.nodes.items c.loop-line.left c.loop-line.number
    c.loop-line.invariant (omega (arith, c.if-left-gt0.false)))
