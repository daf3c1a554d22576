use Rattle.std.proofs.Common.{◌≡◌, [], length, refl, sym, ap, subst, ◌∙◌}
use Rattle.std.proofs.lemmas.Option.{slice_get_read}
use Rattle.vtr_base.specs.Lists.{Has}
use Rattle.list_laws.proofs.Members.{has_at}
use Rattle.task_trail.specs.Decided.{Decided, decided_on}
use Rattle.refute_check.specs.Rooms.{trail_of}
use Rattle.refute_check.proofs.Walked.{IsWalked, walk_begins, at_root, wrong_here, entered, walks_on, verdict_is}
use Rattle.refute_check.proofs.walk.walk.Goals as goal

pub loop-at-init : goal.loop-at-init
loop-at-init c =
    let none : c.args.trail.now.made ≡ [] = ap (λ (d : Decided). d.made) c.requires.trail in (
      subst (λ made. IsWalked c.args.graph.now c.args.net.now.atoms c.args.task.now c.args.nodes.now 0 made 0 0) (sym none) (walk_begins c.args.graph.now c.args.net.now.atoms c.args.task.now c.args.nodes.now c.requires.whole),
      c.requires.trail ∙ ap (λ made. trail_of c.args.graph.now c.args.task.now made) (sym none),
      c.requires.marks,
    )

pub accepts-requires-clause-root : goal.accepts-requires-clause-root
accepts-requires-clause-root c =
    let is = slice_get_read c.args.nodes.now (length c.args.nodes.now) c.loop-at.at c.index-nodes-at.result refl c.loop-at-test.true c.index-nodes-at.is in
    at_root c.args.graph.now c.args.net.now.atoms c.args.task.now c.args.nodes.now c.loop-at.at c.loop-at.trail.made c.loop-at.tally.branches c.loop-at.tally.loose c.index-nodes-at.result is c.loop-at.invariant.0

pub returns-then-not-accepts-clause-verdict : goal.returns-then-not-accepts-clause-verdict
returns-then-not-accepts-clause-verdict c =
    let is = slice_get_read c.args.nodes.now (length c.args.nodes.now) c.loop-at.at c.index-nodes-at.result refl c.loop-at-test.true c.index-nodes-at.is in
    wrong_here c.args.graph.now c.args.net.now.atoms c.args.task.now c.args.nodes.now c.loop-at.at c.loop-at.trail.made c.loop-at.tally.branches c.loop-at.tally.loose c.index-nodes-at.result is c.loop-at.invariant.0
    (λ accepted. let bad : ⊥ = cc (sym c.if-not-accepts.true, c.accepts.ensures.accepted.1 accepted) in bad)

pub go_on-requires-clause-entered : goal.go_on-requires-clause-entered
go_on-requires-clause-entered c =
    let is = slice_get_read c.args.nodes.now (length c.args.nodes.now) c.loop-at.at c.index-nodes-at.result refl c.loop-at-test.true c.index-nodes-at.is in
    entered c.args.graph.now c.args.net.now.atoms c.args.task.now c.args.nodes.now c.loop-at.at c.loop-at.trail.made c.loop-at.tally.branches c.loop-at.tally.loose c.index-nodes-at.result is c.loop-at.invariant.0
    (c.accepts.ensures.accepted.0 c.if-not-accepts.false)
    (λ v kids same. c.requires.whole.kids v kids (subst (λ x. Has c.args.nodes.now x) same (has_at c.args.nodes.now c.loop-at.at c.index-nodes-at.result is)))

pub loop-at-preserved : goal.loop-at-preserved
loop-at-preserved c =
    let is = slice_get_read c.args.nodes.now (length c.args.nodes.now) c.loop-at.at c.index-nodes-at.result refl c.loop-at-test.true c.index-nodes-at.is in
    let i = ap (λ (d : Decided). d.instances) c.loop-at.invariant.1 in
    let p = ap (λ (d : Decided). d.pins) c.loop-at.invariant.1 in
    let a = ap (λ (d : Decided). d.atoms) c.loop-at.invariant.1 in
    let made = c.go_on.new.trail.made in (
      walks_on c.args.graph.now c.args.net.now.atoms c.args.task.now c.args.nodes.now c.loop-at.at c.loop-at.trail.made c.loop-at.tally.branches c.loop-at.tally.loose c.index-nodes-at.result is c.loop-at.invariant.0
          made c.and-tally.result.branches c.and-tally.result.loose (c.accepts.ensures.accepted.0 c.if-not-accepts.false) c.go_on.ensures.stands c.and-tally.ensures.branches c.and-tally.ensures.loose,
      c.go_on.ensures.sizes ∙ ap (λ m. decided_on made m c.loop-at.trail.pins c.loop-at.trail.atoms) i ∙ ap (λ m. decided_on made (length c.args.graph.now.instances) m c.loop-at.trail.atoms) p
          ∙ ap (λ m. decided_on made (length c.args.graph.now.instances) (length c.args.graph.now.pins) m) a,
      c.accepts.ensures.marks ∙ c.loop-at.invariant.2,
    )

pub returns-clause-verdict : goal.returns-clause-verdict
returns-clause-verdict c =
    verdict_is c.args.graph.now c.args.net.now.atoms c.args.task.now c.args.nodes.now c.loop-at.at c.loop-at.trail.made c.loop-at.tally.branches c.loop-at.tally.loose c.loop-at-test.false c.loop-at.invariant.0
    c.verdict.result c.requires.whole c.verdict.ensures.refutes c.verdict.ensures.partial
