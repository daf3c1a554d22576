use Rattle.std.proofs.Common.{◌≡◌, length, ap, ◌∙◌, arith}
use Rattle.std.proofs.lemmas.List.{take_all}
use Rattle.pb_expand.specs.declared.number.Edge.{Edge}
use Rattle.pb_expand.specs.Ends.{pairs_from}
use Rattle.pb_expand.proofs.EdgeLists.{no_edge, pairs_more, pairs_count, keys_below}
use Rattle.pb_expand.proofs.ends.edges_by_source.Goals as goal

pub loop-number-preserved : goal.loop-number-preserved
loop-number-preserved c =
    pairs_more (λ (e : Edge). e.src.0) c.args.edges.now c.loop-number.number no_edge c.loop-number.pairs.items c.push.new.self.items c.loop-number-test.true
    c.loop-number.invariant c.in_ok-push.ensures.items

pub from_pairs-requires-clause-keys : goal.from_pairs-requires-clause-keys
from_pairs-requires-clause-keys c =
    let all : c.loop-number.pairs.items ≡ pairs_from (λ e. e.src.0) 0 c.args.edges.now =
    c.loop-number.invariant ∙ ap (pairs_from (λ e. e.src.0) 0) (take_all c.loop-number.number c.args.edges.now (omega (arith, c.loop-number-test.false))) in
    rw (c.as_slice.ensures.value, all) (keys_below (λ (e : Edge). e.src.0) 0 c.args.edges.now c.args.pins c.requires.inside)

pub from_pairs-requires-clause-size : goal.from_pairs-requires-clause-size
from_pairs-requires-clause-size c =
    let all : c.loop-number.pairs.items ≡ pairs_from (λ e. e.src.0) 0 c.args.edges.now =
    c.loop-number.invariant ∙ ap (pairs_from (λ e. e.src.0) 0) (take_all c.loop-number.number c.args.edges.now (omega (arith, c.loop-number-test.false))) in
    omega (arith, ap length (c.as_slice.ensures.value ∙ all), pairs_count (λ (e : Edge). e.src.0) 0 c.args.edges.now, c.requires.few)
