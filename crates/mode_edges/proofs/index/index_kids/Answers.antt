use Rattle.std.proofs.Common.{map, arith}
use Rattle.std.proofs.lemmas.List.{length-map}
use Rattle.mode_edges.specs.Scopes.{places_in}
use Rattle.mode_edges.proofs.Indexes.{index_starts, index_more, index_ends, name_at}
use Rattle.mode_edges.proofs.index.index_kids.Goals as goal

pub loop-place-init : goal.loop-place-init
loop-place-init c = index_starts (map (λ kid. kid.name) c.args.kids.now) c.new-index.result c.new-index.ensures.empty

pub loop-place-preserved : goal.loop-place-preserved
loop-place-preserved c =
    index_more (map (λ kid. kid.name) c.args.kids.now) c.loop-place.place (places_in c.loop-place.index) (places_in c.add_name.new.index) c.as_bytes.result.now
    (name_at (λ kid. kid.name) c.args.kids.now c.loop-place.place c.index-kids-place.result c.as_bytes.result.now c.loop-place-test.true c.index-kids-place.is c.as_bytes.ensures)
    c.in_ok-add_name.ensures c.loop-place.invariant

pub returns : goal.returns
returns c =
    index_ends (map (λ kid. kid.name) c.args.kids.now) c.loop-place.place (places_in c.loop-place.index)
    (let end = length-map c.args.kids.now (λ kid. kid.name) in omega (arith, end)) c.loop-place.invariant
