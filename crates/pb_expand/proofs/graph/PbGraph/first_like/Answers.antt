use Rattle.std.proofs.Common.{length, refl, arith}
use Rattle.std.proofs.lemmas.Option.{slice_get_read}
use Rattle.pb_expand.specs.Tied.{graph_of}
use Rattle.pb_expand.proofs.Lists.{element}
use Rattle.pb_expand.proofs.Firsts.{same_block}
use Rattle.pb_expand.proofs.graph.PbGraph.first_like.Goals as goal

pub returns-clause-same : goal.returns-clause-same
returns-clause-same c =
    let known = rw (← c.self.view_is) at c.requires in
    let g = graph_of c.self.inside in
    let firsts = c.self.invariant.firsts in
    let a = element g.instances c.args.pb.0 known in
    let at_n = slice_get_read c.self.inside.firsts.items (length c.self.inside.firsts.items) c.args.pb.0 c.index.result.now refl (omega (arith, known, firsts.all)) c.index.ensures in
    rw (← c.self.view_is) (same_block g c.args.pb.0 c.index.result.now.0 a.0 c.self.invariant.law.numbering a.1 (firsts.each c.args.pb.0 a.0 c.index.result.now a.1 at_n))
