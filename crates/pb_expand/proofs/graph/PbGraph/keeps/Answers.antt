use Rattle.std.proofs.Common.{refl}
use Rattle.pb_expand.specs.Tied.{graph_of}
use Rattle.pb_expand.specs.Kept.{IsKept}
use Rattle.pb_expand.proofs.OneOwner.{one_owner}
use Rattle.pb_expand.proofs.PinPlaces.{below_leads}
use Rattle.pb_expand.proofs.Sides.{sides}
use Rattle.pb_expand.proofs.graph.PbGraph.keeps.Goals as goal

pub returns : goal.returns
returns c =
    let tied = c.self.invariant in
    let g = graph_of c.self.inside in
    let kept : IsKept g = record {
      number = tied.number;
      sound = tied.sound;
      fits = tied.fits;
      sides = sides g c.self.inside.rows.keys tied.tree refl tied.law;
      one_owner = one_owner g tied.law;
      parents = λ parent n mode child instance a at_parent at_n.
          below_leads g.root c.self.inside.rows.keys parent mode child instance n a tied.tree tied.law.numbering at_parent at_n;
      few_ports = λ n block is. (tied.short n block is).1;
      few_modes = λ n block is. (tied.short n block is).0;
    } in
    rw (← c.self.view_is) kept
