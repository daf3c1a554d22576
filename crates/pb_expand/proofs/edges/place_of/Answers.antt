use Rattle.pb_expand.proofs.PinPlaces.{owner_stands}
use Rattle.pb_expand.proofs.edges.place_of.Goals as goal

pub returns : goal.returns
returns c = λ a at_owner. record {
  pb = c.owner_of-pb.result.0;
  is_pin = c.in-Some.ensures;
  is_instance = owner_stands c.args.rows.now.keys c.args.owner.0 c.args.mode c.args.pin.owner c.owner_of-pb.result.0 c.requires.tree c.owner_of-pb.ensures a at_owner;
}
