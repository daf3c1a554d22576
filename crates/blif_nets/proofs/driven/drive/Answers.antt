use Rattle.blif_nets.proofs.Growing.{put}
use Rattle.blif_nets.proofs.driven.drive.Goals as goal

pub returns : goal.returns
returns c = put c.args.driven.now.keys c.insert.new.self.keys c.args.net c.in_ok-is_new.is_new c.in_ok-is_new.ensures.added c.in_ok-is_new.ensures.keys
