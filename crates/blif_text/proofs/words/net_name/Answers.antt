use Rattle.std.proofs.Common.{[]}
use Rattle.std.proofs.lemmas.Option.{get_or_from_slice_get}
use Rattle.std.proofs.Common.{sym}
use Rattle.blif_text.proofs.words.net_name.Goals as goal

pub returns : goal.returns
returns c = sym (get_or_from_slice_get c.args.nets.now c.args.net c.text.result.now [] c.text.ensures)
