use Rattle.rr_files.proofs.Joining.{whole}
use Rattle.rr_files.proofs.read.read_rr.Goals as goal

pub returns : goal.returns
returns c =
    whole c.args.arch.now.tiles c.args.bytes.now c.in_ok-root.root (record { spells = c.in_ok-root.ensures.found; shallow = c.in_ok-root.ensures.shallow }) c.read_root.result
    c.read_root.ensures
