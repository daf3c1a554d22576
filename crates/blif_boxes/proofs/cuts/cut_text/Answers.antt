use Rattle.blif_boxes.proofs.OneCut.{behind_first}
use Rattle.blif_boxes.proofs.cuts.cut_text.Goals as goal

pub split_at-requires-2 : goal.split_at-requires-2
split_at-requires-2 c =
    behind_first c.as_bytes.result.now c.args.text.now c.in_ok-before.before.now c.in_ok-before.field-0-1.now c.split_at.result.1.now c.args.byte c.requires
    c.as_bytes.ensures.value c.in_ok-before.ensures c.split_at.ensures.back c.utf8.text
