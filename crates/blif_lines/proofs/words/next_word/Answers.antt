use Rattle.blif_lines.proofs.Wording.{white_cut}
use Rattle.blif_lines.proofs.words.next_word.Goals as goal

pub split_at-requires : goal.split_at-requires
split_at-requires c = white_cut c.as_bytes.result.now c.args.text.now _ _ c.as_bytes.ensures.value c.utf8.text c.white.ensures
