use Rattle.std.proofs.Common.{append-nil, sym}
use Rattle.blif_lines.specs.Seen.{piece_seen}
use Rattle.blif_lines.specs.Lines.{IsPlacedAt}
use Rattle.std.proofs.Common.{◌∷◌, [], subst}
use Rattle.blif_lines.proofs.Joining.{lone_word, lone_utf8, placed}
use Rattle.blif_lines.proofs.line.lone_line.Goals as goal

pub returns : goal.returns
returns c =
    let p = piece_seen c.args.piece in
    record {
      text = sym (append-nil p.text);
      utf8 = lone_utf8 p c.is_utf8.result c.is_utf8.ensures;
      place = subst (IsPlacedAt p.number (p ∷ [])) (sym c.place_or_start.ensures)
          (placed p.number (p ∷ []) c.word_place.result (lone_word p c.word_place.result c.word_place.ensures));
    }
