use Rattle.std.proofs.Common.{◌++◌, ap, sym, ◌∙◌}
use Rattle.blif_lines.specs.Seen.{piece_seen}
use Rattle.blif_lines.proofs.Joining.{utf8_more, place_more}
use Rattle.blif_lines.proofs.Parts.{text_more}
use Rattle.blif_lines.proofs.joined.Joining.add.Goals as goal

pub returns : goal.returns
returns c = λ pieces holds.
    let p = piece_seen c.args.piece in
    let j = c.args.self.now in
    record {
      text = c.in_ok-extend_from_slice.ensures.items ∙ (ap (λ t. t ++ p.text) holds.text ∙ sym (text_more pieces p));
      utf8 = utf8_more pieces p j.is_utf8 c.is_utf8.result holds.utf8 c.is_utf8.ensures;
      place = rw c.or-self.ensures (place_more pieces p j.place c.word_place.result holds.place c.word_place.ensures);
    }
