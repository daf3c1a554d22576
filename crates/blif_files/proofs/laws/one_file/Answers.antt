use Rattle.blif_files.proofs.OneFile.{Knows, one_parts, one_reason, not_both}
use Rattle.blif_files.proofs.laws.one_file.Goals as goal

pub returns : goal.returns
returns c =
    let knows : Knows = record {
      lists = c.one_reading.ensures.lines;
      said = c.one_model.ensures.model;
      reason = c.one_model.ensures.refusal;
      never = c.one_model.ensures.never;
      parts = c.one_model.ensures.parts;
    } in
    record { model = one_parts knows; refusal = one_reason knows; never = not_both knows }
