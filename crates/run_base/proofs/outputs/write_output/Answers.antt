use Rattle.shelf_kit.proofs.OneFile.{begun_held}
use Rattle.run_base.proofs.Written.{whole_written, part_written}
use Rattle.run_base.proofs.outputs.write_output.Goals as goal

pub append_output-requires : goal.append_output-requires
append_output-requires g c = begun_held c.args.file.now _ _ c.in-Ok.ensures.ok

pub returns-in-Ok-clause-wrote : goal.returns-in-Ok-clause-wrote
returns-in-Ok-clause-wrote g c = whole_written c.args.file.now (g.W.OutputText.text c.args.text.now) _ _ _ c.append_output.result c.in-Ok.ensures.ok c.append_output.ensures.ok

pub returns-in-Ok-clause-part : goal.returns-in-Ok-clause-part
returns-in-Ok-clause-part g c = part_written c.args.file.now (g.W.OutputText.text c.args.text.now) _ _ _ c.append_output.result c.in-Ok.ensures.ok c.append_output.ensures.part
