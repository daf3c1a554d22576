use Rattle.prog_text.proofs.PlainNames as names
use Rattle.prog_text.proofs.laws.plain_names.Goals as goal

pub returns : goal.returns
returns c = names.plain_names c.args.arch.now c.law.ensures
