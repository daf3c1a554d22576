use Rattle.std.proofs.Common.{sym, subst}
use Rattle.prog_map.specs.Choices.{IsProgOf}
use Rattle.prog_text.proofs.Reading.{setting_kept}
use Rattle.prog_text.proofs.read.read_line.Goals as goal

pub returns-clause-of : goal.returns-clause-of
returns-clause-of c =
    subst (λ x. IsProgOf c.args.graph.now x) (sym c.in_ok-set.ensures.ok) (setting_kept _ _ _ _ c.requires.of c.in_ok-setting.ensures.names)
