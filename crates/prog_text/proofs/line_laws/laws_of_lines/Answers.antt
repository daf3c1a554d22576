use Rattle.prog_text.proofs.OneLine.{one_named, lacks_nothing, one_lack}
use Rattle.prog_text.proofs.Reading.{setting_kept}
use Rattle.prog_text.specs.Sayings.{Says}
use Rattle.prog_text.proofs.line_laws.laws_of_lines.Goals as goal

pub returns-clause-one : goal.returns-clause-one
returns-clause-one c plain = one_named c.args.graph.now c.law.ensures plain c.one_owner.ensures

pub returns-clause-named : goal.returns-clause-named
returns-clause-named c plain = lacks_nothing c.args.graph.now c.law.ensures plain c.one_owner.ensures

pub returns-clause-lacks : goal.returns-clause-lacks
returns-clause-lacks c plain = one_lack c.args.graph.now c.law.ensures plain c.one_owner.ensures

pub returns-clause-kept : goal.returns-clause-kept
returns-clause-kept c p line x of named = setting_kept c.args.graph.now p (Says line) x of named
