use Rattle.real_lines.proofs.OneThing.{one_thing, spelled_lacks, one_lack}
use Rattle.real_lines.proofs.laws.laws_of_lines.Goals as goal

pub returns-clause-one : goal.returns-clause-one
returns-clause-one c plain t atoms nets line x y atoms_once nets_once =
    one_thing c.args.graph.now (c.names_are_one.ensures.instance plain) (c.names_are_one.ensures.pin plain) t atoms nets atoms_once nets_once
    c.one_division.ensures.words (c.laws_of_lines.ensures.one plain) (c.laws_of_lines.ensures.named plain) (c.laws_of_lines.ensures.lacks plain) line x y

pub returns-clause-spelled : goal.returns-clause-spelled
returns-clause-spelled c plain t atoms nets line x n e atoms_once nets_once =
    spelled_lacks c.args.graph.now (c.names_are_one.ensures.instance plain) (c.names_are_one.ensures.pin plain) t atoms nets atoms_once nets_once
    c.one_division.ensures.words (c.laws_of_lines.ensures.one plain) (c.laws_of_lines.ensures.named plain) (c.laws_of_lines.ensures.lacks plain) line x n e

pub returns-clause-lacks : goal.returns-clause-lacks
returns-clause-lacks c plain t atoms nets line n e f atoms_once nets_once =
    one_lack c.args.graph.now (c.names_are_one.ensures.instance plain) (c.names_are_one.ensures.pin plain) t atoms nets atoms_once nets_once
    c.one_division.ensures.words (c.laws_of_lines.ensures.one plain) (c.laws_of_lines.ensures.named plain) (c.laws_of_lines.ensures.lacks plain) line n e f
