use Rattle.atom_words.proofs.AtomNames.{atom_word, net_word}
use Rattle.atom_words.proofs.laws.names_are_words.Goals as goal

pub returns-clause-nets : goal.returns-clause-nets
returns-clause-nets c = net_word c.args.net.now c.law.ensures

pub returns-clause-atoms : goal.returns-clause-atoms
returns-clause-atoms c = atom_word c.args.net.now c.law.ensures
