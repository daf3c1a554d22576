use Rattle.atom_lists.specs.Lists.{names_of, entries_of}
use Rattle.atom_lists.proofs.OneList.{one_list, never_both, one_refusal}
use Rattle.atom_lists.proofs.laws.laws_of_lists.Goals as goal

pub returns-clause-one : goal.returns-clause-one
returns-clause-one c = λ bytes xs ys is_xs is_ys.
    one_list (names_of c.args.net.now.atoms) (entries_of bytes) xs ys c.law.ensures.atoms.once is_xs.named is_ys.named

pub returns-clause-read : goal.returns-clause-read
returns-clause-read c = λ bytes numbers e spells refuses.
    never_both (names_of c.args.net.now.atoms) (entries_of bytes) numbers e c.law.ensures.atoms.once spells refuses

pub returns-clause-refused : goal.returns-clause-refused
returns-clause-refused c = λ bytes e f one other. one_refusal (names_of c.args.net.now.atoms) (entries_of bytes) e f one other
