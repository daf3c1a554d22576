use Rattle.meta_said.proofs.Firsting.{first_lacks}
use Rattle.meta_said.proofs.Meaning.{no_kind_said}
use Rattle.meta_said.specs.Owners.{name_of}
use Rattle.meta_said.specs.declared.types.MetaSort.TheVariants.{Kind}
use Rattle.meta_said.proofs.owner.lut_kind.Goals as goal

pub returns-in_default : goal.returns-in_default
returns-in_default c = λ kind text first says. first_lacks (name_of Kind) c.args.metas.now text first c.in_default.ensures

pub returns-in-Err : goal.returns-in-Err
returns-in-Err c =
    no_kind_said c.args.metas.now c.in-Some.text.now c.in-Err.e c.no_kind.result c.one_meaning.ensures.kind c.in-Some.ensures c.in-Err.ensures.refused c.no_kind.ensures
