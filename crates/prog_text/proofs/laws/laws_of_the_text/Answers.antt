use Rattle.prog_text.proofs.OneReading.{spelled_once, never_refused}
use Rattle.prog_text.proofs.OneRefusal.{refused_once}
use Rattle.prog_text.proofs.laws.laws_of_the_text.Goals as goal

pub returns-clause-one : goal.returns-clause-one
returns-clause-one c plain = spelled_once c.args.graph.now c.law.ensures plain c.one_owner.ensures

pub returns-clause-read : goal.returns-clause-read
returns-clause-read c plain = never_refused c.args.graph.now c.law.ensures plain c.one_owner.ensures

pub returns-clause-refused : goal.returns-clause-refused
returns-clause-refused c plain = refused_once c.args.graph.now c.law.ensures plain c.one_owner.ensures
