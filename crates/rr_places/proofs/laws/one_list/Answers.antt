use Rattle.rr_items.specs.Switches.{SaysSwitch}
use Rattle.rr_places.specs.Switches.{switch_elems}
use Rattle.rr_places.specs.Types.{SaysType, type_elems}
use Rattle.rr_places.proofs.OneReading.{same_values, one_type}
use Rattle.rr_places.proofs.laws.one_list.Goals as goal

pub returns-clause-switches : goal.returns-clause-switches
returns-clause-switches c = λ root a b p q. same_values SaysSwitch c.one_item.ensures.switch (switch_elems root) a b p.each q.each

pub returns-clause-types : goal.returns-clause-types
returns-clause-types c = λ tiles root a b p q. same_values (SaysType tiles) (one_type tiles) (type_elems root) a b p.each q.each
