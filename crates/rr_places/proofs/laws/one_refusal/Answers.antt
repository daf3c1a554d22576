use Rattle.rr_items.specs.Switches.{SaysSwitch}
use Rattle.rr_places.specs.Switches.{IsBadSwitch, id_of, switch_elems}
use Rattle.rr_places.specs.Types.{SaysType, IsBadType, type_elems, type_id}
use Rattle.rr_places.proofs.OneReading.{one_type}
use Rattle.rr_places.proofs.OneRefusal.{not_both, one_way, switch_apart, switch_same, type_apart, type_same}
use Rattle.rr_places.proofs.laws.one_refusal.Goals as goal

pub returns-clause-switches : goal.returns-clause-switches
returns-clause-switches c = λ root d e p q.
    one_way SaysSwitch id_of IsBadSwitch c.one_item.ensures.switch switch_apart switch_same (switch_elems root) d e p q

pub returns-clause-switches_never_both : goal.returns-clause-switches_never_both
returns-clause-switches_never_both c = λ root a e p q.
    not_both SaysSwitch id_of IsBadSwitch c.one_item.ensures.switch switch_apart switch_same (switch_elems root) a e p q

pub returns-clause-types : goal.returns-clause-types
returns-clause-types c = λ tiles root d e p q.
    one_way (SaysType tiles) type_id (IsBadType tiles) (one_type tiles) (type_apart tiles) (type_same tiles) (type_elems root) d e p q

pub returns-clause-types_never_both : goal.returns-clause-types_never_both
returns-clause-types_never_both c = λ tiles root a e p q.
    not_both (SaysType tiles) type_id (IsBadType tiles) (one_type tiles) (type_apart tiles) (type_same tiles) (type_elems root) a e p q
