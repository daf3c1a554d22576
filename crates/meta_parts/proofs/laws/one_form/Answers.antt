use Rattle.meta_parts.proofs.Forming.{one_bit_form, one_range_form, one_child_form}
use Rattle.meta_parts.proofs.Siding.{one_pair}
use Rattle.meta_parts.proofs.laws.one_form.Goals as goal

pub returns-clause-sides : goal.returns-clause-sides
returns-clause-sides c = one_pair

pub returns-clause-bit : goal.returns-clause-bit
returns-clause-bit c = one_bit_form

pub returns-clause-range : goal.returns-clause-range
returns-clause-range c = one_range_form c.one_range.ensures

pub returns-clause-child : goal.returns-clause-child
returns-clause-child c = one_child_form
