use Rattle.rr_tables.proofs.Sides.{found_pin_of, one_side}
use Rattle.rr_tables.proofs.laws.found_pins.Goals as goal

pub returns-clause-found : goal.returns-clause-found
returns-clause-found c = λ l x y ptc found layout is. found_pin_of l layout x y ptc found is

pub returns-clause-one_side : goal.returns-clause-one_side
returns-clause-one_side c = λ l pin s t layout a b. one_side l layout pin s t a b
