use Rattle.rr_items.proofs.grid.place_of.Goals as goal

pub returns-in_err-x : goal.returns-in_err-x
returns-in_err-x c = rw c.from_residual.ensures (λ place says. c.in_err-x.ensures place.x says.x)

pub returns-in_err-y : goal.returns-in_err-y
returns-in_err-y c = rw c.from_residual-in_err-y.ensures (λ place says. c.in_err-y.ensures place.y says.y)

pub returns-in_err-block_type : goal.returns-in_err-block_type
returns-in_err-block_type c = rw c.from_residual-in_err-block_type.ensures (λ place says. c.in_err-block_type.ensures place.block_type says.block_type)

pub returns-in_err-width_offset : goal.returns-in_err-width_offset
returns-in_err-width_offset c = rw c.from_residual-in_err-width_offset.ensures (λ place says. c.in_err-width_offset.ensures place.width_offset says.width_offset)

pub returns-in_err-height_offset : goal.returns-in_err-height_offset
returns-in_err-height_offset c = rw c.from_residual-in_err-height_offset.ensures (λ place says. c.in_err-height_offset.ensures place.height_offset says.height_offset)
