-- A place of the grid (VPR's routing graph files: `grid_loc` with `x`, `y`, `block_type_id`,
-- `width_offset`, `height_offset` and `layer`).
use Rattle.std.specs.Prelude.{codes}
use Rattle.elem_text.specs.declared.elem.Elem.{Elem}
use Rattle.elem_reading.specs.AttributeNumbers.{HasNumber}
use Rattle.rr_items.specs.declared.grid.GridPlace.{GridPlace}
use Rattle.rr_items.specs.declared.grid.GridFault.{GridFault}
use Rattle.rr_items.specs.declared.grid.GridFault.TheVariants.{Layer, Number}
use Rattle.rr_items.specs.Ground.{IsOnGround}

-- ids and places of a routing graph file are below 2^31
pub record SaysPlace (e : Elem) (place : GridPlace) : Type 0 where
  pub x : HasNumber e (codes "x") 2147483647 place.x
  pub y : HasNumber e (codes "y") 2147483647 place.y
  pub block_type : HasNumber e (codes "block_type_id") 2147483647 place.block_type
  pub width_offset : HasNumber e (codes "width_offset") 2147483647 place.width_offset
  pub height_offset : HasNumber e (codes "height_offset") 2147483647 place.height_offset

-- another layer is told before a number that is missing
abbrev pub IsFault : Elem → GridFault → Type 0
IsFault e Layer = IsOnGround e → ⊥
IsFault e Number = IsOnGround e × ((place : GridPlace) → SaysPlace e place → ⊥)
