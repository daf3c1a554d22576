-- Layers: a routing graph has one, layer 0, which is meant where none is given.
use Rattle.std.specs.Prelude.{◌⊎◌, codes}
use Rattle.elem_text.specs.declared.elem.Elem.{Elem}
use Rattle.elem_attrs.specs.Attributes.{LacksAttribute}
use Rattle.elem_reading.specs.AttributeNumbers.{HasNumber}

abbrev pub IsOnGround : Elem → Type 0
IsOnGround e = LacksAttribute e (codes "layer") ⊎ HasNumber e (codes "layer") 0 0
