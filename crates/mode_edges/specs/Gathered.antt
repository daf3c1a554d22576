-- The edges of one interconnect, gathered after those of others.
use Rattle.std.specs.Prelude.{Bool, ℕ, List}
use Rattle.arch_types.specs.declared.block.PbType.{PbType}
use Rattle.arch_types.specs.declared.block.Mode.{Mode}
use Rattle.arch_types.specs.declared.block.Inter.{Inter}
use Rattle.mode_edges.specs.declared.pin.LocalPin.{LocalPin}
use Rattle.mode_edges.specs.declared.pin.LocalEdge.{LocalEdge}
use Rattle.mode_edges.specs.Faults.{NamesPins}
use Rattle.mode_edges.specs.Pairs.{given_by, AddsUpTo}

-- what the interconnect gives between its pins was added, up to so many edges in all
pub record AddsInter (block : PbType) (mode : Mode) (inter : Inter) (number most : ℕ) (old new : List LocalEdge) (all : Bool) : Type 0 where
  pub ins : List LocalPin
  pub outs : List LocalPin
  pub names : NamesPins block mode inter ins outs
  pub adds : AddsUpTo most old new (given_by inter.kind number ins outs) all
