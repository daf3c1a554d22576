-- What the metadata of an interconnect says (FPGA assembly metadata: `fasm_mux`).
use Rattle.std.specs.Prelude.{ℕ, List, Option, codes}
use Rattle.arch_types.specs.declared.block.PbType.{PbType}
use Rattle.arch_types.specs.declared.block.Mode.{Mode}
use Rattle.arch_types.specs.declared.block.Inter.{Inter}
use Rattle.meta_lines.specs.declared.types.PinFeatures.{PinFeatures}
use Rattle.meta_lines.specs.declared.error.LineError.{LineError}
use Rattle.meta_lines.specs.Muxes.{ListsMux, RefusesMuxText}
use Rattle.meta_said.specs.Firsts.{IsFirstText, SaysFirst}

-- the features of its input pins
abbrev pub SaysInter : PbType → Mode → Inter → Option (List PinFeatures) → Type 0
SaysInter block mode inter given = SaysFirst (ListsMux block mode inter) (codes "fasm_mux") inter.metas given

-- the text of its first `fasm_mux` is refused
pub record RefusesInter (block : PbType) (mode : Mode) (inter : Inter) (e : LineError) : Type 0 where
  pub text : List ℕ
  pub first : IsFirstText (codes "fasm_mux") inter.metas text
  pub refused : RefusesMuxText block mode inter text e
