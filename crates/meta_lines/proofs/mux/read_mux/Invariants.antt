use Rattle.std.proofs.Common.{[], map, take}
use Rattle.meta_parts.specs.Seen.{seen}
use Rattle.meta_lines.specs.Inputs.{HaveSame}
use Rattle.meta_lines.specs.Muxes.{SaysMux, pins_in}
use Rattle.meta_lines.specs.Readings.{LinesSay}
use Rattle.meta_lines.proofs.mux.read_mux.Given as goal

abbrev pub invariant-loop-line : goal.invariant-loop-line
invariant-loop-line l = LinesSay (SaysMux l.names.block l.names.mode l.inter) [] (map seen (take l.line-index l.lines)) l.given.items × HaveSame l.pins.keys (pins_in l.given.items)
