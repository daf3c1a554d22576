use Rattle.std.proofs.Common.{◌⊎◌, inl, inr, map, take, sym, ap, ◌∙◌, subst, refl}
use Rattle.std.proofs.lemmas.Result.{err_from_is_err_and}
use Rattle.meta_parts.specs.Seen.{seen}
use Rattle.meta_lines.specs.Muxes.{SaysMux, RefusesMux}
use Rattle.meta_lines.proofs.Listing.{map_more}
use Rattle.meta_lines.proofs.Pinned.{mux_more, mux_stops}
use Rattle.meta_lines.proofs.Stopping.{say_all}
use Rattle.meta_lines.proofs.mux.read_mux.Goals as goal

pub loop-line-preserved : goal.loop-line-preserved
loop-line-preserved c =
    let lines = c.as_slice-lines.result.now in
    mux_more c.args.names.now.block c.args.names.now.mode c.args.inter.now (map seen (take c.loop-line.line-index lines)) _ _ c.loop-line.given.items _ c.in_ok-here.here c.loop-line.pins.keys _
    (map_more seen lines c.loop-line.line-index _ c.loop-line-test.true) c.in_ok-push.ensures.items c.in_ok-insert.ensures.keys c.loop-line.invariant c.in_ok-here.ensures.ok

pub returns-in_err-here-clause-refused : goal.returns-in_err-here-clause-refused
returns-in_err-here-clause-refused c =
    let p = err_from_is_err_and c.from_residual-in_err-here.result c.from_residual-in_err-here.ensures.1 in
    let lines = c.as_slice-lines.result.now in
    rw (p.1, p.2) (mux_stops c.args.names.now.block c.args.names.now.mode c.args.inter.now c.args.text.now lines c.loop-line.line-index _ c.loop-line.given.items c.loop-line.pins.keys
    c.in_err-here.field-0.0 c.loop-line-test.true (ap (map seen) c.as_slice-lines.ensures.value ∙ c.in_ok-said.ensures) c.loop-line.invariant c.in_err-here.ensures.refused)
