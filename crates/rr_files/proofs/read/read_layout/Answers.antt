use Rattle.std.proofs.Common.{◌≡◌, ◌<◌, ◌≤◌, ◌⊎◌, ap, subst, ◌∙◌}
use Rattle.arch_types.specs.declared.arch.ArchParts.{ArchParts}
use Rattle.rr_locs.specs.declared.error.LocsError.TheVariants.{OutOfMemory, TooMany}
use Rattle.rr_tables.specs.Layouts.{IsLaidOn}
use Rattle.rr_tables.specs.Roots.{roots_of}
use Rattle.rr_files.specs.Refusing.{LayoutFails, error_of_locs}
use Rattle.rr_files.specs.Saying.{summed, SaysLayout}
use Rattle.rr_files.proofs.Answering.{laid_says}
use Rattle.rr_files.proofs.Passing.{OrShort, passed, locs_told}
use Rattle.rr_files.proofs.read.read_layout.Goals as goal

pub returns-in_err-new : goal.returns-in_err-new
returns-in_err-new c =
    let tiles = c.args.arch.now.tiles in
    let root = c.args.root.now in
    let types = c.in_ok-read_types.field-0 in
    let e = c.in_err-new.field-0.0 in
    let lent = c.as_slice.ensures ∙ ap (λ (a : ArchParts). a.tiles) c.arch.view_is in
    passed (λ l. SaysLayout tiles root l × IsLaidOn tiles l) (OrShort (LayoutFails tiles root)) c.from_residual-in_err-new.result (error_of_locs e) c.from_residual-in_err-new.ensures.1
    (locs_told tiles root types c.in_ok-read_types.ensures.read c.in_ok-grid.grid c.in_ok-grid.ensures e
    (subst (λ ts. (e ≡ OutOfMemory) ⊎ ((e ≡ TooMany) × (1048576 < summed (roots_of ts types c.in_ok-grid.grid)))) lent c.in_err-new.ensures))

pub returns : goal.returns
returns c =
    let tiles = c.args.arch.now.tiles in
    let types = c.in_ok-read_types.field-0 in
    let lent = c.as_slice.ensures ∙ ap (λ (a : ArchParts). a.tiles) c.arch.view_is in
    laid_says tiles c.args.root.now types c.in_ok-grid.grid c.in_ok-new.field-0 c.in_ok-read_types.ensures.read c.in_ok-grid.ensures
    c.in_ok-new.ensures.0 c.in_ok-new.ensures.1 (subst (λ ts. IsLaidOn ts c.in_ok-new.field-0) lent c.in_ok-new.ensures.2)
    (subst (λ ts. summed (roots_of ts types c.in_ok-grid.grid) ≤ 1048576) lent c.in_ok-new.ensures.3)
