use Rattle.std.proofs.Common.{Some, None, slice_index_or, refl}
use Rattle.std.proofs.lemmas.Bool.{false≢true}
use Rattle.std.proofs.lemmas.Option.{slice_get-get_or}
use Rattle.net_faults.proofs.Feeding.{other_kind, driver_low, maker_read}
use Rattle.net_faults.proofs.feeds.lut_maker.Goals as goal

pub returns-in_err-maker : goal.returns-in_err-maker
returns-in_err-maker c =
    let none = maker_read c.args.atoms.now c.args.makers.now c.args.net None c.requires.makers c.requires.within c.in_err-maker.was in
    rw c.from_residual.ensures (λ number lut. none (number, lut.drives))

pub bounds-atoms-maker : goal.bounds-atoms-maker
bounds-atoms-maker c =
    driver_low c.args.atoms.now c.args.net c.in_ok-maker.maker
    (maker_read c.args.atoms.now c.args.makers.now c.args.net (Some c.in_ok-maker.maker) c.requires.makers c.requires.within c.in_ok-maker.was)

pub bounds-atoms-maker-in_ok-maker : goal.bounds-atoms-maker-in_ok-maker
bounds-atoms-maker-in_ok-maker c =
    driver_low c.args.atoms.now c.args.net c.in_ok-maker.maker
    (maker_read c.args.atoms.now c.args.makers.now c.args.net (Some c.in_ok-maker.maker) c.requires.makers c.requires.within c.in_ok-maker.was)

pub returns-then-is_lut : goal.returns-then-is_lut
returns-then-is_lut c =
    let atoms = c.args.atoms.now in
    let maker = c.in_ok-maker.maker in
    let atom = c.index-atoms-maker.result in
    let drives = maker_read atoms c.args.makers.now c.args.net (Some maker) c.requires.makers c.requires.within c.in_ok-maker.was in
    record {
      drives = drives;
      atom = slice_index_or atoms maker atom;
      there = slice_get-get_or atoms maker atom (driver_low atoms c.args.net maker drives);
      is_lut = c.if-is_lut.ensures.0 refl;
    }

pub returns-else-is_lut : goal.returns-else-is_lut
returns-else-is_lut c =
    let atoms = c.args.atoms.now in
    let maker = c.in_ok-maker.maker in
    let atom = c.index-atoms-maker.result in
    let drives = maker_read atoms c.args.makers.now c.args.net (Some maker) c.requires.makers c.requires.within c.in_ok-maker.was in
    other_kind atoms c.args.net maker (slice_index_or atoms maker atom) c.requires.made drives
    (slice_get-get_or atoms maker atom (driver_low atoms c.args.net maker drives)) (λ is. false≢true (c.if-is_lut.ensures.1 is))
