-- A site and its choice together: which site is set, and the choices with it set.
use Rattle.std.specs.Prelude.{◌≡◌, true, IsSome}
use Rattle.prog_map.specs.declared.choice.LSite.{LSite}
use Rattle.prog_map.specs.declared.choice.LSite.TheVariants as site
use Rattle.prog_map.specs.declared.setting.Setting.{Setting}
use Rattle.prog_map.specs.declared.setting.Setting.TheVariants.{Mode, Pick, Used, Lut}
use Rattle.prog_map.specs.Choices.{Choices, mode_of, pick_of, is_used, lut_of, with_mode, with_pick, with_used, with_lut}

abbrev pub site_of : Setting → LSite
site_of (Mode pb mode) = site.Mode pb
site_of (Pick pin mode edge) = site.Pin pin mode
site_of (Used pb) = site.Used pb
site_of (Lut pb choice) = site.Lut pb

-- the site has a choice
abbrev pub HasChoice : Choices → LSite → Type 0
HasChoice c (site.Mode pb) = IsSome (mode_of c pb.0)
HasChoice c (site.Pin pin mode) = IsSome (pick_of c pin.0 mode)
HasChoice c (site.Used pb) = is_used c pb.0 ≡ true
HasChoice c (site.Lut pb) = IsSome (lut_of c pb.0)

-- the choices with one site set
abbrev pub with_setting : Choices → Setting → Choices
with_setting c (Mode pb mode) = with_mode c pb.0 mode
with_setting c (Pick pin mode edge) = with_pick c pin.0 mode edge.0
with_setting c (Used pb) = with_used c pb.0
with_setting c (Lut pb choice) = with_lut c pb.0 choice
