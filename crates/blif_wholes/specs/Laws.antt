-- Nets and atoms are refused in one way, and those of a netlist aren't.
use Rattle.std.specs.Prelude.{◌≡◌}
use Rattle.blif_errors.specs.declared.error.BlifError.{BlifError}
use Rattle.net_types.specs.declared.parts.NetlistParts.{NetlistParts}
use Rattle.net_types.specs.WellFormed.{IsNetlist}
use Rattle.blif_wholes.specs.Wholes.{IsWholeRefused}

abbrev pub HasOneRefusal : Type 0
HasOneRefusal = (n : NetlistParts) (d e : BlifError) → IsWholeRefused n d → IsWholeRefused n e → d ≡ e

abbrev pub NeverBoth : Type 0
NeverBoth = (n : NetlistParts) (e : BlifError) → IsNetlist n → IsWholeRefused n e → ⊥
