-- A file says one netlist, or is refused for one reason.
use Rattle.std.specs.Prelude.{◌≡◌, ℕ, List}
use Rattle.arch_types.specs.declared.arch.CellModel.{CellModel}
use Rattle.blif_errors.specs.declared.error.BlifError.{BlifError}
use Rattle.net_types.specs.declared.parts.NetlistParts.{NetlistParts}
use Rattle.blif_net.specs.Netlists.{IsRefused, SaysNetlist}

abbrev pub HasOneNetlist : Type 0
HasOneNetlist = (models : List CellModel) (bytes : List ℕ) (m n : NetlistParts) → SaysNetlist models bytes m → SaysNetlist models bytes n → m ≡ n

abbrev pub HasOneRefusal : Type 0
HasOneRefusal = (models : List CellModel) (bytes : List ℕ) (d e : BlifError) → IsRefused models bytes d → IsRefused models bytes e → d ≡ e

abbrev pub NeverBoth : Type 0
NeverBoth = (models : List CellModel) (bytes : List ℕ) (n : NetlistParts) (e : BlifError) → SaysNetlist models bytes n → IsRefused models bytes e → ⊥
