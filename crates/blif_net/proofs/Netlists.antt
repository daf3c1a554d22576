-- The netlist of a file.
use Rattle.std.proofs.Common.{◌≡◌, ◌⊎◌, inl, inr, ℕ, List, sym, subst}
use Rattle.arch_types.specs.declared.arch.CellModel.{CellModel}
use Rattle.blif_errors.specs.declared.error.BlifError.{BlifError}
use Rattle.blif_errors.specs.declared.error.BlifError.TheVariants.{OutOfMemory}
use Rattle.net_types.specs.declared.parts.NetlistParts.{NetlistParts}
use Rattle.net_types.specs.Fits.{FitsModels}
use Rattle.net_types.specs.WellFormed.{IsNetlist}
use Rattle.blif_parts.specs.declared.parts.ModelParts.{ModelParts}
use Rattle.blif_parts.specs.Atoms.{net_of}
use Rattle.blif_parts.specs.Facts.{IsModel}
use Rattle.blif_models.specs.Files.{FileSays}
use Rattle.blif_wholes.specs.Wholes.{IsWholeRefused}
use Rattle.blif_net.specs.Netlists.{IsRefused, SaysNetlist}

pub says_netlist : (models : List CellModel) (bytes : List ℕ) (parts : ModelParts) (n : NetlistParts) → FileSays models bytes parts → IsModel models parts → n ≡ net_of parts → IsNetlist n → SaysNetlist models bytes n
says_netlist models bytes parts n says keeps are whole = record { parts = parts; says = says; are = are; whole = whole; fits = subst (FitsModels models) (sym are) keeps.fits }

pub refused_whole : (models : List CellModel) (bytes : List ℕ) (parts : ModelParts) (e : BlifError) → FileSays models bytes parts → (e ≡ OutOfMemory) ⊎ IsWholeRefused (net_of parts) e → (e ≡ OutOfMemory) ⊎ IsRefused models bytes e
refused_whole models bytes parts e says (inl short) = inl short
refused_whole models bytes parts e says (inr refused) = inr (inr (record { parts = parts; says = says; refused = refused }))
