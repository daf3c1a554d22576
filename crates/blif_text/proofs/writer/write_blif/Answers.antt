use Rattle.std.proofs.Common.{◌≡◌, sym, ap, ◌∙◌, subst}
use Rattle.arch_types.specs.declared.arch.ArchParts.{ArchParts}
use Rattle.net_types.specs.Fits.{FitsModels}
use Rattle.blif_text.proofs.writer.write_blif.Goals as goal

pub netlist_text-requires : goal.netlist_text-requires
netlist_text-requires c =
    let lent : c.as_slice.result.now ≡ c.args.arch.now.models = c.as_slice.ensures ∙ ap (λ (a : ArchParts). a.models) c.arch.view_is in
    subst (λ l. FitsModels l c.args.net.now) (sym lent) c.requires
