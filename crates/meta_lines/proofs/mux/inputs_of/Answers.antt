use Rattle.std.proofs.Common.{List, subst}
use Rattle.mode_edges.specs.PinWords.{ReadsPins, ReadsNoPins}
use Rattle.mode_edges.specs.declared.pin.EdgeEnd.TheVariants.{Source}
use Rattle.meta_lines.specs.Inputs.{HaveSame}
use Rattle.meta_lines.proofs.Listing.{some_says, none_says}
use Rattle.meta_lines.proofs.Pinned.{inputs_are, no_inputs}
use Rattle.meta_lines.proofs.mux.inputs_of.Goals as goal

pub returns : goal.returns
returns c =
    inputs_are c.one_reading.ensures c.args.names.now.block c.args.names.now.mode c.args.inter.now c.in_ok-set.set.keys c.in-Some.pins.items
    (subst (λ t. ReadsPins c.args.names.now.block c.args.names.now.mode Source t c.in-Some.pins.items) c.as_bytes.ensures
    (some_says c.in_ok-pins.field-0 c.in-Some.pins _ _ c.in-Some.is c.in_ok-pins.ensures))
    (subst (HaveSame c.in_ok-set.set.keys) c.as_slice.ensures.value c.in_ok-set.ensures)

pub returns-in_default : goal.returns-in_default
returns-in_default c =
    no_inputs c.args.names.now.block c.args.names.now.mode c.args.inter.now c.new.result.keys c.new.ensures.empty
    (subst (λ t. ReadsNoPins c.args.names.now.block c.args.names.now.mode Source t) c.as_bytes.ensures
    (none_says c.in_ok-pins.field-0 _ _ c.in_default.is c.in_ok-pins.ensures))
