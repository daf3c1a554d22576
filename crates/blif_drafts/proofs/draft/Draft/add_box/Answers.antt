use Rattle.std.proofs.Common.{inr, map, subst, sym}
use Rattle.std.specs.List.{All}
use Rattle.blif_elems.specs.Seen.{texts}
use Rattle.blif_pins.specs.Pins.{ArePins}
use Rattle.blif_pins.specs.Seen.{said, HasSide}
use Rattle.blif_drafts.proofs.Boxed.{is_below, model_of, unknown_model, no_pins, cant_place}
use Rattle.blif_drafts.proofs.Changed.{added_by, refused_by}
use Rattle.blif_drafts.proofs.Says.{some_says, none_says}
use Rattle.blif_drafts.proofs.draft.Draft.add_box.Goals as goal

pub returns-in_default-clause-refused : goal.returns-in_default-clause-refused
returns-in_default-clause-refused c =
    inr (λ m held. unknown_model c.args.models.now m c.args.name.now c.in_ok-name.name (texts c.args.words.now) c.args.place c.in_default.ensures c.in_ok-name.ensures)

pub read_pins-requires : goal.read_pins-requires
read_pins-requires c = is_below c.args.models.now c.args.name.now c.in-Some.number c.in-Some.ensures

pub returns-in_default-2-clause-refused : goal.returns-in_default-2-clause-refused
returns-in_default-2-clause-refused c =
    inr (λ m held. no_pins c.args.models.now m c.args.name.now c.in-Some.number (texts c.args.words.now) c.args.place c.in-Some.ensures
    (λ model at. none_says c.in_ok-pins.field-0 _ _ c.in_default-2.is (c.in_ok-pins.ensures model at)))

pub add_pins-requires : goal.add_pins-requires
add_pins-requires c =
    let at = model_of c.args.models.now c.args.name.now c.in-Some.number c.in-Some.ensures in
    let says = some_says c.in_ok-pins.field-0 c.in-Some-2.pins _ _ c.in-Some-2.is (c.in_ok-pins.ensures at.0 at.1) in
    (at.0, subst (λ l. All (HasSide at.0) l) (sym c.as_slice.ensures.value) says.1)

pub returns-clause-added : goal.returns-clause-added
returns-clause-added c =
    let at = model_of c.args.models.now c.args.name.now c.in-Some.number c.in-Some.ensures in
    let says = some_says c.in_ok-pins.field-0 c.in-Some-2.pins _ _ c.in-Some-2.is (c.in_ok-pins.ensures at.0 at.1) in
    added_by c.add_pins.result _ _
    (λ grows m held. grows c.args.models.now c.args.name.now (texts c.args.words.now) at.0 m held c.in-Some.ensures at.1
    (subst (λ l. ArePins at.0 (texts c.args.words.now) (map said l)) (sym c.as_slice.ensures.value) says.0) (subst (λ l. All (HasSide at.0) l) (sym c.as_slice.ensures.value) says.1))
    c.add_pins.ensures.added

pub returns-clause-refused : goal.returns-clause-refused
returns-clause-refused c =
    let at = model_of c.args.models.now c.args.name.now c.in-Some.number c.in-Some.ensures in
    let says = some_says c.in_ok-pins.field-0 c.in-Some-2.pins _ _ c.in-Some-2.is (c.in_ok-pins.ensures at.0 at.1) in
    refused_by c.add_pins.result _ _
    (λ e cant m held. cant_place c.args.models.now m c.args.name.now c.in-Some.number (texts c.args.words.now) c.args.place at.0 (map said c.as_slice.result.now) e c.in-Some.ensures at.1
    (subst (λ l. ArePins at.0 (texts c.args.words.now) (map said l)) (sym c.as_slice.ensures.value) says.0) (cant at.0 m held (subst (λ l. All (HasSide at.0) l) (sym c.as_slice.ensures.value) says.1)))
    c.add_pins.ensures.refused
