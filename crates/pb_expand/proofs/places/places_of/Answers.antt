use Rattle.std.proofs.Common.{◌≡◌, ◌<◌, ◌≤◌, ◌++◌, [], Some, Err, map, length, get_or, slice_get, refl, sym, ap, ◌∙◌, subst, inr, arith}
use Rattle.std.proofs.lemmas.List.{length-map}
use Rattle.arch_types.specs.Address.{instances_of, below}
use Rattle.arch_types.specs.Numbering.{IsNumbering}
use Rattle.arch_types.proofs.Numbered.{is_numbering}
use Rattle.pb_expand.specs.declared.error.SizeError.TheVariants as size
use Rattle.pb_expand.specs.Graph.{pins_of}
use Rattle.pb_expand.specs.Making.{AreFirsts, pins_over}
use Rattle.pb_expand.specs.Shapes.{AreShapes}
use Rattle.pb_expand.specs.Rows.{addresses}
use Rattle.pb_expand.proofs.RowLemmas.{one_step}
use Rattle.pb_expand.proofs.Insides.{one_pin}
use Rattle.pb_expand.proofs.Told.{passed_on}
use Rattle.pb_expand.proofs.Numbers.{instances_once, rows_once, pins_are_of, pins_of_once, few_blocks}
use Rattle.pb_expand.proofs.places.places_of.Goals as goal

pub pins_of_blocks-requires : goal.pins_of_blocks-requires
pins_of_blocks-requires c =
    let rows = c.push_below.new.rows.items in
    let instances : addresses rows ≡ instances_of c.args.root.now =
    c.in_ok-push_below.ensures.added ∙ ap (λ rs. addresses rs ++ below c.args.root.now.kind (get_or (addresses rs) 0 [])) c.new-rows.ensures.items in
    let few : length rows ≤ 1048575 = c.in_ok-push_below.ensures.few (omega (arith, ap length c.new-rows.ensures.items)) in
    omega (
      arith,
      few,
      ap length c.as_slice-2.ensures.value,
      length-map c.in_ok-blocks.blocks.items (λ b. b.now),
      few_blocks c.args.root.now rows (map (λ b. b.now) c.in_ok-blocks.blocks.items) instances c.in_ok-blocks.ensures.blocks,
    )

pub returns-in_err-pins-clause-many : goal.returns-in_err-pins-clause-many
returns-in_err-pins-clause-many c = λ told.
    let blocks = map (λ b. b.now) c.in_ok-blocks.blocks.items in
    let full = c.in_err-pins.ensures.many (ap Err (passed_on _ c.in_err-pins.field-0.0 size.TooMany c.from_residual-in_err-pins.ensures.1 told)) in
    let over = pins_are_of c.args.root.now blocks (pins_over 0 blocks) c.in_ok-blocks.ensures.blocks refl in
    let slice = ap (λ bs. pins_over 0 (map (λ b. b.now) bs)) c.as_slice-2.ensures.value in
    let all : 1048576 < length (pins_of c.args.root.now) = subst (λ ps. 1048576 < length ps) (slice ∙ over) full in
    inr all

pub set_of-requires : goal.set_of-requires
set_of-requires c =
    let rows = c.push_below.new.rows.items in
    let instances : addresses rows ≡ instances_of c.args.root.now =
    c.in_ok-push_below.ensures.added ∙ ap (λ rs. addresses rs ++ below c.args.root.now.kind (get_or (addresses rs) 0 [])) c.new-rows.ensures.items in
    λ i j x y at_i at_j same.
    let x_at : slice_get rows i ≡ Some x = subst (λ l. slice_get l i ≡ Some x) c.as_slice-3.ensures.value at_i in
    let y_at : slice_get rows j ≡ Some y = subst (λ l. slice_get l j ≡ Some y) c.as_slice-3.ensures.value at_j in
    rows_once rows c.in_ok-push_below.ensures.tree (instances_once c.args.root.now rows instances) i j x x_at (y_at ∙ ap Some (one_step x y same))

pub firsts_of-requires-clause-numbering : goal.firsts_of-requires-clause-numbering
firsts_of-requires-clause-numbering c =
    let rows = c.push_below.new.rows.items in
    let instances : addresses rows ≡ instances_of c.args.root.now =
    c.in_ok-push_below.ensures.added ∙ ap (λ rs. addresses rs ++ below c.args.root.now.kind (get_or (addresses rs) 0 [])) c.new-rows.ensures.items in
    let keys = c.in_ok-row_set.ensures ∙ c.as_slice-3.ensures.value in
    subst (λ l. IsNumbering c.args.root.now l) (sym (ap addresses keys ∙ instances)) (is_numbering c.args.root.now)

pub shapes_of-requires-clause-short : goal.shapes_of-requires-clause-short
shapes_of-requires-clause-short c = rw c.as_slice-4.ensures.value c.in_ok-blocks.ensures.short

pub shapes_of-requires-clause-few : goal.shapes_of-requires-clause-few
shapes_of-requires-clause-few c =
    rw c.as_slice-4.ensures.value
    (omega (arith, c.in_ok-pins.ensures.few, ap length (c.in_ok-pins.ensures.pins ∙ ap (λ bs. pins_over 0 (map (λ b. b.now) bs)) c.as_slice-2.ensures.value)))

pub returns-clause-firsts : goal.returns-clause-firsts
returns-clause-firsts c =
    let rows = c.push_below.new.rows.items in
    let instances : addresses rows ≡ instances_of c.args.root.now =
    c.in_ok-push_below.ensures.added ∙ ap (λ rs. addresses rs ++ below c.args.root.now.kind (get_or (addresses rs) 0 [])) c.new-rows.ensures.items in
    let keys = c.in_ok-row_set.ensures ∙ c.as_slice-3.ensures.value in
    subst (λ l. AreFirsts l c.in_ok-firsts.firsts.items) (ap addresses keys ∙ instances) c.in_ok-firsts.ensures

pub returns-clause-shapes : goal.returns-clause-shapes
returns-clause-shapes c = subst (λ bs. AreShapes (map (λ b. b.now) bs) c.in_ok-shapes.shapes.items) c.as_slice-4.ensures.value c.in_ok-shapes.ensures

pub set_of-requires-2 : goal.set_of-requires-2
set_of-requires-2 c =
    let pins = c.in_ok-pins.pins.items in
    let blocks = map (λ b. b.now) c.in_ok-blocks.blocks.items in
    let over : pins ≡ pins_over 0 blocks = c.in_ok-pins.ensures.pins ∙ ap (λ bs. pins_over 0 (map (λ b. b.now) bs)) c.as_slice-2.ensures.value in
    let are = pins_are_of c.args.root.now blocks pins c.in_ok-blocks.ensures.blocks over in
    λ i j x y at_i at_j same.
    let x_at : slice_get pins i ≡ Some x = subst (λ l. slice_get l i ≡ Some x) c.as_slice-5.ensures.value at_i in
    let y_at : slice_get pins j ≡ Some y = subst (λ l. slice_get l j ≡ Some y) c.as_slice-5.ensures.value at_j in
    pins_of_once c.args.root.now pins are i j x x_at (y_at ∙ ap Some (one_pin x y same))

pub returns-clause-pins : goal.returns-clause-pins
returns-clause-pins c =
    let pins = c.in_ok-pins.pins.items in
    let blocks = map (λ b. b.now) c.in_ok-blocks.blocks.items in
    let over : pins ≡ pins_over 0 blocks = c.in_ok-pins.ensures.pins ∙ ap (λ bs. pins_over 0 (map (λ b. b.now) bs)) c.as_slice-2.ensures.value in
    c.in_ok-set_of.ensures ∙ c.as_slice-5.ensures.value ∙ pins_are_of c.args.root.now blocks pins c.in_ok-blocks.ensures.blocks over
