use Rattle.std.proofs.Common.{ap, subst, ◌∙◌}
use Rattle.vtr_base.specs.Lists.{Has}
use Rattle.blif_items.specs.Items.{outs_of}
use Rattle.blif_drafts.proofs.boxes.place_box.Goals as goal

pub cell_name-requires : goal.cell_name-requires
cell_name-requires c = λ n has.
    c.outputs_are_nets.ensures c.requires.0 _ _ _ c.in_ok-placed.placed.items n (c.in_ok-placed.ensures c.requires.0 c.requires.1)
    (subst (λ l. Has l n) (c.as_slice-2.ensures.value ∙ (c.in_ok-outs.ensures ∙ ap outs_of c.as_slice.ensures.value)) has)

pub make-requires : goal.make-requires
make-requires c = λ n has.
    c.outputs_are_nets.ensures c.requires.0 _ _ _ c.in_ok-placed.placed.items n (c.in_ok-placed.ensures c.requires.0 c.requires.1)
    (subst (λ l. Has l n) (c.as_slice-3.ensures.value ∙ (c.in_ok-outs.ensures ∙ ap outs_of c.as_slice.ensures.value)) has)
