use Rattle.meta_lines.specs.Muxes.{IsPart}
use Rattle.meta_lines.proofs.Formed.{unparted, form_more}
use Rattle.meta_lines.proofs.Listing.{some_says, none_says}
use Rattle.meta_lines.proofs.forms.part_forms.Goals as goal

pub returns-in_default : goal.returns-in_default
returns-in_default c =
    unparted c.args.parts.now c.loop-part.part-index _ c.loop-part-test.true (none_says c.in_ok-form.field-0 _ _ c.in_default.is c.in_ok-form.ensures)

pub loop-part-preserved : goal.loop-part-preserved
loop-part-preserved c =
    form_more IsPart c.args.parts.now c.loop-part.part-index _ c.loop-part.forms.items _ c.in-Some.form c.loop-part-test.true c.loop-part.invariant
    (some_says c.in_ok-form.field-0 c.in-Some.form _ _ c.in-Some.is c.in_ok-form.ensures) c.in_ok-push.ensures.items
