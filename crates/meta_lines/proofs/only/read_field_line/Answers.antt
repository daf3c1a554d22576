use Rattle.std.proofs.Common.{inr, refl}
use Rattle.meta_lines.specs.Fields.{field_said}
use Rattle.meta_lines.proofs.Listing.{some_says, none_says, untrue}
use Rattle.meta_lines.proofs.only.read_field_line.Goals as goal

pub returns-in_default-clause-refused : goal.returns-in_default-clause-refused
returns-in_default-clause-refused c = inr (refl, λ f is. none_says c.in_ok-form.field-0 _ _ c.in_default.is c.in_ok-form.ensures f.field is.form)

pub returns-then-not-is_feature_name-clause-refused : goal.returns-then-not-is_feature_name-clause-refused
returns-then-not-is_feature_name-clause-refused c =
    let form = c.in-Some.form in
    inr (
      refl,
      (
        record { line = c.args.line.now.number; field = field_said form },
        record { form = some_says c.in_ok-form.field-0 form _ _ c.in-Some.is c.in_ok-form.ensures; number = refl },
        λ named. untrue _ c.if-not-is_feature_name.true (c.is_feature_name.ensures.1 named),
      ),
    )
