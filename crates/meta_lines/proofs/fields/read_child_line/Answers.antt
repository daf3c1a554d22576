use Rattle.std.proofs.Common.{inr, refl, subst}
use Rattle.meta_lines.specs.Fields.{field_said}
use Rattle.meta_lines.proofs.Fielded.{no_child_left, no_child_right}
use Rattle.meta_lines.proofs.Listing.{some_says, none_says, untrue}
use Rattle.meta_lines.proofs.fields.read_child_line.Goals as goal

pub returns-in_default-2-clause-refused : goal.returns-in_default-2-clause-refused
returns-in_default-2-clause-refused c =
    inr (λ before. (refl, no_child_left c.one_form.ensures.sides _ c.in-Some.left.now c.in-Some.right.now c.in-Some.ensures (none_says c.in_ok-form.field-0 _ _ c.in_default-2.is c.in_ok-form.ensures)))

pub returns-in_default-3-clause-refused : goal.returns-in_default-3-clause-refused
returns-in_default-3-clause-refused c =
    inr (λ before. (refl, no_child_right c.one_form.ensures.sides _ c.in-Some.left.now c.in-Some.right.now c.in-Some.ensures (none_says c.in_ok-child.field-0 _ _ c.in_default-3.is c.in_ok-child.ensures)))

pub returns-then-not-is_feature_name-clause-refused : goal.returns-then-not-is_feature_name-clause-refused
returns-then-not-is_feature_name-clause-refused c =
    let form = c.in-Some-2.form in
    let child = c.in-Some-3.child in
    inr (λ before. (
      refl,
      (
        record { line = c.args.line.now.number; field = field_said form; child = child.name; instance = child.instance },
        record {
          left = c.in-Some.left.now;
          right = c.in-Some.right.now;
          sides = c.in-Some.ensures;
          field = some_says c.in_ok-form.field-0 form _ _ c.in-Some-2.is c.in_ok-form.ensures;
          child = some_says c.in_ok-child.field-0 child _ _ c.in-Some-3.is c.in_ok-child.ensures;
          number = refl;
        },
        λ named. untrue _ c.if-not-is_feature_name.true (c.is_feature_name.ensures.1 named),
      ),
    ))
