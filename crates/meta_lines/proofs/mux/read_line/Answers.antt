use Rattle.std.proofs.Common.{map, inl, inr, refl, sym, ap, ◌∙◌, subst}
use Rattle.std.specs.List.{All}
use Rattle.meta_lines.specs.Features.{HasOwnForm, AreNamed, form_of}
use Rattle.meta_lines.proofs.Keys.{any_has, none_has}
use Rattle.meta_lines.proofs.Listing.{some_says, none_says, untrue}
use Rattle.meta_parts.specs.Seen.{seen}
use Rattle.meta_lines.proofs.Pinned.{own_parts, no_right, pushed_forms, gives_pin}
use Rattle.meta_lines.proofs.mux.read_line.Goals as goal

pub returns-in_default-clause-refused : goal.returns-in_default-clause-refused
returns-in_default-clause-refused c = inr (λ before same. (refl, inl (λ left fs form. c.in_default.ensures left form.right form.sides)))

pub returns-in_default-2-clause-refused : goal.returns-in_default-2-clause-refused
returns-in_default-2-clause-refused c =
    inr (λ before same. (
      refl,
      inl (no_right c.one_form.ensures.sides c.args.line.now.text.now c.in-Some.left.now c.in-Some.right.now c.in-Some.ensures
          (none_says c.in_ok-forms.field-0 _ _ c.in_default-2.is c.in_ok-forms.ensures)),
    ))

pub returns-then-contains-clause-refused : goal.returns-then-contains-clause-refused
returns-then-contains-clause-refused c =
    let pin = c.in-Some-3.pin in
    inr (λ before same. (
      refl,
      inr (record {
        left = c.in-Some.left.now;
        features = map form_of c.in-Some-2.forms.items;
        pin = pin;
        form = record { right = c.in-Some.right.now; sides = c.in-Some.ensures; parts = some_says c.in_ok-forms.field-0 c.in-Some-2.forms _ _ c.in-Some-2.is c.in_ok-forms.ensures };
        names = some_says c.in_ok-pin.field-0 pin _ _ c.in-Some-3.is c.in_ok-pin.ensures;
        again = (same pin).0 (any_has c.args.pins.now.keys pin (sym c.contains.ensures ∙ c.if-contains.true));
      }),
    ))

pub returns-then-not-are_named-clause-refused : goal.returns-then-not-are_named-clause-refused
returns-then-not-are_named-clause-refused c =
    let pin = c.in-Some-3.pin in
    let forms = c.in-Some-2.forms in
    inr (λ before same. (
      refl,
      record {
        left = c.in-Some.left.now;
        features = map form_of forms.items;
        pin = pin;
        form = record { right = c.in-Some.right.now; sides = c.in-Some.ensures; parts = some_says c.in_ok-forms.field-0 forms _ _ c.in-Some-2.is c.in_ok-forms.ensures };
        names = some_says c.in_ok-pin.field-0 pin _ _ c.in-Some-3.is c.in_ok-pin.ensures;
        new = λ has. none_has c.args.pins.now.keys pin (sym c.contains.ensures ∙ c.if-contains.false) ((same pin).1 has);
        misnamed = λ named. untrue _ c.if-not-are_named.true (c.are_named.ensures.1 (subst (λ l. AreNamed (map form_of l)) (sym c.as_slice.ensures.value) named));
      },
    ))

pub push_features-requires-clause-forms : goal.push_features-requires-clause-forms
push_features-requires-clause-forms c =
    let forms = c.in-Some-2.forms in
    subst (λ l. All HasOwnForm (map form_of l)) (sym c.as_slice-2.ensures.value)
    (own_parts c.in-Some.right.now (map form_of forms.items) (some_says c.in_ok-forms.field-0 forms _ _ c.in-Some-2.is c.in_ok-forms.ensures))

pub returns-clause-ok : goal.returns-clause-ok
returns-clause-ok c =
    let pin = c.in-Some-3.pin in
    let forms = c.in-Some-2.forms in
    let block = c.args.names.now.block in
    let are = pushed_forms c.from_vec.result c.push_features.new.features.items c.new-features.result.items c.as_slice-2.result.now forms.items c.from_vec.ensures c.in_ok-push_features.ensures
    c.new-features.ensures.items c.as_slice-2.ensures.value in
    let named = subst (λ l. AreNamed (map form_of l)) c.as_slice.ensures.value (c.are_named.ensures.0 c.if-not-are_named.false) in
    λ before same. gives_pin block c.args.names.now.mode c.args.inter.now before (seen c.args.line.now) c.in-Some.left.now c.in-Some.right.now pin c.from_vec.result (map form_of forms.items) are
    c.in-Some.ensures (some_says c.in_ok-forms.field-0 forms _ _ c.in-Some-2.is c.in_ok-forms.ensures) (some_says c.in_ok-pin.field-0 pin _ _ c.in-Some-3.is c.in_ok-pin.ensures)
    (λ has. none_has c.args.pins.now.keys pin (sym c.contains.ensures ∙ c.if-contains.false) ((same pin).1 has)) named
