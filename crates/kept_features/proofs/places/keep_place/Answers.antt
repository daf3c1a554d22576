use Rattle.std.proofs.Common.{◌++◌, ◌∷◌, [], ℕ, List, refl, sym, ap, ◌∙◌, subst}
use Rattle.kept_features.specs.Keys.{AreKeys}
use Rattle.kept_features.specs.Places.{AddsAt}
use Rattle.kept_features.proofs.Keeping.{key_of, any_key, no_key, inserted, at_name, not_at_name, keys_still, keys_more}
use Rattle.kept_features.proofs.Placing.{still_at, more_at}
use Rattle.kept_features.proofs.places.keep_place.Goals as goal

pub returns-then-contains-clause-keys : goal.returns-then-contains-clause-keys
returns-then-contains-clause-keys c = λ before are.
    let f = c.args.feature.now in
    let had = at_name c.args.keys.now.keys f c.as_bytes.result.now c.as_bytes.ensures (any_key c.args.keys.now.keys (key_of c.as_bytes.result f.bit) (sym c.contains.ensures ∙ c.if-contains.true)) in
    keys_still before c.args.keys.now.keys f had are

pub returns-then-contains-clause-places : goal.returns-then-contains-clause-places
returns-then-contains-clause-places c = λ before all are.
    let f = c.args.feature.now in
    let had = at_name c.args.keys.now.keys f c.as_bytes.result.now c.as_bytes.ensures (any_key c.args.keys.now.keys (key_of c.as_bytes.result f.bit) (sym c.contains.ensures ∙ c.if-contains.true)) in
    still_at all before c.args.keys.now.keys f c.args.place c.args.places.now.items had are

pub returns-clause-keys : goal.returns-clause-keys
returns-clause-keys c = λ before are.
    let f = c.args.feature.now in
    let none = sym c.contains.ensures ∙ c.if-contains.false in
    subst (AreKeys (before ++ f ∷ [])) (sym (c.in_ok-insert.ensures.keys ∙ inserted c.args.keys.now.keys _ none)) (keys_more before c.args.keys.now.keys f _ c.as_bytes.ensures refl are)

pub returns-clause-places : goal.returns-clause-places
returns-clause-places c = λ before all are.
    let f = c.args.feature.now in
    let none = sym c.contains.ensures ∙ c.if-contains.false in
    let new = not_at_name c.args.keys.now.keys f c.as_bytes.result.now c.as_bytes.ensures (no_key c.args.keys.now.keys (key_of c.as_bytes.result f.bit) none) in
    subst (λ (l : List ℕ). AddsAt all before f c.args.place c.args.places.now.items l) (sym (c.in_ok-push.ensures.items ∙ ap (λ (n : ℕ). c.args.places.now.items ++ n ∷ []) c.in_ok-place_number.ensures))
    (more_at all before c.args.keys.now.keys f c.args.place c.args.places.now.items new are)
