use Rattle.std.proofs.Common.{◌++◌, ◌∷◌, [], map, refl, sym, ap, ◌∙◌, subst}
use Rattle.std.proofs.lemmas.List.{map-append}
use Rattle.kept_features.specs.Firsts.{KeepsFirsts}
use Rattle.kept_features.specs.Keys.{AreKeys}
use Rattle.kept_features.proofs.Keeping.{key_of, any_key, no_key, inserted, at_name, not_at_name, keys_still, keys_more, keeps_still, keeps_more}
use Rattle.kept_features.proofs.firsts.keep.Goals as goal

pub returns-then-contains-clause-keys : goal.returns-then-contains-clause-keys
returns-then-contains-clause-keys c = λ before are.
    let f = c.args.feature.now in
    let had = at_name c.args.keys.now.keys f c.as_bytes.result.now c.as_bytes.ensures (any_key c.args.keys.now.keys (key_of c.as_bytes.result f.bit) (sym c.contains.ensures ∙ c.if-contains.true)) in
    keys_still before c.args.keys.now.keys f had are

pub returns-then-contains-clause-kept : goal.returns-then-contains-clause-kept
returns-then-contains-clause-kept c = λ before are keeps.
    let f = c.args.feature.now in
    let had = at_name c.args.keys.now.keys f c.as_bytes.result.now c.as_bytes.ensures (any_key c.args.keys.now.keys (key_of c.as_bytes.result f.bit) (sym c.contains.ensures ∙ c.if-contains.true)) in
    keeps_still before (map (λ f. f.now) c.args.kept.now.items) c.args.keys.now.keys f had are keeps

pub returns-clause-keys : goal.returns-clause-keys
returns-clause-keys c = λ before are.
    let f = c.args.feature.now in
    let none = sym c.contains.ensures ∙ c.if-contains.false in
    subst (AreKeys (before ++ f ∷ [])) (sym (c.in_ok-insert.ensures.keys ∙ inserted c.args.keys.now.keys _ none)) (keys_more before c.args.keys.now.keys f _ c.as_bytes.ensures refl are)

pub returns-clause-kept : goal.returns-clause-kept
returns-clause-kept c = λ before are keeps.
    let f = c.args.feature.now in
    let none = sym c.contains.ensures ∙ c.if-contains.false in
    let new = not_at_name c.args.keys.now.keys f c.as_bytes.result.now c.as_bytes.ensures (no_key c.args.keys.now.keys (key_of c.as_bytes.result f.bit) none) in
    subst (KeepsFirsts (before ++ f ∷ [])) (sym (ap (map (λ f. f.now)) c.in_ok-push.ensures.items ∙ map-append (λ f. f.now) c.args.kept.now.items _))
    (keeps_more before (map (λ f. f.now) c.args.kept.now.items) c.args.keys.now.keys f new are keeps)
