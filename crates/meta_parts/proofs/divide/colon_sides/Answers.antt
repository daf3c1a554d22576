use Rattle.std.proofs.Common.{◌≡◌, ◌⊎◌, inl, inr, Bool, ◌∷◌, [], ℕ, true, get_or, sym, subst, take}
use Rattle.std.proofs.lemmas.List.{take_more}
use Rattle.meta_parts.proofs.Siding.{IsPassed, passed_none, passed_more}
use Rattle.meta_parts.proofs.divide.colon_sides.Goals as goal

pub loop-at-init : goal.loop-at-init
loop-at-init c = passed_none

colon_inside : (b : ℕ) (inside : Bool) → ((b ≡ 58) × (inside ≡ true)) ⊎ (b ≡ 58 → ⊥) → b ≡ 58 → inside ≡ true
colon_inside b inside (inl both) is = both.1
colon_inside b inside (inr other) is = absurd (other is)

pub loop-at-preserved : goal.loop-at-preserved
loop-at-preserved c =
    let line = c.args.line.now in
    let at = c.loop-at.at in
    subst (λ l. IsPassed l c.is_inside_behind-inside.result) (sym (take_more line at 0 c.loop-at-test.true))
    (passed_more (take at line) c.loop-at.inside c.is_inside_behind-inside.result (get_or line at 0) c.loop-at.invariant
    (colon_inside (get_or line at 0) c.loop-at.inside c.else-b-eq58.either) c.is_inside_behind-inside.ensures)
