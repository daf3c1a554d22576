use Rattle.std.proofs.Common.{◌++◌, ◌∷◌, [], ◌∙◌, ap, ℕ}
use Rattle.fasm_text.specs.Fields.{IsRange, IsBracketed}
use Rattle.fasm_text.proofs.Cuts.{in_other_words}
use Rattle.fasm_text.proofs.Fielding.{not_bracketed, is_bracketed}
use Rattle.fasm_text.proofs.field.bracketed.Goals as goal

pub returns : goal.returns
returns c =
    let inside = c.in_ok-last.inside.now in
    let is = c.in_ok-last.ensures.cases.0 in
    in_other_words c.read_range.result ((lo hi : ℕ) → IsRange inside lo hi → ⊥) ((lo hi : ℕ) → IsBracketed c.args.behind.now lo hi → ⊥)
    (λ r. IsRange inside r.lo r.hi) (λ r. IsBracketed c.args.behind.now r.lo r.hi)
    (not_bracketed c.args.behind.now inside (is ∙ ap (λ b. inside ++ b ∷ []) c.if-last-ne93.false))
    (λ r h. is_bracketed c.args.behind.now inside c.in_ok-last.last.now is c.if-last-ne93.false r.lo r.hi h) c.read_range.ensures
