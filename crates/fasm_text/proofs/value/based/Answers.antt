use Rattle.std.proofs.Common.{List, Bool, ◌∷◌, sym, subst}
use Rattle.fasm_text.specs.Values.{IsBased, bits_of}
use Rattle.fasm_text.proofs.Cuts.{in_other_words}
use Rattle.fasm_text.proofs.value.based.Goals as goal

pub returns : goal.returns
returns c =
    let behind = c.in_ok-letter.letter.now ∷ c.in_ok-letter.digits.now in
    let is = c.in_ok-letter.ensures.cases.0 in
    in_other_words c.of_letter.result ((bits : List Bool) → IsBased behind bits → ⊥) ((bits : List Bool) → IsBased c.args.behind.now bits → ⊥)
    (λ v. IsBased behind (bits_of v)) (λ v. IsBased c.args.behind.now (bits_of v))
    (λ none bits b. none bits (subst (λ t. IsBased t bits) is b)) (λ v h. subst (λ t. IsBased t (bits_of v)) (sym is) h) c.of_letter.ensures
