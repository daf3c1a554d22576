use Rattle.std.proofs.Common.{inr, List, Bool}
use Rattle.fasm_text.specs.Values.{IsBased, IsValue, bits_of}
use Rattle.fasm_text.proofs.Cuts.{untrue, in_other_words}
use Rattle.fasm_text.proofs.Valuing.{no_size, no_based}
use Rattle.fasm_text.proofs.value.read_value.Goals as goal

pub returns-then-not-is_size : goal.returns-then-not-is_size
returns-then-not-is_size c = no_size c.args.text.now c.in-Some.size.now c.in-Some.behind.now c.in-Some.ensures (λ size. untrue _ c.if-not-is_size.true (c.is_size.ensures.1 size))

pub returns : goal.returns
returns c =
    in_other_words c.based.result ((bits : List Bool) → IsBased c.in-Some.behind.now bits → ⊥) ((bits : List Bool) → IsValue c.args.text.now bits → ⊥)
    (λ v. IsBased c.in-Some.behind.now (bits_of v)) (λ v. IsValue c.args.text.now (bits_of v))
    (no_based c.args.text.now c.in-Some.size.now c.in-Some.behind.now c.in-Some.ensures)
    (λ v h. inr (c.in-Some.size.now, c.in-Some.behind.now, c.in-Some.ensures, c.is_size.ensures.0 c.if-not-is_size.false, h)) c.based.ensures
