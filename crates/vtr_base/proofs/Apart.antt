-- Bytes that are tested against one byte.
use Rattle.std.proofs.Common.{◌≡◌, ◌+◌, ◌<◌, ℕ, true, List, length, take, get_or, arith}
use Rattle.std.specs.Prelude.{◌==◌, not}
use Rattle.std.proofs.lemmas.Bool.Decides.{nat_tests}
use Rattle.std.proofs.lemmas.List.Elements.{All-more}
use Rattle.vtr_base.specs.Spans.{Lacks}

pub differs : (x b : ℕ) → (x ≡ b → ⊥) → not (x == b) ≡ true
differs x b apart = grind (arith, nat_tests)

pub lacks_more : (text : List ℕ) (b i : ℕ) → i < length text → Lacks (take i text) b → (get_or text i 0 ≡ b → ⊥) → Lacks (take (i + 1) text) b
lacks_more text b i inside before apart = All-more (λ x. not (x == b) ≡ true) text i 0 inside before (differs _ _ apart)
