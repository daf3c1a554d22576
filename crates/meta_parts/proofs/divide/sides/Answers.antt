use Rattle.std.proofs.Common.{inr, ℕ, List}
use Rattle.meta_parts.specs.Divisions.{IsColonCut, HasSides}
use Rattle.meta_parts.proofs.Cuts.{in_other_words}
use Rattle.meta_parts.proofs.Siding.{no_sides}
use Rattle.meta_parts.proofs.divide.sides.Goals as goal

pub returns-in-None : goal.returns-in-None
returns-in-None c =
    in_other_words c.colon_sides.result ((l r : List ℕ) → IsColonCut c.args.line.now l r → ⊥) ((l r : List ℕ) → HasSides c.args.line.now l r → ⊥)
    (λ s. IsColonCut c.args.line.now s.0.now s.1.now) (λ s. HasSides c.args.line.now s.0.now s.1.now)
    (no_sides c.args.line.now c.in-None.ensures) (λ s cut. inr (c.in-None.ensures, cut)) c.colon_sides.ensures
