use Rattle.std.proofs.Common.{◌≡◌, ◌<◌, ℕ, Some, map}
use Rattle.std.specs.Prelude.{slice_get}
use Rattle.run_words.specs.declared.shape.WordKind.TheVariants.{Output}
use Rattle.run_words.proofs.fits.is_new_output.Given as goal

abbrev pub invariant-loop-place : goal.invariant-loop-place
invariant-loop-place l = (k : ℕ) → k < l.place → slice_get l.kinds k ≡ Some Output → slice_get (map (λ w. w.now) l.plain) k ≡ Some l.word → ⊥
