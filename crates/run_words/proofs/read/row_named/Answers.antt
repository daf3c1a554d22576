use Rattle.std.proofs.Common.{◌≡◌, ℕ, List, arith, refl, sym, ap, ◌∙◌, Some, length, get_or}
use Rattle.run_words.specs.Commands.{names_of}
use Rattle.std.proofs.lemmas.List.{length-map}
use Rattle.std.proofs.lemmas.Option.{slice_get_within, slice_get-get_or, slice_get-map}
use Rattle.run_words.specs.declared.shape.Shape.{Shape}
use Rattle.run_words.proofs.First.{name_at, none_more}
use Rattle.run_words.proofs.read.row_named.Goals as goal

pub loop-row-preserved : goal.loop-row-preserved
loop-row-preserved c k low there =
    none_more (names_of c.args.table.now) (λ k y. y ≡ c.args.name.now → ⊥) c.loop-row.row _ (name_at (λ (s : Shape). s.name.now) c.args.table.now c.loop-row.row _ c.loop-row-test.true)
    (λ k y low at e. c.loop-row.invariant k low (at ∙ ap Some e))
    (λ e. let no = c.is_same.ensures.1 e in cc) k c.args.name.now low there refl

pub returns : goal.returns
returns c row there =
    c.loop-row.invariant row (omega (arith, slice_get_within (names_of c.args.table.now) row c.args.name.now there, length-map c.args.table.now (λ (s : Shape). s.name.now))) there
