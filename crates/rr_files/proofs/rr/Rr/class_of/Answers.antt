use Rattle.std.proofs.Common.{ℕ, MatchOption, subst}
use Rattle.rr_tables.specs.Layouts.{HasClassAt}
use Rattle.rr_files.specs.Parts.{GraphParts}
use Rattle.rr_files.proofs.Answering.{class_at}
use Rattle.rr_files.proofs.rr.Rr.class_of.Goals as goal

pub returns : goal.returns
returns c =
    let loc = c.loc-loc.result in
    class_at c.args.self.now c.args.number.0 c.args.port c.args.bit loc c.loc-loc.ensures c.class_of.result
    (subst (λ (g : GraphParts). MatchOption c.class_of.result ((class : ℕ) → HasClassAt g.layout loc c.args.port c.args.bit class → ⊥) (HasClassAt g.layout loc c.args.port c.args.bit))
    c.self.view_is c.class_of.ensures)
