use Rattle.std.proofs.Common.{◌++◌, ℕ, List, ap, ◌∙◌, subst}
use Rattle.std.specs.Prelude.{◌↔◌}
use Rattle.std.proofs.lemmas.List.Filters.{dedup_is}
use Rattle.std.proofs.lemmas.Map.Keys.{IsStrictlyIncreasing-dedup}
use Rattle.vtr_base.specs.Lists.{Has}
use Rattle.prog_map.proofs.BusyModes.{sorted_same}
use Rattle.prog_map.proofs.busy.ascending.Goals as goal

pub returns-clause-rises : goal.returns-clause-rises
returns-clause-rises c =
    let is = dedup_is _ _ _ c.dedup.ensures.filtered in
    rw is (IsStrictlyIncreasing-dedup _ c.sort_unstable.ensures.sorted)

pub returns-clause-each : goal.returns-clause-each
returns-clause-each c n =
    let is = dedup_is _ _ _ c.dedup.ensures.filtered in
    let all = c.in_ok-extend_from_slice.ensures.items ∙ ap (λ l. l ++ c.args.numbers.now) c.new-sorted.ensures.items in
    subst (λ (l : List ℕ). Has c.dedup.new.self.items n ↔ Has l n) all (sorted_same _ _ _ c.sort_unstable.ensures.permutation is n)
