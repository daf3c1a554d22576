use Rattle.std.proofs.Common.{◌+◌, take, sym, subst}
use Rattle.loc_prefixes.specs.declared.holders.Holders.{Holders}
use Rattle.loc_prefixes.specs.Holders.{AreHolders}
use Rattle.loc_prefixes.proofs.Holding.{takes_more, leaves_more}
use Rattle.loc_prefixes.proofs.holders.holders_of.Goals as goal
use Rattle.loc_prefixes.proofs.holders.holders_of.Goals.{then-takes_over+in_ok-add, else-takes_over}

pub loop-place-preserved : goal.loop-place-preserved
loop-place-preserved c =
    let singles = c.args.singles.now in
    let n = c.loop-place.place in
    elim c.if-takes_over.branch [
      | then-takes_over+in_ok-add w ↦
          subst (λ (h : Holders). AreHolders (take (n + 1) singles) h) (sym w.holders-is)
          (takes_more singles n c.index-singles-place.result c.loop-place.holders w.add.new.self c.loop-place-test.true c.index-singles-place.is c.loop-place.invariant
          (c.takes_over.ensures.over w.if-takes_over.true) w.in_ok-add.ensures)
      | else-takes_over w ↦
          subst (λ (h : Holders). AreHolders (take (n + 1) singles) h) (sym w.holders-is)
          (leaves_more singles n c.index-singles-place.result c.loop-place.holders c.loop-place-test.true c.index-singles-place.is c.loop-place.invariant
          (c.takes_over.ensures.yields w.if-takes_over.false))
    ]
