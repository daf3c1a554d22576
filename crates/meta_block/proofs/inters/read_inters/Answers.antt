use Rattle.std.proofs.Common.{map, ap, ◌∙◌}
use Rattle.std.proofs.lemmas.Result.{err_from_is_err_and}
use Rattle.meta_block.proofs.Walking.{inters_added, inters_stop, inters_all}
use Rattle.meta_block.proofs.inters.read_inters.Goals as goal

pub returns-in_err-add_inter-clause-refused : goal.returns-in_err-add_inter-clause-refused
returns-in_err-add_inter-clause-refused c =
    let p = err_from_is_err_and c.from_residual-in_err-add_inter.result c.from_residual-in_err-add_inter.ensures.1 in
    rw (p.1, p.2) (inters_stop (map (λ n. n.now) c.args.way.now.items) (map (λ n. n.now) c.loop-inter.way.items) c.args.ports.now c.in_ok-names.names.block c.args.mode.now c.in_ok-names.names.mode
    (ap (map (λ n. n.now)) c.loop-inter.invariant.way) c.in_ok-names.ensures.block c.in_ok-names.ensures.mode c.as_slice-inter-items.result.now c.as_slice-inter-items.ensures c.loop-inter.inter-index
    c.inter-item.result c.args.said.now.items c.loop-inter.said.items c.in_err-add_inter.field-0.0 c.loop-inter-test.true c.inter-item.is c.loop-inter.invariant.said c.in_err-add_inter.ensures.refused)

pub loop-inter-preserved : goal.loop-inter-preserved
loop-inter-preserved c = record {
  way = c.in_ok-add_inter.ensures.way ∙ c.loop-inter.invariant.way;
  said = inters_added (map (λ n. n.now) c.args.way.now.items) (map (λ n. n.now) c.loop-inter.way.items) c.args.ports.now c.in_ok-names.names.block c.args.mode.now c.in_ok-names.names.mode
      (ap (map (λ n. n.now)) c.loop-inter.invariant.way) c.in_ok-names.ensures.block c.in_ok-names.ensures.mode c.as_slice-inter-items.result.now c.loop-inter.inter-index
      c.inter-item.result c.args.said.now.items c.loop-inter.said.items c.add_inter.new.said.items c.loop-inter-test.true c.inter-item.is c.loop-inter.invariant.said c.in_ok-add_inter.ensures.ok;
}

pub returns-clause-ok : goal.returns-clause-ok
returns-clause-ok c =
    inters_all (map (λ n. n.now) c.args.way.now.items) c.args.ports.now c.args.mode.now c.as_slice-inter-items.result.now c.as_slice-inter-items.ensures c.loop-inter.inter-index c.args.said.now.items
    c.loop-inter.said.items c.loop-inter-test.false c.loop-inter.invariant.said
