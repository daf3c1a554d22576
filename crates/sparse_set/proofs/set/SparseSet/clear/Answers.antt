use Rattle.std.proofs.Common.{false, sym, subst, ◌∙◌, arith}
use Rattle.std.proofs.Math.ListN.{length-set}
use Rattle.vtr_base.specs.Lists.{Has}
use Rattle.list_laws.specs.Orders.{Once}
use Rattle.list_laws.proofs.Members.{has_last}
use Rattle.sparse_set.proofs.Marks.{past, once_front, marked_less}
use Rattle.sparse_set.proofs.set.SparseSet.clear.Goals as goal

pub index_mut-requires : goal.index_mut-requires
index_mut-requires c =
    let s = c.loop-number.self-inside in
    let kept = c.loop-number.invariant.0 in
    let less = past s.there.items c.in-Some.number ((kept.marked c.in-Some.number).1 (subst (λ xs. Has xs c.in-Some.number) (sym c.in-Some.ensures.items) (has_last c.pop.new.self.items c.in-Some.number))) in
    omega (arith, less, s.there.ok.0)

pub loop-number-preserved : goal.loop-number-preserved
loop-number-preserved c =
    let s = c.loop-number.self-inside in
    let kept = c.loop-number.invariant.0 in (
      record {
        marked = marked_less s.there.items s.items.items c.pop.new.self.items c.in-Some.number kept.marked kept.once c.in-Some.ensures.items;
        once = (once_front c.pop.new.self.items c.in-Some.number (subst (λ xs. Once xs) c.in-Some.ensures.items kept.once)).0;
        capacity = omega (arith, kept.capacity, c.in-Some.ensures.capacity, length-set s.there.items c.in-Some.number false);
      },
      length-set s.there.items c.in-Some.number false ∙ c.loop-number.invariant.1,
    )
