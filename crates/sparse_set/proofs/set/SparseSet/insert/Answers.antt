use Rattle.std.proofs.Common.{◌≡◌, true, false, sym, subst, ◌∙◌, arith}
use Rattle.std.proofs.lemmas.Grind.{elements}
use Rattle.std.proofs.Math.ListN.{set, length-set, get_or}
use Rattle.list_laws.specs.Orders.{Once}
use Rattle.list_laws.proofs.Onces.{once_pushed}
use Rattle.sparse_set.proofs.Marks.{AreMarks, room_for, marked_more}
use Rattle.sparse_set.proofs.set.SparseSet.insert.Goals as goal

pub push_reserved-requires : goal.push_reserved-requires
push_reserved-requires c =
    let s = c.self.inside in
    let kept = c.self.invariant in
    let inside = rw (← c.self.view_is) at c.requires in
    let unmarked : get_or s.there.items c.args.number false ≡ false = grind (arith, elements) in
    let less = room_for s.there.items s.items.items c.args.number kept.marked kept.once unmarked inside in
    omega (arith, less, kept.capacity, s.items.ok.0)

pub invariant_of-self : goal.invariant_of-self
invariant_of-self c =
    let s = c.self.inside in
    let kept = c.self.invariant in
    let inside = rw (← c.self.view_is) at c.requires in
    let unmarked : get_or s.there.items c.args.number false ≡ false = grind (arith, elements) in
    record {
      marked = subst (λ xs. AreMarks (set s.there.items c.args.number true) xs) (sym c.push_reserved.ensures.items) (marked_more s.there.items s.items.items c.args.number kept.marked inside);
      once = subst (λ xs. Once xs) (sym c.push_reserved.ensures.items) (once_pushed s.items.items c.args.number kept.once (λ has. let bad : ⊥ = cc (sym unmarked ∙ (kept.marked c.args.number).1 has) in bad));
      capacity = omega (arith, kept.capacity, c.push_reserved.ensures.capacity, length-set s.there.items c.args.number true);
    }
