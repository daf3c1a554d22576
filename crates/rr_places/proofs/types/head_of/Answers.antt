use Rattle.std.proofs.Common.{inl, subst, codes}
use Rattle.rr_places.specs.Types.{IsKnown}
use Rattle.rr_places.proofs.TileReading.{one_number}
use Rattle.rr_places.proofs.types.head_of.Goals as goal

pub returns-in_default : goal.returns-in_default
returns-in_default c = inl (λ id says. absurd (c.in_default.ensures id says))

pub returns-in-Some-find : goal.returns-in-Some-find
returns-in-Some-find c = inl (λ id says.
    subst (IsKnown c.args.by_id.now.entries) (one_number c.args.elem.now (codes "id") 2147483647 c.in-Some.id id c.in-Some.ensures says)
    (c.in-Some-find.field-0.now, c.in-Some-find.ensures))

pub returns : goal.returns
returns c = record {
  number = c.in-Some.ensures;
  fresh = λ known. c.in_default-find.ensures known.0 known.1;
  named = c.in-Some-attribute.ensures;
}
