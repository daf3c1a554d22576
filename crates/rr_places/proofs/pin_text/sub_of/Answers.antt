use Rattle.std.proofs.Common.{sym, subst, inl, inr}
use Rattle.rr_places.specs.PinTexts.{IsIndex, IsOwner, NamesSub}
use Rattle.rr_places.proofs.Cutting.{no_cut, same_cut, answers_both}
use Rattle.rr_places.proofs.pin_text.sub_of.Goals as goal

pub returns-else-is_owner : goal.returns-else-is_owner
returns-else-is_owner c = λ sub h. elim h [
  | inl alone ↦ c.if-is_owner.ensures alone.owner
  | inr at ↦ no_cut 91 _ _ _ c.in_default.ensures at.cut
]

pub returns-then-not-is_owner : goal.returns-then-not-is_owner
returns-then-not-is_owner c = λ sub h. elim h [
  | inl alone ↦ no_cut 91 _ _ _ alone.lacks c.in-Some.ensures
  | inr at ↦ c.if-not-is_owner.ensures (subst (IsOwner c.args.tile.now) (sym (same_cut 91 _ _ _ _ _ c.in-Some.ensures at.cut).0) at.owner)
]

pub returns : goal.returns
returns c =
    answers_both c.index_below.result (IsIndex c.in-Some.index.now c.args.tile.now.capacity) (NamesSub c.args.tile.now c.args.text.now)
    (λ sub says. inr (record { name = c.in-Some.name.now; index = c.in-Some.index.now; cut = c.in-Some.ensures; owner = c.if-not-is_owner.ensures; instance = says }))
    (λ sub h. elim h [
      | inl alone ↦ absurd (no_cut 91 _ _ _ alone.lacks c.in-Some.ensures)
      | inr at ↦ subst (λ t. IsIndex t c.args.tile.now.capacity sub) (sym (same_cut 91 _ _ _ _ _ c.in-Some.ensures at.cut).1) at.instance
    ])
    c.index_below.ensures
