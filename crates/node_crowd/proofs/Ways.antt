-- Ways past listed pins, and the walk over what is reached.
use Rattle.std.proofs.Common.{◌≡◌, ◌<◌, ◌≤◌, ◌+◌, inl, inr, ℕ, zero, suc, List, [], Some, length, slice_get, refl, sym, ap, ◌∙◌, subst, arith}
use Rattle.std.proofs.lemmas.Option.{slice_get_within}
use Rattle.std.proofs.lemmas.Bool.{cases_lt}
use Rattle.vtr_base.specs.Lists.{Has, up_from}
use Rattle.list_laws.specs.Orders.{Once}
use Rattle.list_laws.proofs.Members.{has_at, at_has, has_left, has_either, has_up}
use Rattle.list_laws.proofs.Places.{get_front, element}
use Rattle.list_laws.proofs.Counting.{no_longer}
use Rattle.pb_expand.specs.declared.number.PinIx.{PinIx}
use Rattle.pb_expand.specs.Graph.{Graph, pin_ix}
use Rattle.pb_expand.specs.Expansion.{IsExpansion}
use Rattle.task_types.specs.declared.task.Task.{Task}
use Rattle.task_types.specs.declared.task.Need.{Need}
use Rattle.task_types.specs.declared.task.Need.TheVariants as need
use Rattle.task_types.specs.declared.decision.Decision.{Decision}
use Rattle.task_types.specs.Nets.{NetSaid}
use Rattle.task_types.specs.Open.{AllowsStep, MayEnd, MayStart}
use Rattle.task_types.specs.Nodes.{IsFreeWay}
use Rattle.task_reach.specs.Gains.{Gains}
use Rattle.task_reach.specs.Valid.{IsNeedOf}
use Rattle.node_crowd.specs.Blocking.{IsWayPast, IsBlocked, IsReached, IsDone, IsWalk}

some_same : {X : Type 0} {x y : X} → Some x ≡ Some y → x ≡ y
some_same e = cc

pub end_inside : (g : Graph) (n : NetSaid) (t : Task) (made : List Decision) (need : Need) (p : ℕ) → IsNeedOf g t need → MayEnd g n t made need p → p < length g.pins
end_inside g n t made (need.Input atom conn net) p of end = slice_get_within g.pins p end.2.at.on.at end.2.at.on.is
end_inside g n t made (need.LutNet atom net) p of end = slice_get_within g.pins p _ end.2.is
end_inside g n t made (need.Leave net) p of end = slice_get_within g.pins p end.at end.is
end_inside g n t made (need.LeaveAt net pin) p of end = subst (λ k. k < length g.pins) (sym end) of.1

step_inside : (g : Graph) (made : List Decision) (p q : ℕ) → IsExpansion g → AllowsStep g made p q → q < length g.pins
step_inside g made p q law (inl edge) =
    let of = law.has_edges.each edge.edge (has_at g.edges edge.number edge.edge edge.is) in
    subst (λ k. k < length g.pins) edge.starts (slice_get_within g.pins edge.edge.src.0 _ of.is_src.is_pin)
step_inside g made p q law (inr pass) = slice_get_within g.pins q _ pass.leads

-- one step more behind a way
pub way_more : (g : Graph) (made : List Decision) (listed : List ℕ) (steps p y x : ℕ) → IsWayPast g made listed steps p y → AllowsStep g made y x → (Has listed x → ⊥) → IsWayPast g made listed (suc steps) p x
way_more g made listed zero p y x way step free = (way.0, (x, subst (λ k. AllowsStep g made k x) (sym way.1) step, (free, refl)))
way_more g made listed (suc steps) p y x way step free = (way.0, (way.1.0, way.1.1, way_more g made listed steps way.1.0 y x way.1.2 step free))

-- the last pin of a way isn't listed
way_end : (g : Graph) (made : List Decision) (listed : List ℕ) (steps p q : ℕ) → IsWayPast g made listed steps p q → Has listed q → ⊥
way_end g made listed zero p q way has = way.0 (subst (λ k. Has listed k) (sym way.1) has)
way_end g made listed (suc steps) p q way has = way_end g made listed steps way.1.0 q way.1.2 has

-- the two words for ways, where the list by number has those pins of the other that the graph has
module _ (g : Graph) (made : List Decision) (pins : List PinIx) (listed : List ℕ) (gains : Gains [] listed (λ pin. (pin < length g.pins) × Has pins (pin_ix pin))) where
  listed_of : (p : ℕ) → Has listed p → Has pins (pin_ix p)
  listed_of p has = (gains.each p (subst (λ l. Has l p) gains.is has)).1

  pub way_of_free : (steps p q : ℕ) → IsFreeWay g made pins steps p q → IsWayPast g made listed steps p q
  way_of_free zero p q way = ((λ has. way.0 (listed_of p has)), way.1)
  way_of_free (suc steps) p q way = ((λ has. way.0 (listed_of p has)), (way.1.0, way.1.1, way_of_free steps way.1.0 q way.1.2))

  pub free_of_way : (steps p q : ℕ) → IsExpansion g → p < length g.pins → IsWayPast g made listed steps p q → IsFreeWay g made pins steps p q
  free_of_way zero p q law inside way = ((λ has. way.0 (gains.all p (inside, has))), way.1)
  free_of_way (suc steps) p q law inside way =
      ((λ has. way.0 (gains.all p (inside, has))), (way.1.0, way.1.1, free_of_way steps way.1.0 q law (step_inside g made p way.1.0 law way.1.1) way.1.2))

-- the walk

module _ (g : Graph) (n : NetSaid) (t : Task) (made : List Decision) (need : Need) (listed : List ℕ) where
  pub walk_begins : (xs : List ℕ) → Gains [] xs (MayEnd g n t made need) → IsWalk g n t made need listed xs 0
  walk_begins xs gains = record {
    from = λ x has. inl (gains.each x (subst (λ l. Has l x) gains.is has));
    ends = λ x end. gains.all x end;
    done = λ k x less is. absurd (omega (arith, less));
  }

  more_done : (xs ys : List ℕ) (x : ℕ) → ((y : ℕ) → Has xs y → Has ys y) → IsDone g n t made need listed xs x → IsDone g n t made need listed ys x
  more_done xs ys x up (inl has) = inl has
  more_done xs ys x up (inr done) = inr (done.0, λ y step. up y (done.1 y step))

  -- a listed pin is passed over
  pub walk_past : (xs : List ℕ) (at x : ℕ) → slice_get xs at ≡ Some x → Has listed x → IsWalk g n t made need listed xs at → IsWalk g n t made need listed xs (at + 1)
  walk_past xs at x is has walk = record {
    from = walk.from;
    ends = walk.ends;
    done = λ k y less found. elim (cases_lt k at) [
      | inl before ↦ walk.done k y before found
      | inr met ↦ (
          let same : k ≡ at = omega (arith, met, less) in
          let both : Some y ≡ Some x = sym found ∙ ap (λ i. slice_get xs i) same ∙ is in
          let pins : x ≡ y = sym (some_same both) in
          inl (subst (λ p. Has listed p) pins has))
    ];
  }

  reached_free : (x : ℕ) → IsReached g n t made need listed x → (Has listed x → ⊥) → (steps : ℕ) × (p : ℕ) × MayEnd g n t made need p × IsWayPast g made listed steps p x
  reached_free x (inl end) free = (0, x, end, (free, refl))
  reached_free x (inr from) free = (suc from.0, from.1, from.3, way_more g made listed from.0 from.1 from.2 x from.4 from.5 free)

  -- from a pin that isn't listed the walk goes on
  pub walk_on : (xs ys : List ℕ) (at x : ℕ) → slice_get xs at ≡ Some x → (Has listed x → ⊥) → (MayStart g n t made need x → ⊥) → Gains xs ys (AllowsStep g made x) → IsWalk g n t made need listed xs at → IsWalk g n t made need listed ys (at + 1)
  walk_on xs ys at x is free none gains walk = record {
    from = λ y has. elim (has_either xs gains.more y (subst (λ l. Has l y) gains.is has)) [
      | inl old ↦ walk.from y old
      | inr new ↦ (let way = reached_free x (walk.from x (has_at xs at x is)) free in inr (way.0, way.1, x, way.2, way.3, gains.each y new))
    ];
    ends = λ y end. up y (walk.ends y end);
    done = λ k y less found. elim (cases_lt k at) [
      | inl before ↦ (
          let inside = slice_get_within xs at x is in
          let old = element xs k (omega (arith, before, inside)) in
          let same : old.0 ≡ y = some_same (sym (get_front xs gains.more k old.0 old.1) ∙ ap (λ l. slice_get l k) (sym gains.is) ∙ found) in
          more_done xs ys y up (walk.done k y before (old.1 ∙ ap (λ z. Some z) same)))
      | inr met ↦ (
          let same : k ≡ at = omega (arith, met, less) in
          let both : Some x ≡ Some y = sym (get_front xs gains.more at x is) ∙ ap (λ l. slice_get l at) (sym gains.is) ∙ ap (λ i. slice_get ys i) (sym same) ∙ found in
          let pins : x ≡ y = some_same both in
          inr (subst (λ p. MayStart g n t made need p → ⊥) pins none, λ z step. gains.all z (subst (λ p. AllowsStep g made p z) (sym pins) step)))
    ];
  }
    where
      up : (y : ℕ) → Has xs y → Has ys y
      up y has = subst (λ l. Has l y) (sym gains.is) (has_left xs gains.more y has)

  -- a source that is reached past the listed pins
  pub not_blocked : (xs : List ℕ) (at x : ℕ) → slice_get xs at ≡ Some x → (Has listed x → ⊥) → MayStart g n t made need x → IsWalk g n t made need listed xs at → IsBlocked g n t made need listed → ⊥
  not_blocked xs at x is free start walk blocked =
      let way = reached_free x (walk.from x (has_at xs at x is)) free in
      blocked.each way.0 way.1 x way.2 start way.3

  -- all that is reached is done with
  pub blocked_by : (xs : List ℕ) (at : ℕ) → length xs ≤ at → IsWalk g n t made need listed xs at → IsBlocked g n t made need listed
  blocked_by xs at all walk = record { each = λ steps p q end start way. along steps p q (walk.ends p end) way start }
    where
      along : (steps p q : ℕ) → Has xs p → IsWayPast g made listed steps p q → MayStart g n t made need q → ⊥
      along zero p q has way start =
          let k = at_has xs p has in
          let less = slice_get_within xs k.0 p k.1 in
          elim (walk.done k.0 p (omega (arith, less, all)) k.1) [
            | inl listed ↦ way.0 listed
            | inr done ↦ done.0 (subst (λ x. MayStart g n t made need x) (sym way.1) start)
          ]
      along (suc steps) p q has way start =
          let k = at_has xs p has in
          let less = slice_get_within xs k.0 p k.1 in
          elim (walk.done k.0 p (omega (arith, less, all)) k.1) [
            | inl listed ↦ way.0 listed
            | inr done ↦ along steps way.1.0 q (done.1 way.1.0 way.1.1) way.1.2 start
          ]

-- no more pins are reached than there are
up_long : (n k : ℕ) → length (up_from n k) ≡ k
up_long n zero = refl
up_long n (suc k) = ap suc (up_long (n + 1) k)

pub no_more_pins : (xs : List ℕ) (room : ℕ) → Once xs → ((x : ℕ) → Has xs x → x < room) → length xs ≤ room
no_more_pins xs room once inside = let few = no_longer xs (up_from 0 room) once (λ x has. has_up 0 room x (omega arith) (let less = inside x has in omega (arith, less))) in omega (arith, few, up_long 0 room)
