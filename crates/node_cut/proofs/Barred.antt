-- What bars a need is a cut, and the other way round.
use Rattle.std.proofs.Common.{◌≡◌, ◌<◌, ◌≤◌, ◌⊎◌, inl, inr, ℕ, List, [], ◌∷◌, ◌++◌, Some, length, slice_get, refl, sym, ap, ◌∙◌, subst, arith, length-append}
use Rattle.std.proofs.lemmas.Option.{slice_get_within}
use Rattle.vtr_base.specs.Lists.{Has}
use Rattle.list_laws.specs.Orders.{Once}
use Rattle.list_laws.proofs.Members.{has_at, at_has, has_right}
use Rattle.list_laws.proofs.Places.{get_front, element}
use Rattle.pb_expand.specs.declared.number.PinIx.{PinIx}
use Rattle.pb_expand.specs.Graph.{Graph, pin_ix}
use Rattle.pb_expand.specs.Expansion.{IsExpansion}
use Rattle.task_types.specs.declared.task.Task.{Task}
use Rattle.task_types.specs.declared.task.Need.{Need}
use Rattle.task_types.specs.declared.task.Need.TheVariants as need
use Rattle.task_types.specs.declared.decision.Decision.{Decision}
use Rattle.task_types.specs.Nets.{NetSaid}
use Rattle.task_types.specs.Open.{AllowsStep, MayEnd, MayStart, IsActiveNeed}
use Rattle.task_types.specs.Nodes.{IsCut}
use Rattle.task_reach.specs.Gains.{Gains, FromFirst, FromItem}
use Rattle.task_reach.specs.Valid.{IsNeedOf}
use Rattle.node_cut.specs.Barring.{Bars}
use Rattle.node_cut.proofs.Growing.{gains_both}

some_same : {X : Type 0} {x y : X} → Some x ≡ Some y → x ≡ y
some_same e = cc

-- the pins that a need speaks of are there

pub end_inside : (g : Graph) (n : NetSaid) (t : Task) (made : List Decision) (need : Need) (p : ℕ) → IsNeedOf g t need → MayEnd g n t made need p → p < length g.pins
end_inside g n t made (need.Input atom conn net) p of end = slice_get_within g.pins p end.2.at.on.at end.2.at.on.is
end_inside g n t made (need.LutNet atom net) p of end = slice_get_within g.pins p _ end.2.is
end_inside g n t made (need.Leave net) p of end = slice_get_within g.pins p end.at end.is
end_inside g n t made (need.LeaveAt net pin) p of end = subst (λ k. k < length g.pins) (sym end) of.1

pub start_inside : (g : Graph) (n : NetSaid) (t : Task) (made : List Decision) (need : Need) (p : ℕ) → MayStart g n t made need p → p < length g.pins
start_inside g n t made need p (inl first) = slice_get_within g.pins p first.made.at.on.at first.made.at.on.is
start_inside g n t made need p (inr enters) = slice_get_within g.pins p enters.1.root.at enters.1.root.is

pub step_inside : (g : Graph) (made : List Decision) (p q : ℕ) → IsExpansion g → AllowsStep g made p q → (p < length g.pins) × (q < length g.pins)
step_inside g made p q law (inl edge) =
    let of = law.has_edges.each edge.edge (has_at g.edges edge.number edge.edge edge.is) in (
      subst (λ k. k < length g.pins) edge.ends (slice_get_within g.pins edge.edge.dst.0 _ of.is_dst.is_pin),
      subst (λ k. k < length g.pins) edge.starts (slice_get_within g.pins edge.edge.src.0 _ of.is_src.is_pin),
    )
step_inside g made p q law (inr pass) = (slice_get_within g.pins p pass.at pass.is, slice_get_within g.pins q _ pass.leads)

-- a list that has not grown has all that was to be added

no_more : (xs more : List ℕ) → length (xs ++ more) ≡ length xs → more ≡ []
no_more xs [] same = refl
no_more xs (x ∷ more) same = absurd (omega (arith, same, length-append xs (x ∷ more)))

pub had : (xs ys : List ℕ) (P : ℕ → Type 0) → Gains xs ys P → length ys ≡ length xs → ys ≡ xs
had xs ys P gains same = let none = no_more xs gains.more (ap length (sym gains.is) ∙ same) in gains.is ∙ ap (λ l. xs ++ l) none ∙ nil xs
  where
    nil : (l : List ℕ) → l ++ [] ≡ l
    nil [] = refl
    nil (x ∷ l) = ap (λ r. x ∷ r) (nil l)

pub longer : (xs ys : List ℕ) (P : ℕ → Type 0) → Gains xs ys P → length xs ≤ length ys
longer xs ys P gains = omega (arith, ap length gains.is, length-append xs gains.more)

-- numbers that would be added are there already: the list stays as long
pub stays : (xs ys : List ℕ) (P : ℕ → Type 0) (gains : Gains xs ys P) → ((q : ℕ) → Has xs q → Has gains.more q → ⊥) → ((q : ℕ) → P q → Has xs q) → length ys ≡ length xs
stays xs ys P gains apart all = by gains.more gains.is apart gains.each
  where
    by : (more : List ℕ) → ys ≡ xs ++ more → ((q : ℕ) → Has xs q → Has more q → ⊥) → ((q : ℕ) → Has more q → P q) → length ys ≡ length xs
    by [] is apart each = omega (arith, ap length is, length-append xs [])
    by (x ∷ more) is apart each = absurd (apart x (all x (each x (inl refl))) (inl refl))

once_apart : (xs ys : List ℕ) → Once (xs ++ ys) → (q : ℕ) → Has xs q → Has ys q → ⊥
once_apart [] ys once q here there = here
once_apart (x ∷ xs) ys once q (inl is) there = once.0 (has_right xs ys x (subst (λ z. Has ys z) is there))
once_apart (x ∷ xs) ys once q (inr here) there = once_apart xs ys once.1 q here there

-- what stands in the front of a list
in_front : (xs more : List ℕ) (k q : ℕ) → k < length xs → slice_get (xs ++ more) k ≡ Some q → Has xs q
in_front xs more k q less is =
    let found = element xs k less in
    let same : found.0 ≡ q = some_same (sym (get_front xs more k found.0 found.1) ∙ is) in
    subst (λ z. Has xs z) same (has_at xs k found.0 found.1)

module _ (g : Graph) (n : NetSaid) (t : Task) (made : List Decision) (need : Need) (xs ys zs : List ℕ) (count : ℕ) (few : count ≡ length xs) (ends : Gains xs ys (MayEnd g n t made need))
    (steps : Gains ys zs (FromFirst (FromItem ys (AllowsStep g made)) count)) where
  both : Gains xs zs (λ q. MayEnd g n t made need q ⊎ FromFirst (FromItem ys (AllowsStep g made)) count q)
  both = gains_both xs ys (MayEnd g n t made need) (FromFirst (FromItem ys (AllowsStep g made)) count) zs ends steps

  pub bars_to : ((p : ℕ) → MayStart g n t made need p → Has xs p → ⊥) → length zs ≡ length xs → Bars g n t made need xs
  bars_to none same =
      let old : zs ≡ xs = had xs zs (λ q. MayEnd g n t made need q ⊎ FromFirst (FromItem ys (AllowsStep g made)) count q) both same in
      record {
        ends = λ p end. subst (λ l. Has l p) old (both.all p (inl end));
        closed = λ p q has step.
            let k = at_has xs p has in
            let less = slice_get_within xs k.0 p k.1 in
            let there : slice_get ys k.0 ≡ Some p = ap (λ l. slice_get l k.0) ends.is ∙ get_front xs ends.more k.0 p k.1 in
            subst (λ l. Has l q) old (both.all q (inr (record { place = k.0; before = omega (arith, less, few); from = record { item = p; is = there; from = step } })));
        sourceless = none;
      }

  pub bars_from : Once zs → Bars g n t made need xs → length zs ≡ length xs
  bars_from once bars =
      stays xs zs (λ q. MayEnd g n t made need q ⊎ FromFirst (FromItem ys (AllowsStep g made)) count q) both
      (once_apart xs both.more (subst (λ l. Once l) both.is once))
      (λ q is. elim is [
        | inl end ↦ bars.ends q end
        | inr from ↦ bars.closed from.from.item q
            (in_front xs ends.more from.place from.from.item (omega (arith, from.before, few)) (ap (λ l. slice_get l from.place) (sym ends.is) ∙ from.from.is)) from.from.from
      ])

-- the pins of a list, by number

module _ (g : Graph) (n : NetSaid) (t : Task) (made : List Decision) (number : ℕ) (need : Need) (pins : List PinIx) (ys : List ℕ) (law : IsExpansion g) (of : IsNeedOf g t need) (active : IsActiveNeed t made number need)
    (gains : Gains [] ys (λ pin. (pin < length g.pins) × Has pins (pin_ix pin))) where
  listed_of : (p : ℕ) → Has ys p → Has pins (pin_ix p)
  listed_of p has = (gains.each p (subst (λ l. Has l p) gains.is has)).1

  pub cut_to : Bars g n t made need ys → IsCut g n t made number pins
  cut_to bars = record {
    need = need;
    active = active;
    ends = λ p end. listed_of p (bars.ends p end);
    closed = λ p q has step. listed_of q (bars.closed p q (gains.all p ((step_inside g made p q law step).0, has)) step);
    sourceless = λ p start has. bars.sourceless p start (gains.all p (start_inside g n t made need p start, has));
  }

  pub cut_from : IsCut g n t made number pins → Bars g n t made need ys
  cut_from cut = by (some_same (sym cut.active.is ∙ active.is))
    where
      by : cut.need ≡ need → Bars g n t made need ys
      by same = record {
        ends = λ p end. gains.all p (end_inside g n t made need p of end, cut.ends p (subst (λ x. MayEnd g n t made x p) (sym same) end));
        closed = λ p q has step. gains.all q ((step_inside g made p q law step).1, cut.closed p q (listed_of p has) step);
        sourceless = λ p start has. cut.sourceless p (subst (λ x. MayStart g n t made x p) (sym same) start) (listed_of p has);
      }

-- what stands at a place of a list that has grown behind it
pub front_is : (xs ys : List ℕ) (P : ℕ → Type 0) (k x : ℕ) → Gains xs ys P → k < length xs → slice_get ys k ≡ Some x → slice_get xs k ≡ Some x
front_is xs ys P k x gains less is =
    let found = element xs k less in
    let same : found.0 ≡ x = some_same (sym (get_front xs gains.more k found.0 found.1) ∙ ap (λ l. slice_get l k) (sym gains.is) ∙ is) in
    found.1 ∙ ap Some same
