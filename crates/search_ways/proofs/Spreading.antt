-- Pins that a search reaches, step by step.
use Rattle.std.proofs.Common.{◌≡◌, ◌+◌, ◌<◌, ◌≤◌, ◌⊎◌, inl, inr, ℕ, zero, suc, List, [], ◌∷◌, ◌++◌, Option, Some, None, length, get_or, slice_get, refl, sym, ap, ◌∙◌, subst, arith, length-append}
use Rattle.std.proofs.lemmas.Option.{slice_get_within, slice_get-get_or}
use Rattle.std.proofs.lemmas.Bool.{cases_lt}
use Rattle.vtr_base.specs.Lists.{Has, up_from}
use Rattle.list_laws.specs.Orders.{Once}
use Rattle.list_laws.proofs.Counting.{no_longer}
use Rattle.list_laws.proofs.Members.{has_at, at_has, has_left, has_up}
use Rattle.list_laws.proofs.Places.{get_front, get_either, get_after, element}
use Rattle.pb_expand.specs.Graph.{Graph}
use Rattle.task_types.specs.declared.task.Task.{Task}
use Rattle.task_types.specs.declared.task.Need.{Need}
use Rattle.task_types.specs.declared.decision.Decision.{Decision}
use Rattle.task_types.specs.Nets.{NetSaid}
use Rattle.task_types.specs.Open.{AllowsStep, MayEnd, MayStart}
use Rattle.task_reach.specs.Gains.{Gains}
use Rattle.search_ways.specs.Traces.{IsReachedBy, AreTraced, AreShut, IsFilled}

some_same : {X : Type 0} {x y : X} → Some x ≡ Some y → x ≡ y
some_same e = cc

-- a list that is filled

pub fill_none : (xs : List (Option ℕ)) (long : ℕ) (value : Option ℕ) → length xs ≡ long → IsFilled xs xs long value
fill_none xs long value same = record { long' = same; kept = λ k less. refl; filled = λ k past less. absurd (omega (arith, past, less, same)) }

pub fill_more : (xs ys zs : List (Option ℕ)) (n : ℕ) (value : Option ℕ) → n ≡ length ys → length xs ≤ n → IsFilled xs ys n value → zs ≡ ys ++ value ∷ [] → IsFilled xs zs (n + 1) value
fill_more xs ys zs n value is past filled pushed = record {
  long' = ap length pushed ∙ length-append ys (value ∷ []) ∙ (let one : length ys + 1 ≡ n + 1 = omega (arith, is) in one);
  kept = λ k less.
      let found = element ys k (omega (arith, less, past, is)) in
      ap (λ l. slice_get l k) pushed ∙ get_front ys (value ∷ []) k found.0 found.1 ∙ sym found.1 ∙ filled.kept k less;
  filled = λ k from less. elim (cases_lt k n) [
    | inl before ↦ (
        let found = element ys k (omega (arith, before, is)) in
        ap (λ l. slice_get l k) pushed ∙ get_front ys (value ∷ []) k found.0 found.1 ∙ sym found.1 ∙ filled.filled k from before)
    | inr met ↦ ap (λ l. slice_get l k) pushed ∙ get_after ys [] value k (omega (arith, met, less, is))
  ];
}

-- no more pins are reached than there are

up_long : (n k : ℕ) → length (up_from n k) ≡ k
up_long n zero = refl
up_long n (suc k) = ap suc (up_long (n + 1) k)

pub no_more : (xs : List ℕ) (room : ℕ) → Once xs → ((x : ℕ) → Has xs x → x < room) → length xs ≤ room
no_more xs room once inside = let few = no_longer xs (up_from 0 room) once (λ x has. has_up 0 room x (omega arith) (let less = inside x has in omega (arith, less))) in omega (arith, few, up_long 0 room)

-- the pin at a place of those that are reached

pub here_is : (items xs ys : List ℕ) (place : ℕ) → xs ≡ items → ys ≡ items → place < length ys → slice_get items place ≡ Some (get_or xs place 0)
here_is items xs ys place is same less = ap (λ l. slice_get l place) (sym is) ∙ slice_get-get_or xs place 0 (omega (arith, less, ap length same, ap length is))

pub here_inside : (items xs ys : List ℕ) (place room : ℕ) → xs ≡ items → ys ≡ items → place < length ys → ((x : ℕ) → Has items x → x < room) → get_or xs place 0 < room
here_inside items xs ys place room is same less inside = inside (get_or xs place 0) (has_at items place (get_or xs place 0) (here_is items xs ys place is same less))

pub few_places : (items ys : List ℕ) (place room : ℕ) → ys ≡ items → place < length ys → Once items → ((x : ℕ) → Has items x → x < room) → place < room
few_places items ys place room same less once inside = let few = no_more items room once inside in omega (arith, few, less, ap length same)

-- a list that gains

pub longer : (xs ys : List ℕ) (P : ℕ → Type 0) → Gains xs ys P → length xs ≤ length ys
longer xs ys P gains = omega (arith, ap length gains.is, length-append xs gains.more)

-- what stood in it, at its place
pub front_at : (xs ys : List ℕ) (P : ℕ → Type 0) (k x : ℕ) → Gains xs ys P → slice_get xs k ≡ Some x → slice_get ys k ≡ Some x
front_at xs ys P k x gains at = ap (λ l. slice_get l k) gains.is ∙ get_front xs gains.more k x at

front_is : (xs ys : List ℕ) (P : ℕ → Type 0) (k x : ℕ) → Gains xs ys P → k < length xs → slice_get ys k ≡ Some x → slice_get xs k ≡ Some x
front_is xs ys P k x gains less is =
    let found = element xs k less in
    found.1 ∙ ap Some (some_same (sym (front_at xs ys P k found.0 gains found.1) ∙ is))

-- what is new in it
behind_is : (xs ys : List ℕ) (P : ℕ → Type 0) (k x : ℕ) → Gains xs ys P → length xs ≤ k → slice_get ys k ≡ Some x → P x
behind_is xs ys P k x gains past is = elim (get_either xs gains.more k x (ap (λ l. slice_get l k) (sym gains.is) ∙ is)) [
  | inl front ↦ absurd (let less = slice_get_within xs k x front in omega (arith, less, past))
  | inr behind ↦ gains.each x (has_at gains.more behind.0 x behind.2)
]

kept_has : (xs ys : List ℕ) (P : ℕ → Type 0) (x : ℕ) → Gains xs ys P → Has xs x → Has ys x
kept_has xs ys P x gains has = subst (λ l. Has l x) (sym gains.is) (has_left xs gains.more x has)

-- how far a search back from a need's ends has come: the first pins are done

pub record IsSpread (g : Graph) (n : NetSaid) (t : Task) (made : List Decision) (need : Need) (pins : List ℕ) (from : List (Option ℕ)) (place : ℕ) : Type 0 where
  pub traced : AreTraced g n t made need pins from
  pub ends : (p : ℕ) → MayEnd g n t made need p → Has pins p
  pub closed : (k p q : ℕ) → k < place → slice_get pins k ≡ Some p → AllowsStep g made p q → Has pins q
  pub sourceless : (k p : ℕ) → k < place → slice_get pins k ≡ Some p → MayStart g n t made need p → ⊥
  pub within : place ≤ length pins

module _ (g : Graph) (n : NetSaid) (t : Task) (made : List Decision) (need : Need) where
  pub spread_first : (pins : List ℕ) (from : List (Option ℕ)) → Gains [] pins (MayEnd g n t made need) → IsFilled [] from (length pins) None → IsSpread g n t made need pins from 0
  spread_first pins from gains filled = record {
    traced = record {
      long = filled.long';
      each = λ place pin before is told.
          let less = slice_get_within pins place pin is in
          let none : None ≡ before = some_same (sym (filled.filled place (omega arith) less) ∙ told) in
          subst (λ b. IsReachedBy g n t made need pins b place pin) none (behind_is [] pins (MayEnd g n t made need) place pin gains (omega arith) is);
    };
    ends = gains.all;
    closed = λ k p q less is step. absurd (omega (arith, less));
    sourceless = λ k p less is start. absurd (omega (arith, less));
    within = omega arith;
  }

  still_reached : (pins more : List ℕ) (P : ℕ → Type 0) (before : Option ℕ) (place pin : ℕ) → Gains pins more P → IsReachedBy g n t made need pins before place pin → IsReachedBy g n t made need more before place pin
  still_reached pins more P None place pin gains end = end
  still_reached pins more P (Some before) place pin gains by = (by.0, (by.1.0, front_at pins more P before by.1.0 gains by.1.1, by.1.2))

  module _ (pins more : List ℕ) (from told : List (Option ℕ)) (place pin : ℕ) (is : slice_get pins place ≡ Some pin) (spread : IsSpread g n t made need pins from place) (no_start : MayStart g n t made need pin → ⊥)
      (gains : Gains pins more (AllowsStep g made pin)) (filled : IsFilled from told (length more) (Some place)) where
    less : place < length pins
    less = slice_get_within pins place pin is

    reached_by : (k p : ℕ) (before : Option ℕ) → slice_get more k ≡ Some p → slice_get told k ≡ Some before → IsReachedBy g n t made need more before k p
    reached_by k p before here said = elim (cases_lt k (length pins)) [
      | inl old ↦ (
          let first = front_is pins more (AllowsStep g made pin) k p gains old here in
          let same = sym (filled.kept k (omega (arith, old, spread.traced.long))) ∙ said in
          still_reached pins more (AllowsStep g made pin) before k p gains (spread.traced.each k p before first same))
      | inr new ↦ (
          let step = behind_is pins more (AllowsStep g made pin) k p gains (omega (arith, new)) here in
          let within = slice_get_within more k p here in
          let same : Some place ≡ before = some_same (sym (filled.filled k (omega (arith, new, spread.traced.long)) within) ∙ said) in
          subst (λ b. IsReachedBy g n t made need more b k p) same (omega (arith, new, less), (pin, front_at pins more (AllowsStep g made pin) place pin gains is, step)))
    ]

    done_before : (k p : ℕ) → k < place + 1 → slice_get more k ≡ Some p → ((k < place) × (slice_get pins k ≡ Some p)) ⊎ (p ≡ pin)
    done_before k p short here =
        let first = front_is pins more (AllowsStep g made pin) k p gains (omega (arith, short, less)) here in
        elim (cases_lt k place) [
          | inl old ↦ inl (old, first)
          | inr met ↦ (
              let same : k ≡ place = omega (arith, met, short) in
              inr (some_same (sym first ∙ ap (λ i. slice_get pins i) same ∙ is)))
        ]

    pub spread_more : IsSpread g n t made need more told (place + 1)
    spread_more = record {
      traced = record { long = filled.long'; each = reached_by };
      ends = λ p end. kept_has pins more (AllowsStep g made pin) p gains (spread.ends p end);
      closed = λ k p q short here step. elim (done_before k p short here) [
        | inl old ↦ kept_has pins more (AllowsStep g made pin) q gains (spread.closed k p q old.0 old.1 step)
        | inr same ↦ gains.all q (subst (λ x. AllowsStep g made x q) same step)
      ];
      sourceless = λ k p short here start. elim (done_before k p short here) [
        | inl old ↦ spread.sourceless k p old.0 old.1 start
        | inr same ↦ no_start (subst (λ x. MayStart g n t made need x) same start)
      ];
      within = (let long = longer pins more (AllowsStep g made pin) gains in omega (arith, long, less));
    }

  pub spread_shut : (pins : List ℕ) (from : List (Option ℕ)) (place : ℕ) → length pins ≤ place → IsSpread g n t made need pins from place → AreShut g n t made need pins
  spread_shut pins from place all spread = record {
    ends = spread.ends;
    closed = λ p q has step.
        let k = at_has pins p has in
        let short = slice_get_within pins k.0 p k.1 in
        spread.closed k.0 p q (omega (arith, short, all)) k.1 step;
    sourceless = λ p start has.
        let k = at_has pins p has in
        let short = slice_get_within pins k.0 p k.1 in
        spread.sourceless k.0 p (omega (arith, short, all)) k.1 start;
  }
