-- The web of what is reached from the ends of needs.
use Rattle.std.proofs.Common.{◌≡◌, ◌<◌, ◌≤◌, ◌+◌, inl, inr, ℕ, List, [], ◌∷◌, ◌++◌, Some, length, slice_get, sym, ap, ◌∙◌, subst, arith}
use Rattle.std.proofs.lemmas.Bool.{cases_lt}
use Rattle.std.proofs.lemmas.Option.{slice_get_within}
use Rattle.vtr_base.specs.Lists.{Has}
use Rattle.list_laws.proofs.Members.{has_at, at_has, has_left, has_last, has_pushed}
use Rattle.arch_types.specs.declared.block.AtomKind.{AtomKind}
use Rattle.arch_types.specs.declared.block.AtomKind.TheVariants as kind
use Rattle.arch_types.specs.declared.block.Port.{Port}
use Rattle.arch_types.specs.declared.block.Side.TheVariants.{Output}
use Rattle.net_types.specs.declared.atom.Conn.{Conn}
use Rattle.pb_expand.specs.Graph.{Graph}
use Rattle.task_types.specs.declared.task.Task.{Task}
use Rattle.task_types.specs.declared.task.Need.{Need}
use Rattle.task_types.specs.declared.decision.Decision.{Decision}
use Rattle.task_types.specs.Nets.{NetSaid}
use Rattle.task_types.specs.Ends.{FitsOut}
use Rattle.task_types.specs.Open.{MayStart}
use Rattle.task_reach.specs.Gains.{Gains, FromFirst, FromItem}
use Rattle.search_crowds.specs.Webs.{EndsOne, StartsOne, CanStart, AreSources, IsSpread, IsWeb}

some_same : {X : Type 0} {x y : X} → Some x ≡ Some y → x ≡ y
some_same e = cc

fits_output : (kind : AtomKind) (conn : Conn) (port : Port) → FitsOut kind conn port → port.side ≡ Output
fits_output (kind.Cell model) conn port fits = fits.1
fits_output kind.Latch conn port fits = fits
fits_output kind.InPad conn port fits = fits
fits_output kind.OutPad conn port fits = fits
fits_output kind.Lut conn port fits = fits

can_start : (g : Graph) (n : NetSaid) (t : Task) (made : List Decision) (need : Need) (pin : ℕ) → MayStart g n t made need pin → CanStart g pin
can_start g n t made need pin (inl first) =
    let on = first.made.at.on in
    record { at = on.at; is = on.is; can = inr (record { port = on.port; is = on.is_port; side = fits_output first.made.atom.kind first.made.is on.port on.fits }) }
can_start g n t made need pin (inr enters) = record { at = enters.1.root.at; is = enters.1.root.is; can = inl enters.1.root.of_pb }

module _ (g : Graph) (n : NetSaid) (t : Task) (made : List Decision) (needs : List ℕ) where
  pub cannot_start : (pin : ℕ) → (CanStart g pin → ⊥) → StartsOne g n t made needs pin → ⊥
  cannot_start pin cannot starts = cannot (can_start g n t made starts.need pin starts.start)

  -- the pins that were gone through, and which of them are sources
  pub record AreSourcesSoFar (pins : List ℕ) (count : ℕ) (sources : List ℕ) : Type 0 where
    pub each : (pin : ℕ) → Has sources pin → Has pins pin × StartsOne g n t made needs pin
    pub all : (k pin : ℕ) → k < count → slice_get pins k ≡ Some pin → StartsOne g n t made needs pin → Has sources pin

  -- one need more whose net can't come from the pin
  pub none_more : (pin at number : ℕ) (need : Need) → slice_get needs at ≡ Some number → slice_get t.needs number ≡ Some need → (MayStart g n t made need pin → ⊥) →
      ((k m : ℕ) (other : Need) → k < at → slice_get needs k ≡ Some m → slice_get t.needs m ≡ Some other → MayStart g n t made other pin → ⊥) →
      (k m : ℕ) (other : Need) → k < at + 1 → slice_get needs k ≡ Some m → slice_get t.needs m ≡ Some other → MayStart g n t made other pin → ⊥
  none_more pin at number need listed is none before k m other less found is_other start = elim (cases_lt k at) [
    | inl early ↦ before k m other early found is_other start
    | inr met ↦ (
        let same : k ≡ at = omega (arith, less, met) in
        let numbers : m ≡ number = some_same (sym found ∙ ap (λ i. slice_get needs i) same ∙ listed) in
        let needs_are : other ≡ need = some_same (sym is_other ∙ ap (λ i. slice_get t.needs i) numbers ∙ is) in
        none (subst (λ (x : Need). MayStart g n t made x pin) needs_are start))
  ]

  pub web_of : (first reached sources : List ℕ) (edges : List (ℕ × ℕ)) → Gains [] first (FromFirst (FromItem needs (EndsOne g n t made)) (length needs)) →
      IsSpread g made first reached (length reached) edges → AreSources g n t made needs reached sources → IsWeb g n t made needs edges first sources
  web_of first reached sources edges gains spread are = record {
    reached = reached;
    each = λ p q has. (spread.each p q has).2;
    all = λ p q has step. (let r = at_has reached p has in spread.all r.0 p q (slice_get_within reached r.0 p r.1) r.1 step);
    starts_of = λ p has. (
        let from = gains.each p (subst (λ l. Has l p) gains.is has) in
        (spread.kept p has, record { number = from.from.item; of = has_at needs from.place from.from.item from.from.is; one = from.from.from }));
    all_starts = λ p end. (
        let r = at_has needs end.number end.of in
        gains.all p (record { place = r.0; before = slice_get_within needs r.0 end.number r.1; from = record { item = end.number; is = r.1; from = end.one } }));
    ends_of = λ p has. (are.each p has).1;
    all_ends = λ p has start. are.all p has start;
  }

  pub sources_none : (pins : List ℕ) → AreSourcesSoFar pins 0 []
  sources_none pins = record { each = λ pin has. absurd has; all = λ k pin less at start. absurd (omega (arith, less)) }

  module _ (pins : List ℕ) (count : ℕ) (sources : List ℕ) (pin : ℕ) (at : slice_get pins count ≡ Some pin) (are : AreSourcesSoFar pins count sources) where
    same_pin : (k p : ℕ) → k < count + 1 → count ≤ k → slice_get pins k ≡ Some p → pin ≡ p
    same_pin k p less met found =
        let same : k ≡ count = omega (arith, less, met) in
        let e : Some pin ≡ Some p = sym at ∙ ap (λ i. slice_get pins i) (sym same) ∙ found in cc e

    pub sources_push : StartsOne g n t made needs pin → AreSourcesSoFar pins (count + 1) (sources ++ pin ∷ [])
    sources_push start = record {
      each = λ p has. elim (has_pushed sources pin p has) [
        | inl before ↦ are.each p before
        | inr same ↦ subst (λ x. Has pins x × StartsOne g n t made needs x) (sym same) (has_at pins count pin at, start)
      ];
      all = λ k p less found starts. elim (cases_lt k count) [
        | inl early ↦ has_left sources (pin ∷ []) p (are.all k p early found starts)
        | inr met ↦ subst (λ x. Has (sources ++ pin ∷ []) x) (same_pin k p less met found) (has_last sources pin)
      ];
    }

    pub sources_skip : (StartsOne g n t made needs pin → ⊥) → AreSourcesSoFar pins (count + 1) sources
    sources_skip none = record {
      each = are.each;
      all = λ k p less found starts. elim (cases_lt k count) [
        | inl early ↦ are.all k p early found starts
        | inr met ↦ absurd (none (subst (λ x. StartsOne g n t made needs x) (sym (same_pin k p less met found)) starts))
      ];
    }

  pub sources_all : (pins : List ℕ) (count : ℕ) (sources : List ℕ) → length pins ≤ count → AreSourcesSoFar pins count sources → AreSources g n t made needs pins sources
  sources_all pins count sources whole are = record {
    each = are.each;
    all = λ pin has start. (
        let r = at_has pins pin has in
        let inside = slice_get_within pins r.0 pin r.1 in
        are.all r.0 pin (omega (arith, inside, whole)) r.1 start);
  }
