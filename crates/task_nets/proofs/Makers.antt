-- The maker of a net, and who reads it outside.
use Rattle.std.proofs.Common.{◌≡◌, ℕ, Bool, List, Option, Some, None, MatchOption, IsTrue, is_some, not, true, false, slice_get, refl, sym, ap, ◌∙◌, subst}
use Rattle.std.specs.Prelude.{◌↔◌, Any}
use Rattle.std.proofs.lemmas.Option.{slice_get-get_or, slice_get_within, get_or_from_slice_get}
use Rattle.vtr_base.specs.Lists.{Has}
use Rattle.list_laws.proofs.Members.{has_at, at_has}
use Rattle.net_types.specs.Ends.{IsDriver, AreSinks, HasOneMaker}
use Rattle.task_types.specs.Nets.{NetSaid}
use Rattle.task_rules.specs.Joined.{IsMakerAt, IsReadOutside}

pub maker_at : (n : NetSaid) (atoms : List ℕ) (net driver : ℕ) (r : Option ℕ) → HasOneMaker n net → IsDriver n net driver →
    MatchOption r (Has atoms driver → ⊥) (λ place. slice_get atoms place ≡ Some driver) →
    MatchOption r ((place : ℕ) → IsMakerAt n atoms net place → ⊥) (IsMakerAt n atoms net)
maker_at n atoms net driver None one drives none = λ place m.
    (let a = (one.only m.number m.drives.0 m.drives.1).0 in
    let b = (one.only driver drives.0 drives.1).0 in
    none (subst (λ (k : ℕ). Has atoms k) (a ∙ sym b) (has_at atoms place m.number m.listed)))
maker_at n atoms net driver (Some place) one drives at = record { number = driver; listed = at; drives = drives }

pub read_outside : (n : NetSaid) (atoms : List ℕ) (net : ℕ) (sinks : List (ℕ × ℕ)) (r : Bool) → AreSinks n net sinks →
    IsTrue r ↔ Any (λ (sink : ℕ × ℕ). Has atoms sink.0 → ⊥) sinks → IsTrue r ↔ IsReadOutside n atoms net
read_outside n atoms net sinks r are told = (
  λ t. (let (k, sink, low, is, out) = told.0 t in
      record {
        number = sink.0;
        input = sink.1;
        reads = (are.each sink.0 sink.1).0 (has_at sinks k sink (slice_get-get_or sinks k sink low ∙ ap Some is));
        outside = out;
      }),
  λ h. (let sink : ℕ × ℕ = (h.number, h.input) in
      let at = at_has sinks sink ((are.each h.number h.input).1 h.reads) in
      told.1 (at.0, sink, slice_get_within sinks at.0 sink at.1, get_or_from_slice_get sinks at.0 sink sink at.1, h.outside)),
)

pub outside : (atoms : List ℕ) (number : ℕ) (o : Option ℕ) (b : Bool) → is_some o ≡ not b → MatchOption o (Has atoms number → ⊥) (λ place. slice_get atoms place ≡ Some number) →
    IsTrue b ↔ (Has atoms number → ⊥)
outside atoms number None true e none = (λ t. none, λ out. refl)
outside atoms number None false e none = absurd (let bad : ⊥ = cc e in bad)
outside atoms number (Some place) true e at = absurd (let bad : ⊥ = cc e in bad)
outside atoms number (Some place) false e at = (λ t. absurd (let bad : ⊥ = cc t in bad), λ out. absurd (out (has_at atoms place number at)))
