-- A pin's text is read in one way.
use Rattle.std.proofs.Common.{◌≡◌, ℕ, List, Option, Some, None, MatchOption, slice_get, sym, ap, ◌∙◌, subst}
use Rattle.vtr_base.specs.Lists.{IsFirstPlace}
use Rattle.vtr_base.specs.Spans.{IsCut}
use Rattle.arch_types.specs.declared.arch.Tile.{Tile}
use Rattle.arch_types.specs.declared.block.Port.{Port}
use Rattle.arch_types.specs.Blocks.{port_names}
use Rattle.rr_places.specs.declared.pin_text.NamedPin.{NamedPin}
use Rattle.rr_places.specs.PinTexts.{IsIndex, NamesSub, NamesBit, IsPinText}
use Rattle.rr_places.proofs.Cutting.{same_cut, same_place}

pub same_bit : (ports : List Port) (text name index : List ℕ) (place : ℕ) (p : Port) → IsCut text 91 name index → IsFirstPlace (port_names ports) name place →
    slice_get ports place ≡ Some p → (named : NamedPin) → NamesBit ports text named → IsIndex index p.width named.pin.bit
same_bit ports text name index place p cut first at named h =
    let k = same_cut 91 text name index h.name h.index cut h.cut in
    let there : IsFirstPlace (port_names ports) name named.pin.port = subst (λ n. IsFirstPlace (port_names ports) n named.pin.port) (sym k.0) h.place in
    let here : place ≡ named.pin.port = same_place (port_names ports) name place named.pin.port first there in
    let two : Some p ≡ Some h.port = sym at ∙ ap (λ n. slice_get ports n) here ∙ h.there in
    let port : h.port ≡ p = cc in
    let bit : IsIndex index h.port.width named.pin.bit = subst (λ t. IsIndex t h.port.width named.pin.bit) (sym k.1) h.bit in
    subst (λ q. IsIndex index q.width named.pin.bit) port bit

pub whole : (tile : Tile) (text owner rest : List ℕ) (sub : ℕ) (r : Option NamedPin) → IsCut text 46 owner rest → NamesSub tile owner sub →
    MatchOption r ((named : NamedPin) → NamesBit tile.ports rest named → ⊥) (λ named. NamesBit tile.ports rest named × (named.pin.sub ≡ sub)) →
    MatchOption r ((named : NamedPin) → IsPinText tile text named → ⊥) (IsPinText tile text)
whole tile text owner rest sub None cut says none = λ named h.
    (let k = same_cut 46 text owner rest h.owner h.rest cut h.cut in
    none named (subst (λ t. NamesBit tile.ports t named) (sym k.1) h.bit))
whole tile text owner rest sub (Some named) cut says found = record {
  owner = owner;
  rest = rest;
  cut = cut;
  sub = subst (NamesSub tile owner) (sym found.1) says;
  bit = found.0;
}
