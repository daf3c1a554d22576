-- A list that is filled: what was put, and what is still to come.
use Rattle.std.proofs.Common.{◌≡◌, ◌+◌, ◌-◌, ◌<◌, ◌≤◌, ℕ, zero, suc, List, [], ◌∷◌, ◌++◌, map, length, get_or, drop, slice_get, Some, refl, sym, ap, ◌∙◌, arith, append_assoc, length-append, drop-cons}
use Rattle.std.proofs.lemmas.List.{append-nil, drop_all}
use Rattle.std.proofs.lemmas.Option.{slice_get_within, get_or_from_slice_get}
use Rattle.vtr_base.specs.Lists.{up_from}
use Rattle.arch_types.specs.declared.block.PbType.{PbType}
use Rattle.arch_types.specs.declared.block.Port.{Port}
use Rattle.pb_expand.specs.declared.number.PinAt.{PinAt}
use Rattle.pb_expand.specs.Graph.{pin_at, pins_of_ports}
use Rattle.pb_expand.specs.Making.{pins_over}

pub record Fills (old now to_come all : List PinAt) : Type 0 where
  pub is : now ++ to_come ≡ old ++ all
  pub few : length old ≤ 1048576 → length now ≤ 1048576

pub fills_starts : (old to_come all : List PinAt) → to_come ≡ all → Fills old old to_come all
fills_starts old to_come all e = record { is = ap (λ l. old ++ l) e; few = λ h. h }

pub fills_more : (old now new part to_come rest all : List PinAt) → Fills old now to_come all → to_come ≡ part ++ rest → new ≡ now ++ part →
    (length now ≤ 1048576 → length new ≤ 1048576) → Fills old new rest all
fills_more old now new part to_come rest all fills e more few = record {
  is = ap (λ l. l ++ rest) more ∙ append_assoc now part rest ∙ ap (λ l. now ++ l) (sym e) ∙ fills.is;
  few = λ h. few (fills.few h);
}

pub fills_ends : (old now to_come all : List PinAt) → Fills old now to_come all → to_come ≡ [] → now ≡ old ++ all
fills_ends old now to_come all fills e = sym (append-nil now) ∙ ap (λ l. now ++ l) (sym e) ∙ fills.is

pub bits_step : (pb port bit width : ℕ) → bit < width →
    map (pin_at pb port) (up_from bit (width - bit)) ≡ (pin_at pb port bit ∷ []) ++ map (pin_at pb port) (up_from (bit + 1) (width - (bit + 1)))
bits_step pb port bit width inside =
    let more : width - bit ≡ suc (width - (bit + 1)) = omega arith in
    ap (λ k. map (pin_at pb port) (up_from bit k)) more

pub bits_begin : (pb port width : ℕ) → map (pin_at pb port) (up_from 0 (width - 0)) ≡ map (pin_at pb port) (up_from 0 width)
bits_begin pb port width = let all : width - 0 ≡ width = omega arith in ap (λ k. map (pin_at pb port) (up_from 0 k)) all

pub bits_end : (pb port bit width : ℕ) → width ≤ bit → map (pin_at pb port) (up_from bit (width - bit)) ≡ []
bits_end pb port bit width done = let none : width - bit ≡ 0 = omega arith in ap (λ k. map (pin_at pb port) (up_from bit k)) none

abbrev pub ports_from : ℕ → ℕ → List Port → List PinAt
ports_from pb port ports = pins_of_ports pb port (drop port ports)

pub ports_step : (pb port : ℕ) (ports : List Port) (is : Port) → port < length ports → is ≡ get_or ports port is →
    ports_from pb port ports ≡ map (pin_at pb port) (up_from 0 is.width) ++ ports_from pb (port + 1) ports
ports_step pb port ports is inside e =
    let next : suc port ≡ port + 1 = omega arith in
    let cut : drop port ports ≡ is ∷ drop (suc port) ports = drop-cons ports port is inside ∙ ap (λ x. x ∷ drop (suc port) ports) (sym e) in
    ap (λ ps. pins_of_ports pb port ps) cut
    ∙ ap (λ k. map (pin_at pb port) (up_from 0 is.width) ++ pins_of_ports pb (port + 1) (drop k ports)) next

pub ports_end : (pb port : ℕ) (ports : List Port) → length ports ≤ port → ports_from pb port ports ≡ []
ports_end pb port ports done = ap (λ ps. pins_of_ports pb port ps) (drop_all port ports done)

pub over_step : (n : ℕ) (blocks : List PbType) (block : PbType) → slice_get blocks n ≡ Some block →
    pins_over n (drop n blocks) ≡ pins_of_ports n 0 block.ports ++ pins_over (n + 1) (drop (n + 1) blocks)
over_step n blocks block at =
    let inside = slice_get_within blocks n block at in
    let e = get_or_from_slice_get blocks n block block at in
    let next : suc n ≡ n + 1 = omega arith in
    let cut : drop n blocks ≡ block ∷ drop (suc n) blocks = drop-cons blocks n block inside ∙ ap (λ x. x ∷ drop (suc n) blocks) e in
    ap (λ bs. pins_over n bs) cut ∙ ap (λ k. pins_of_ports n 0 block.ports ++ pins_over (n + 1) (drop k blocks)) next

pub over_end : (n : ℕ) (blocks : List PbType) → length blocks ≤ n → pins_over n (drop n blocks) ≡ []
over_end n blocks done = ap (λ bs. pins_over n bs) (drop_all n blocks done)

-- what is there and what is to come are as many as what was there and all that is to be put
pub fills_count : (old now to_come all : List PinAt) → Fills old now to_come all → length now + length to_come ≡ length old + length all
fills_count old now to_come all fills = omega (arith, ap length fills.is, length-append now to_come, length-append old all)

-- where there is no room for the next part, too many were to be put
pub no_room_for : (old now to_come part rest all : List PinAt) → Fills old now to_come all → to_come ≡ part ++ rest → 1048576 < length now + length part →
    1048576 < length old + length all
no_room_for old now to_come part rest all fills e full = omega (arith, fills_count old now to_come all fills, ap length e, length-append part rest)

pub length-bits : (pb port from k : ℕ) → length (map (pin_at pb port) (up_from from k)) ≡ k
length-bits pb port from zero = refl
length-bits pb port from (suc k) = ap suc (length-bits pb port (from + 1) k)
