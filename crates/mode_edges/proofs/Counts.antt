-- How many pins groups have.
use Rattle.std.proofs.Common.{◌≡◌, ◌<◌, ◌≤◌, ◌+◌, ◌-◌, ◌*◌, ℕ, zero, suc, List, [], ◌∷◌, Option, Some, None, length, map, take, get_or, length-append, refl, sym, ◌∙◌, ap, arith}
use Rattle.std.specs.List.{flat_map}
use Rattle.std.proofs.lemmas.List.{length-map, take_more}
use Rattle.std.proofs.lemmas.List.Concat.{flat_map-append}
use Rattle.vtr_base.specs.Lists.{up_from}
use Rattle.mode_edges.specs.declared.pin.LocalPin.{LocalPin}
use Rattle.mode_edges.specs.declared.names.Instances.{Instances}
use Rattle.mode_edges.specs.declared.names.PinGroup.{PinGroup}
use Rattle.mode_edges.specs.PinWords.{own_pin, child_pin}
use Rattle.mode_edges.specs.Readers.{member_list, pins_of}

up_count : (n k : ℕ) → length (up_from n k) ≡ k
up_count n zero = refl
up_count n (suc k) = ap suc (up_count (n + 1) k)

rows_count : (pin : ℕ → ℕ → LocalPin) (bits instances : List ℕ) → length (flat_map (λ i. map (pin i) bits) instances) ≡ length instances * length bits
rows_count pin bits [] = omega arith
rows_count pin bits (i ∷ is) =
    let more = rows_count pin bits is in
    let first = length-map bits (pin i) in
    let both = length-append (map (pin i) bits) (flat_map (λ j. map (pin j) bits) is) in
    omega (arith, more, first, both)

pub count_own : (g : PinGroup) → g.of ≡ None → g.bits.bits.end - g.bits.bits.low ≡ length (pins_of g)
count_own g none =
    let is = ap (λ (of : Option Instances). length (pins_of (record { of = of; bits = g.bits }))) none in
    let bits = length-map (member_list g.bits.bits) (own_pin g.bits.port) in
    sym (is ∙ (bits ∙ up_count g.bits.bits.low (g.bits.bits.end - g.bits.bits.low)))

pub count_child : (g : PinGroup) (of : Instances) → g.of ≡ Some of → (of.members.end - of.members.low) * (g.bits.bits.end - g.bits.bits.low) ≡ length (pins_of g)
count_child g of child =
    let is = ap (λ (o : Option Instances). length (pins_of (record { of = o; bits = g.bits }))) child in
    let rows = rows_count (λ i. child_pin of.child i g.bits.port) (member_list g.bits.bits) (member_list of.members) in
    let instances = up_count of.members.low (of.members.end - of.members.low) in
    let bits = up_count g.bits.bits.low (g.bits.bits.end - g.bits.bits.low) in
    sym (is ∙ (rows ∙ (ap (λ (n : ℕ). n * length (member_list g.bits.bits)) instances ∙ ap (λ (n : ℕ). (of.members.end - of.members.low) * n) bits)))

-- the pins of the first groups were counted
pub record IsCounted (groups : List PinGroup) (i total : ℕ) : Type 0 where
  pub is : total ≡ length (flat_map pins_of (take i groups))
  pub fits : total ≤ i * 18446744073709551616

pub counts_more : (groups : List PinGroup) (i total more : ℕ) (d : PinGroup) → i < length groups → more ≡ length (pins_of (get_or groups i d)) → more < 18446744073709551616 →
    IsCounted groups i total → IsCounted groups (i + 1) (total + more)
counts_more groups i total more d inside is small so_far =
    let longer = ap (λ (l : List PinGroup). length (flat_map pins_of l)) (take_more groups i d inside) in
    let both = ap length (flat_map-append pins_of (take i groups) (get_or groups i d ∷ [])) in
    let sum = length-append (flat_map pins_of (take i groups)) (flat_map pins_of (get_or groups i d ∷ [])) in
    let last = length-append (pins_of (get_or groups i d)) [] in
    let so_far_is = so_far.is in
    let fits = so_far.fits in
    record { is = omega (arith, longer, both, sum, last, so_far_is, is); fits = omega (arith, fits, small) }

pub counted_child : (g : PinGroup) (of : Instances) (m n : ℕ) → g.of ≡ Some of → m ≡ of.members.end - of.members.low → n ≡ g.bits.bits.end - g.bits.bits.low →
    m * n ≡ length (pins_of g)
counted_child g of m n child instances bits =
    ap (λ (k : ℕ). k * n) instances ∙ (ap (λ (k : ℕ). (of.members.end - of.members.low) * k) bits ∙ count_child g of child)
