-- Tables and the indices of values.
use Rattle.std.proofs.Common.{◌≡◌, ◌<◌, ◌*◌, ◌^◌, ◌↔◌, ℕ, suc, Bool, true, false, List, [], ◌∷◌, Some, length, get_or, slice_get, sym, ap, ◌∙◌, arith}
use Rattle.std.proofs.lemmas.List.{length-map}
use Rattle.std.proofs.lemmas.Option.{slice_get-get_or}
use Rattle.blif_covers.specs.Covers.{index_of, bit_of, IsOn, IsTableOf, RowSaid}
use Rattle.net_types.specs.declared.atom.Conn.{Conn}
use Rattle.net_values.specs.Valuations.{NetValues, values_of, IsLookedUp}

small_bit : (b : Bool) → bit_of b < 2
small_bit true = omega arith
small_bit false = omega arith

pub index_low : (values : List Bool) → index_of values < 2 ^ length values
index_low [] = omega arith
index_low (b ∷ values) =
    let rest = index_low values in
    let bit = small_bit b in
    let twice : 2 ^ suc (length values) ≡ 2 * 2 ^ length values = grind arith in
    omega (arith, rest, bit, twice)

-- the value that is looked up
abbrev pub looked_up : List Bool → List Bool → Bool
looked_up table inputs = get_or table (index_of inputs) false

pub is_looked_up : (table : List Bool) (conns : List Conn) (values : NetValues) → length table ≡ 2 ^ length conns →
    IsLookedUp table (values_of values conns) (looked_up table (values_of values conns))
is_looked_up table conns values wide =
    let low = index_low (values_of values conns) in
    let long : length (values_of values conns) ≡ length conns = length-map conns (λ (c : Conn). values c.net) in
    let same : 2 ^ length (values_of values conns) ≡ 2 ^ length conns = ap (λ (k : ℕ). 2 ^ k) long in
    slice_get-get_or table (index_of (values_of values conns)) false (omega (arith, low, wide, same))

pub cover_says : (inputs : ℕ) (rows : List RowSaid) (table values : List Bool) (value : Bool) → IsTableOf inputs rows table → length values ≡ inputs →
    IsLookedUp table values value → (value ≡ true) ↔ IsOn rows values
cover_says inputs rows table values value is long looked = (
  λ on. (says.0 (looked ∙ ap Some on)),
  λ on. same (sym looked ∙ says.1 on),
)
  where
    says : (slice_get table (index_of values) ≡ Some true) ↔ IsOn rows values
    says = is.says values long

    same : Some value ≡ Some true → value ≡ true
    same e = cc
