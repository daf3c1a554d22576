-- No atom of a netlist drives two nets from one pin.
use Rattle.std.proofs.Common.{◌≡◌, ◌+◌, ℕ, zero, suc, List, [], ◌∷◌, ◌++◌, Some, map, length, sym, ap, ◌∙◌, arith}
use Rattle.std.specs.Prelude.{slice_get}
use Rattle.std.specs.Option.{option_map}
use Rattle.std.proofs.lemmas.Option.{slice_get-map}
use Rattle.list_laws.specs.Orders.{Once}
use Rattle.list_laws.proofs.Members.{has_at, each_has}
use Rattle.list_laws.proofs.Onces.{once_at}
use Rattle.list_laws.proofs.Places.{get_behind}
use Rattle.arch_types.specs.declared.block.AtomKind.{AtomKind}
use Rattle.arch_types.specs.declared.block.AtomKind.TheVariants.{InPad, OutPad, Lut, Latch, Cell}
use Rattle.net_types.specs.declared.atom.Atom.{Atom}
use Rattle.net_types.specs.declared.atom.Conn.{Conn}
use Rattle.net_types.specs.declared.parts.NetlistParts.{NetlistParts}
use Rattle.net_types.specs.Atoms.{IsAtom, FitsKind, formal_of}
use Rattle.net_types.specs.WellFormed.{IsNetlist}
use Rattle.task_types.specs.Nets.{AreOnePin, HasOneNet}
use Rattle.task_law.proofs.Base.{some_injective}

conn_once : (ins outs : List Conn) → Once (map formal_of (ins ++ outs)) → (i j : ℕ) (a b : Conn) → slice_get outs i ≡ Some a → slice_get outs j ≡ Some b → formal_of a ≡ formal_of b → a ≡ b
conn_once ins outs once i j a b at_i at_j same =
    let first : slice_get (map formal_of (ins ++ outs)) (length ins + i) ≡ Some (formal_of a) =
    slice_get-map formal_of (ins ++ outs) (length ins + i) ∙ ap (option_map formal_of) (get_behind ins outs i a at_i) in
    let second : slice_get (map formal_of (ins ++ outs)) (length ins + j) ≡ Some (formal_of a) =
    slice_get-map formal_of (ins ++ outs) (length ins + j) ∙ ap (option_map formal_of) (get_behind ins outs j b at_j) ∙ ap (λ x. Some x) (sym same) in
    let places = once_at (map formal_of (ins ++ outs)) once (length ins + i) (length ins + j) (formal_of a) first second in
    let numbers : i ≡ j = omega (arith, places) in
    some_injective (sym at_i ∙ ap (λ k. slice_get outs k) numbers ∙ at_j)

single : (outs : List Conn) (conn : Conn) → outs ≡ conn ∷ [] → (i : ℕ) (a : Conn) → slice_get outs i ≡ Some a → a ≡ conn
single outs conn only zero a at = some_injective (sym at ∙ ap (λ xs. slice_get xs 0) only)
single outs conn only (suc i) a at = let none = sym at ∙ ap (λ xs. slice_get xs (suc i)) only in absurd (let bad : ⊥ = cc none in bad)

no_conn : (outs : List Conn) → outs ≡ [] → (i : ℕ) (a : Conn) → slice_get outs i ≡ Some a → ⊥
no_conn outs empty i a at = let none = sym at ∙ ap (λ xs. slice_get xs i) empty in let bad : ⊥ = cc none in bad

one_net_of : (atom : Atom) (k : AtomKind) → FitsKind k atom → (i j : ℕ) (a b : Conn) → slice_get atom.outs i ≡ Some a → slice_get atom.outs j ≡ Some b → AreOnePin k a b → a.net ≡ b.net
one_net_of atom (Cell model) fits i j a b at_i at_j pin =
    let same : formal_of a ≡ formal_of b = ap (λ x. (x, a.bit)) pin.0 ∙ ap (λ x. (b.port, x)) pin.1 in
    ap (λ (c : Conn). c.net) (conn_once atom.ins atom.outs fits.once i j a b at_i at_j same)
one_net_of atom InPad fits i j a b at_i at_j pin =
    ap (λ (c : Conn). c.net) (single atom.outs fits.outs.conn fits.outs.only i a at_i ∙ sym (single atom.outs fits.outs.conn fits.outs.only j b at_j))
one_net_of atom Lut fits i j a b at_i at_j pin =
    ap (λ (c : Conn). c.net) (single atom.outs fits.outs.conn fits.outs.only i a at_i ∙ sym (single atom.outs fits.outs.conn fits.outs.only j b at_j))
one_net_of atom Latch fits i j a b at_i at_j pin =
    ap (λ (c : Conn). c.net) (single atom.outs fits.outs.conn fits.outs.only i a at_i ∙ sym (single atom.outs fits.outs.conn fits.outs.only j b at_j))
one_net_of atom OutPad fits i j a b at_i at_j pin = absurd (no_conn atom.outs fits.outs i a at_i)

pub has_one_net : (n : NetlistParts) → IsNetlist n → HasOneNet n.atoms
has_one_net n law = record {
  one = λ k i j atom a b is at_i at_j pin.
      one_net_of atom atom.kind (each_has IsAtom n.atoms law.atoms.each atom (has_at n.atoms k atom is)) i j a b at_i at_j pin;
}
