-- How many connections there are.
use Rattle.std.proofs.Common.{◌≡◌, ◌≤◌, ◌+◌, ℕ, zero, suc, List, [], ◌∷◌, Some, length, slice_get, refl, ap, ◌∙◌, arith, length-append}
use Rattle.std.proofs.lemmas.List.Sums.{sum_by-cons}
use Rattle.net_types.specs.declared.atom.Atom.{Atom}
use Rattle.net_types.specs.declared.atom.Conn.{Conn}
use Rattle.net_types.specs.Pairs.{pairs_at}
use Rattle.net_types.specs.WellFormed.{count_conns}
use Rattle.net_types.proofs.Pairs.{pairs_from}

length-pairs_at : (number place : ℕ) (conns : List Conn) → length (pairs_at number place conns) ≡ length conns
length-pairs_at number place [] = refl
length-pairs_at number place (c ∷ conns) = ap suc (length-pairs_at number (place + 1) conns)

count_more : (atom : Atom) (atoms : List Atom) → count_conns (atom ∷ atoms) ≡ length atom.ins + length atom.outs + count_conns atoms
count_more atom atoms = sum_by-cons (λ (a : Atom). length a.ins + length a.outs) atom atoms

pairs_more : (n : ℕ) (atom : Atom) (atoms : List Atom) → length (pairs_from n (atom ∷ atoms)) ≡ length atom.ins + length (pairs_from (n + 1) atoms)
pairs_more n atom atoms =
    length-append (pairs_at n 0 atom.ins) (pairs_from (n + 1) atoms) ∙
    ap (λ (k : ℕ). k + length (pairs_from (n + 1) atoms)) (length-pairs_at n 0 atom.ins)

pub pairs_short : (n : ℕ) (atoms : List Atom) → length (pairs_from n atoms) ≤ count_conns atoms
pairs_short n [] = omega arith
pairs_short n (atom ∷ atoms) = omega (arith, pairs_short (n + 1) atoms, pairs_more n atom atoms, count_more atom atoms)

pub conns_short : (atoms : List Atom) (k : ℕ) (atom : Atom) → slice_get atoms k ≡ Some atom → length atom.ins + length atom.outs ≤ count_conns atoms
conns_short [] k atom at = absurd (cc)
conns_short (a ∷ atoms) zero atom at =
    let is : a ≡ atom = cc in
    let same : length a.ins + length a.outs ≡ length atom.ins + length atom.outs = ap (λ (b : Atom). length b.ins + length b.outs) is in
    omega (arith, same, count_more a atoms)
conns_short (a ∷ atoms) (suc k) atom at = omega (arith, conns_short atoms k atom at, count_more a atoms)
