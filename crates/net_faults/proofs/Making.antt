-- The makers of nets, atom by atom.
use Rattle.std.proofs.Common.{◌≡◌, ◌<◌, ◌+◌, ◌⊎◌, ℕ, zero, suc, List, [], ◌∷◌, ◌++◌, Option, Some, None, length, slice_get, replicate, refl, sym, ap, ◌∙◌, subst, inl, inr, arith}
use Rattle.std.proofs.Math.ListN.{set, length-set}
use Rattle.std.proofs.lemmas.Bool.{cases_eq}
use Rattle.std.proofs.lemmas.List.{get_or-replicate}
use Rattle.std.proofs.lemmas.Option.{slice_get_within, get_or_from_slice_get}
use Rattle.vtr_base.specs.Lists.{Has}
use Rattle.list_laws.proofs.Members.{has_at, at_has, has_left, has_last, has_pushed}
use Rattle.net_types.specs.declared.atom.Atom.{Atom}
use Rattle.net_types.specs.declared.atom.Conn.{Conn}
use Rattle.net_types.specs.Ends.{IsDriver}
use Rattle.net_faults.specs.Steps.{AreMakers, IsMakerOf, HasNet, PutsMaker}

get_set_same : (xs : List (Option ℕ)) (i : ℕ) (x : Option ℕ) → i < length xs → slice_get (set xs i x) i ≡ Some x
get_set_same [] i x low = absurd (omega arith)
get_set_same (y ∷ xs) zero x low = refl
get_set_same (y ∷ xs) (suc i) x low = get_set_same xs i x (omega arith)

get_set_other : (xs : List (Option ℕ)) (i j : ℕ) (x : Option ℕ) → (i ≡ j → ⊥) → slice_get (set xs i x) j ≡ slice_get xs j
get_set_other [] i j x other = refl
get_set_other (y ∷ xs) zero zero x other = absurd (other refl)
get_set_other (y ∷ xs) zero (suc j) x other = refl
get_set_other (y ∷ xs) (suc i) zero x other = refl
get_set_other (y ∷ xs) (suc i) (suc j) x other = get_set_other xs i j x (λ e. other (ap suc e))

-- whether a connection is of the net
has_net : (conns : List Conn) (net : ℕ) → HasNet conns net ⊎ (HasNet conns net → ⊥)
has_net [] net = inr (λ h. h.1)
has_net (c ∷ conns) net = by (cases_eq c.net net) (has_net conns net)
  where
    neither : (c.net ≡ net → ⊥) → (HasNet conns net → ⊥) → HasNet (c ∷ conns) net → ⊥
    neither other none h = elim h.1 [ inl is ↦ other (ap (λ (k : Conn). k.net) (sym is) ∙ h.2) | inr has ↦ none (h.0, has, h.2) ]

    by : (c.net ≡ net) ⊎ (c.net ≡ net → ⊥) → HasNet conns net ⊎ (HasNet conns net → ⊥) → HasNet (c ∷ conns) net ⊎ (HasNet (c ∷ conns) net → ⊥)
    by (inl is) rest = inl (c, inl refl, is)
    by (inr other) (inl h) = inl (h.0, inr h.1, h.2)
    by (inr other) (inr none) = inr (neither other none)

-- no connection, and one more

pub puts_none : (number : ℕ) (old : List (Option ℕ)) → PutsMaker [] number old old
puts_none number old = record { long = refl; put = λ net h. absurd h.1; kept = λ net none. refl }

pub puts_step : (conns : List Conn) (conn : Conn) (number : ℕ) (old before : List (Option ℕ)) → conn.net < length old → PutsMaker conns number old before →
    PutsMaker (conns ++ conn ∷ []) number old (set before conn.net (Some number))
puts_step conns conn number old before within puts = record {
  long = length-set before conn.net (Some number) ∙ puts.long;
  put = λ net h. put net h.0 h.2 (has_pushed conns conn h.0 h.1) (cases_eq conn.net net);
  kept = λ net none.
      get_set_other before conn.net net (Some number) (λ is. none (conn, has_last conns conn, is)) ∙
      puts.kept net (λ h. none (h.0, has_left conns (conn ∷ []) h.0 h.1, h.2));
}
  where
    low : conn.net < length before
    low = omega (arith, within, puts.long)

    same : (net : ℕ) → conn.net ≡ net → slice_get (set before conn.net (Some number)) net ≡ Some (Some number)
    same net is = ap (λ (k : ℕ). slice_get (set before conn.net (Some number)) k) (sym is) ∙ get_set_same before conn.net (Some number) low

    put : (net : ℕ) (c : Conn) → c.net ≡ net → Has conns c ⊎ (c ≡ conn) → (conn.net ≡ net) ⊎ (conn.net ≡ net → ⊥) →
        slice_get (set before conn.net (Some number)) net ≡ Some (Some number)
    put net c of has (inl is) = same net is
    put net c of (inl has) (inr other) = get_set_other before conn.net net (Some number) other ∙ puts.put net (c, has, of)
    put net c of (inr is) (inr other) = absurd (other (ap (λ (d : Conn). d.net) (sym is) ∙ of))

-- the makers among the first atoms
pub record AreMakersBelow (atoms : List Atom) (nets n : ℕ) (makers : List (Option ℕ)) : Type 0 where
  pub long : length makers ≡ nets
  pub some : (net number : ℕ) → slice_get makers net ≡ Some (Some number) → IsDriver atoms net number
  pub none : (net number : ℕ) → slice_get makers net ≡ Some None → number < n → IsDriver atoms net number → ⊥

pub makers_begin : (atoms : List Atom) (nets : ℕ) → AreMakersBelow atoms nets 0 (replicate nets None)
makers_begin atoms nets = record {
  long = long nets;
  some = λ net number at. absurd (nothing net number at);
  none = λ net number at low. absurd (omega (arith, low));
}
  where
    long : (n : ℕ) → length (replicate {A = Option ℕ} n None) ≡ n
    long zero = refl
    long (suc n) = ap suc (long n)

    nothing : (net number : ℕ) → slice_get (replicate {A = Option ℕ} nets None) net ≡ Some (Some number) → ⊥
    nothing net number at =
        let low = slice_get_within (replicate {A = Option ℕ} nets None) net (Some number) at in
        let read = get_or_from_slice_get (replicate {A = Option ℕ} nets None) net (Some number) None at in
        let none = get_or-replicate {A = Option ℕ} nets net None None (omega (arith, low, long nets)) in
        cc

pub makers_step : (atoms : List Atom) (nets n : ℕ) (atom : Atom) (old new : List (Option ℕ)) → slice_get atoms n ≡ Some atom →
    AreMakersBelow atoms nets n old → PutsMaker atom.outs n old new → AreMakersBelow atoms nets (n + 1) new
makers_step atoms nets n atom old new there are puts = record {
  long = puts.long ∙ are.long;
  some = λ net number at. some net number at (has_net atom.outs net);
  none = λ net number at low drives. none net number at low drives (has_net atom.outs net) (cases_eq number n);
}
  where
    here : (net : ℕ) → HasNet atom.outs net → IsDriver atoms net n
    here net h = let at = at_has atom.outs h.0 h.1 in (at.0, record { atom = atom; there = there; conn = h.0; at = at.1; of_net = h.2 })

    back : (net number : ℕ) → number ≡ n → IsDriver atoms net number → HasNet atom.outs net
    back net number is drives =
        let m = drives.1 in
        let same : m.atom ≡ atom = (let at = ap (λ (k : ℕ). slice_get atoms k) (sym is) ∙ m.there in cc) in
        (m.conn, subst (λ (a : Atom). Has a.outs m.conn) same (has_at m.atom.outs drives.0 m.conn m.at), m.of_net)

    some : (net number : ℕ) → slice_get new net ≡ Some (Some number) → HasNet atom.outs net ⊎ (HasNet atom.outs net → ⊥) → IsDriver atoms net number
    some net number at (inl h) = let put = puts.put net h in let same : n ≡ number = cc in subst (λ (k : ℕ). IsDriver atoms net k) same (here net h)
    some net number at (inr not) = are.some net number (sym (puts.kept net not) ∙ at)

    none : (net number : ℕ) → slice_get new net ≡ Some None → number < n + 1 → IsDriver atoms net number →
        HasNet atom.outs net ⊎ (HasNet atom.outs net → ⊥) → (number ≡ n) ⊎ (number ≡ n → ⊥) → ⊥
    none net number at low drives (inl h) last = let put = puts.put net h in cc
    none net number at low drives (inr not) (inl is) = not (back net number is drives)
    none net number at low drives (inr not) (inr other) = are.none net number (sym (puts.kept net not) ∙ at) (omega (arith, low, other)) drives

pub makers_end : (atoms : List Atom) (nets n : ℕ) (makers : List (Option ℕ)) → n ≡ length atoms → AreMakersBelow atoms nets n makers → AreMakers atoms nets makers
makers_end atoms nets n makers all are = record { long = are.long; each = λ net maker at. each net maker at }
  where
    each : (net : ℕ) (maker : Option ℕ) → slice_get makers net ≡ Some maker → IsMakerOf atoms net maker
    each net (Some number) at = are.some net number at
    each net None at = λ made. (let m = made.1.1 in are.none net made.0 at (omega (arith, all, slice_get_within atoms made.0 m.atom m.there)) made.1)
