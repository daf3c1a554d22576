-- The makers of nets, atom by atom.
use Rattle.std.proofs.Common.{◌≡◌, ◌<◌, ◌+◌, ◌⊎◌, ℕ, zero, suc, List, [], ◌∷◌, ◌++◌, Some, length, slice_get, refl, sym, ap, ◌∙◌, subst, inl, inr, arith}
use Rattle.std.proofs.Math.ListN.{set, length-set}
use Rattle.std.proofs.lemmas.Bool.{cases_eq}
use Rattle.std.proofs.lemmas.Option.{slice_get_within}
use Rattle.vtr_base.specs.Lists.{Has}
use Rattle.list_laws.proofs.Members.{has_at, at_has, has_left, has_last, has_pushed}
use Rattle.net_types.specs.declared.atom.Atom.{Atom}
use Rattle.net_types.specs.declared.atom.Conn.{Conn}
use Rattle.net_types.specs.Ends.{IsMaker, HasOneMaker}
use Rattle.net_types.specs.Inside.{HasDrivers}
use Rattle.net_types.specs.Pairs.{PutsMaker}

-- the makers among the first n atoms stand at their nets
pub record HasMakers (atoms : List Atom) (nets n : ℕ) (drivers : List ℕ) : Type 0 where
  pub long : length drivers ≡ nets
  pub each : (net number place : ℕ) → IsMaker atoms net number place → number < n → slice_get drivers net ≡ Some number

pub makers_step : (atoms : List Atom) (nets n : ℕ) (atom : Atom) (old new : List ℕ) → slice_get atoms n ≡ Some atom →
    ((net : ℕ) → net < nets → HasOneMaker atoms net) → HasMakers atoms nets n old → PutsMaker atom.outs n old new → HasMakers atoms nets (n + 1) new
makers_step atoms nets n atom old new there made has puts = record {
  long = puts.long ∙ has.long;
  each = λ net number place makes low. by net number place makes low (cases_eq number n);
}
  where
    own : (net number place : ℕ) → IsMaker atoms net number place → number ≡ n → (conn : Conn) × Has atom.outs conn × (conn.net ≡ net)
    own net number place makes is =
        let at : slice_get atoms n ≡ Some makes.atom = ap (λ (k : ℕ). slice_get atoms k) (sym is) ∙ makes.there in
        let same : makes.atom ≡ atom = cc in
        (makes.conn, subst (λ (a : Atom). Has a.outs makes.conn) same (has_at makes.atom.outs place makes.conn makes.at), makes.of_net)

    other : (net number place : ℕ) → IsMaker atoms net number place → number < n → (conn : Conn) → Has atom.outs conn → conn.net ≡ net → ⊥
    other net number place makes low conn has_conn is =
        let at = at_has atom.outs conn has_conn in
        let here : IsMaker atoms net n at.0 = record { atom = atom; there = there; conn = conn; at = at.1; of_net = is } in
        let within = slice_get_within old net number (has.each net number place makes low) in
        let one = made net (omega (arith, within, has.long)) in
        let first = (one.only number place makes).0 in
        let second = (one.only n at.0 here).0 in
        omega (arith, first, second, low)

    by : (net number place : ℕ) → IsMaker atoms net number place → number < n + 1 → (number ≡ n) ⊎ (number ≡ n → ⊥) → slice_get new net ≡ Some number
    by net number place makes low (inl is) =
        let r = own net number place makes is in
        ap (λ (k : ℕ). slice_get new k) (sym r.2) ∙ (puts.put r.0 r.1 ∙ ap Some (sym is))
    by net number place makes low (inr not_last) =
        let before : number < n = omega (arith, low, not_last) in
        puts.kept net (other net number place makes before) ∙ has.each net number place makes before

pub drivers_are : (atoms : List Atom) (nets : ℕ) (drivers : List ℕ) → ((net : ℕ) → net < nets → HasOneMaker atoms net) →
    HasMakers atoms nets (length atoms) drivers → HasDrivers atoms nets drivers
drivers_are atoms nets drivers made has = record {
  long = has.long;
  each = λ net number at. (
      let one = made net (omega (arith, slice_get_within drivers net number at, has.long)) in
      let m = one.makes in
      let found = has.each net one.number one.place m (slice_get_within atoms one.number m.atom m.there) in
      let same : one.number ≡ number = cc in
      (one.place, subst (λ (k : ℕ). IsMaker atoms net k one.place) same m));
}

get_set_same : (xs : List ℕ) (i : ℕ) (x : ℕ) → i < length xs → slice_get (set xs i x) i ≡ Some x
get_set_same [] i x low = absurd (omega arith)
get_set_same (y ∷ xs) zero x low = refl
get_set_same (y ∷ xs) (suc i) x low = get_set_same xs i x (omega arith)

get_set_other : (xs : List ℕ) (i j : ℕ) (x : ℕ) → (i ≡ j → ⊥) → slice_get (set xs i x) j ≡ slice_get xs j
get_set_other [] i j x other = refl
get_set_other (y ∷ xs) zero zero x other = absurd (other refl)
get_set_other (y ∷ xs) zero (suc j) x other = refl
get_set_other (y ∷ xs) (suc i) zero x other = refl
get_set_other (y ∷ xs) (suc i) (suc j) x other = get_set_other xs i j x (λ e. other (ap suc e))

-- no connection, and one more

pub puts_none : (number : ℕ) (old : List ℕ) → PutsMaker [] number old old
puts_none number old = record { long = refl; put = λ c has. absurd has; kept = λ net none. refl }

pub puts_step : (conns : List Conn) (conn : Conn) (number : ℕ) (old before : List ℕ) → conn.net < length old → PutsMaker conns number old before →
    PutsMaker (conns ++ conn ∷ []) number old (set before conn.net number)
puts_step conns conn number old before within puts = record {
  long = length-set before conn.net number ∙ puts.long;
  put = λ c has. put c (has_pushed conns conn c has) (cases_eq conn.net c.net);
  kept = λ net none.
      get_set_other before conn.net net number (none conn (has_last conns conn)) ∙
      puts.kept net (λ c has. none c (has_left conns (conn ∷ []) c has));
}
  where
    low : conn.net < length before
    low = omega (arith, within, puts.long)

    same : (net : ℕ) → conn.net ≡ net → slice_get (set before conn.net number) net ≡ Some number
    same net is = ap (λ (k : ℕ). slice_get (set before conn.net number) k) (sym is) ∙ get_set_same before conn.net number low

    put : (c : Conn) → Has conns c ⊎ (c ≡ conn) → (conn.net ≡ c.net) ⊎ (conn.net ≡ c.net → ⊥) → slice_get (set before conn.net number) c.net ≡ Some number
    put c has (inl is) = same c.net is
    put c (inl has) (inr other) = get_set_other before conn.net c.net number other ∙ puts.put c has
    put c (inr is) (inr other) = absurd (other (ap (λ (d : Conn). d.net) (sym is)))
