-- How many nets are different.
use Rattle.std.proofs.Common.{◌≡◌, ◌+◌, ◌⊎◌, ℕ, List, [], ◌∷◌, ◌++◌, refl, sym, subst, inl, inr, arith}
use Rattle.std.proofs.lemmas.List.{length_push}
use Rattle.vtr_base.specs.Lists.{Has}
use Rattle.list_laws.proofs.Counting.{same_length}
use Rattle.list_laws.proofs.Members.{has_left, has_last, has_pushed, has_map, from_map}
use Rattle.list_laws.proofs.Onces.{once_pushed}
use Rattle.arch_types.specs.declared.block.Port.{Port}
use Rattle.net_types.specs.declared.atom.Conn.{Conn}
use Rattle.net_types.specs.Order.{nets_of}
use Rattle.atom_homes.specs.Homes.{HasDifferent, FitsLut, IsWide}
use Rattle.atom_homes.proofs.Scans.{NoneOf}

pub none_different : HasDifferent [] 0
none_different = record { each = []; once = tt; same = record { forth = λ x has. has; back = λ x has. has }; count_is = refl }

pub known_net : (nets : List ℕ) (net count : ℕ) → Has nets net → HasDifferent nets count → HasDifferent (nets ++ net ∷ []) count
known_net nets net count has d = record {
  each = d.each;
  once = d.once;
  same = record { forth = λ x h. has_left nets (net ∷ []) x (d.same.forth x h); back = λ x h. d.same.back x (by x (has_pushed nets net x h)) };
  count_is = d.count_is;
}
  where
    by : (x : ℕ) → Has nets x ⊎ (x ≡ net) → Has nets x
    by x (inl h) = h
    by x (inr is) = subst (λ (y : ℕ). Has nets y) (sym is) has

pub new_net : (nets : List ℕ) (net count : ℕ) → (Has nets net → ⊥) → HasDifferent nets count → HasDifferent (nets ++ net ∷ []) (count + 1)
new_net nets net count fresh d = record {
  each = d.each ++ net ∷ [];
  once = once_pushed d.each net d.once (λ h. fresh (d.same.forth net h));
  same = record { forth = λ x h. forth x (has_pushed d.each net x h); back = λ x h. back x (has_pushed nets net x h) };
  count_is = omega (arith, length_push d.each net, d.count_is);
}
  where
    forth : (x : ℕ) → Has d.each x ⊎ (x ≡ net) → Has (nets ++ net ∷ []) x
    forth x (inl h) = has_left nets (net ∷ []) x (d.same.forth x h)
    forth x (inr is) = subst (λ (y : ℕ). Has (nets ++ net ∷ []) y) (sym is) (has_last nets net)

    back : (x : ℕ) → Has nets x ⊎ (x ≡ net) → Has (d.each ++ net ∷ []) x
    back x (inl h) = has_left d.each (net ∷ []) x (d.same.back x h)
    back x (inr is) = subst (λ (y : ℕ). Has (d.each ++ net ∷ []) y) (sym is) (has_last d.each net)

-- there is one such count
pub one_count : (nets : List ℕ) (a b : ℕ) → HasDifferent nets a → HasDifferent nets b → a ≡ b
one_count nets a b d e =
    let same = same_length d.each e.each d.once e.once (record {
      forth = λ x h. e.same.back x (d.same.forth x h);
      back = λ x h. d.same.back x (e.same.forth x h);
    }) in
    omega (arith, same, d.count_is, e.count_is)

pub no_lut : (conns : List Conn) (ports : List Port) (count : ℕ) → HasDifferent (nets_of conns) count → NoneOf (IsWide count) ports → FitsLut conns ports → ⊥
no_lut conns ports count d none f =
    none f.port f.there (subst (λ (k : ℕ). IsWide k f.port) (one_count (nets_of conns) f.count count f.different d) f.wide)

-- a connection of the net

pub conn_has : (conns : List Conn) (conn : Conn) (net : ℕ) → Has conns conn → conn.net ≡ net → Has (nets_of conns) net
conn_has conns conn net has is = subst (λ (k : ℕ). Has (nets_of conns) k) is (has_map (λ (c : Conn). c.net) conns conn has)

pub no_conn : (conns : List Conn) (net : ℕ) → NoneOf (λ (c : Conn). c.net ≡ net) conns → Has (nets_of conns) net → ⊥
no_conn conns net none has =
    let r = from_map (λ (c : Conn). c.net) conns net has in
    none r.item r.has (sym r.is)
