-- No net is driven twice, and no atom stands twice.
use Rattle.std.proofs.Common.{◌≡◌, ◌<◌, inl, inr, ℕ, Option, List, [], ◌∷◌, Some, None, map, length, refl, sym, ap, ◌∙◌, subst}
use Rattle.std.specs.Prelude.{slice_get}
use Rattle.std.specs.Option.{option_map}
use Rattle.std.specs.List.{All, flat_map}
use Rattle.std.proofs.lemmas.Option.{slice_get-map}
use Rattle.vtr_base.specs.Lists.{Has}
use Rattle.list_laws.specs.Orders.{Once, StandOnce}
use Rattle.list_laws.proofs.Members.{has_at, at_has, has_map, from_map, each_has}
use Rattle.list_laws.proofs.Onces.{once_of, once_flat}
use Rattle.net_types.specs.declared.atom.Atom.{Atom}
use Rattle.net_types.specs.declared.atom.Conn.{Conn}
use Rattle.net_types.specs.declared.parts.NetlistParts.{NetlistParts}
use Rattle.net_types.specs.Ends.{IsMaker, HasOneMaker}
use Rattle.net_types.specs.Order.{nets_of}
use Rattle.net_types.specs.WellFormed.{IsNetlist}
use Rattle.order_laws.specs.Kept.{drives, called}

pub once_names : {A B : Type 0} (f : A → B) (xs : List A) → Once (map f xs) → Once xs
once_names f [] once = tt
once_names f (x ∷ xs) once = (λ has. once.0 (has_map f xs x has), once_names f xs once.1)

-- a connection with its place
pub record ConnAt (conns : List Conn) (place net : ℕ) : Type 0 where
  pub conn : Conn
  pub at : slice_get conns place ≡ Some conn
  pub of_net : conn.net ≡ net

conn_at : (conns : List Conn) (place net : ℕ) → slice_get (nets_of conns) place ≡ Some net → ConnAt conns place net
conn_at conns place net is = by (slice_get conns place) refl (sym (slice_get-map (λ (c : Conn). c.net) conns place) ∙ is)
  where
    by : (o : Option Conn) → slice_get conns place ≡ o → option_map (λ (c : Conn). c.net) o ≡ Some net → ConnAt conns place net
    by None at same = absurd (let bad : ⊥ = cc same in bad)
    by (Some c) at same = record { conn = c; at = at; of_net = (let e : Some c.net ≡ Some net = same in cc e) }

net_below : (limit : ℕ) (conns : List Conn) (net : ℕ) → All (λ (c : Conn). c.net < limit) conns → Has (nets_of conns) net → net < limit
net_below limit conns net all has =
    let r = from_map (λ (c : Conn). c.net) conns net has in
    subst (λ k. k < limit) (sym r.is) (each_has (λ (c : Conn). c.net < limit) conns all r.item r.has)

module _ (n : NetlistParts) (law : IsNetlist n) where
  low : (a : Atom) (net : ℕ) → Has n.atoms a → Has (drives a) net → net < length n.nets
  low a net has drives' =
      let within = each_has (λ (b : Atom). All (λ (c : Conn). c.net < length n.nets) b.ins × All (λ (c : Conn). c.net < length n.nets) b.outs) n.atoms law.within a has in
      net_below (length n.nets) a.outs net within.1 drives'

  maker : (a : Atom) (number place net : ℕ) → slice_get n.atoms number ≡ Some a → slice_get (drives a) place ≡ Some net → IsMaker n.atoms net number place
  maker a number place net there at =
      let c = conn_at a.outs place net at in
      record { atom = a; there = there; conn = c.conn; at = c.at; of_net = c.of_net }

  one_atom : (a : Atom) → Has n.atoms a → Once (drives a)
  one_atom a has = once_of (drives a) (λ i j net x y.
      let number = at_has n.atoms a has in
      let made = law.made net (low a net has (has_at (drives a) i net x)) in
      let here = made.only number.0 i (maker a number.0 i net number.1 x) in
      let there = made.only number.0 j (maker a number.0 j net number.1 y) in
      here.1 ∙ sym there.1)

  two_atoms : (a b : Atom) (net : ℕ) → Has n.atoms a → Has n.atoms b → Has (drives a) net → Has (drives b) net → a ≡ b
  two_atoms a b net in_a in_b by_a by_b =
      let i = at_has n.atoms a in_a in
      let j = at_has n.atoms b in_b in
      let p = at_has (drives a) net by_a in
      let q = at_has (drives b) net by_b in
      let made = law.made net (low a net in_a by_a) in
      let here = made.only i.0 p.0 (maker a i.0 p.0 net i.1 p.1) in
      let there = made.only j.0 q.0 (maker b j.0 q.0 net j.1 q.1) in
      let same : i.0 ≡ j.0 = here.0 ∙ sym there.0 in
      let e : Some a ≡ Some b = sym i.1 ∙ (ap (slice_get n.atoms) same ∙ j.1) in
      cc e

  pub driven_once : Once (flat_map drives n.atoms)
  driven_once = once_flat drives n.atoms (once_names called n.atoms law.atoms.once) one_atom two_atoms
