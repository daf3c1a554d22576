-- The LUT that makes a net, where one does.
use Rattle.std.proofs.Common.{◌≡◌, ◌<◌, ◌≤◌, ◌⊎◌, ℕ, List, Some, length, slice_get, refl, sym, ap, ◌∙◌, subst, inl, inr, arith}
use Rattle.std.specs.List.{All}
use Rattle.std.proofs.lemmas.Bool.{cases_lt}
use Rattle.std.proofs.lemmas.Option.{slice_get_within, get_or_from_slice_get}
use Rattle.vtr_base.specs.Lists.{Has}
use Rattle.list_laws.proofs.Members.{has_at, at_has}
use Rattle.arch_types.specs.declared.block.AtomKind.{AtomKind}
use Rattle.arch_types.specs.declared.block.AtomKind.TheVariants.{InPad, OutPad, Lut, Latch, Cell}
use Rattle.net_types.specs.declared.atom.Atom.{Atom}
use Rattle.net_types.specs.declared.atom.Conn.{Conn}
use Rattle.net_types.specs.declared.parts.NetlistParts.{NetlistParts}
use Rattle.net_types.specs.Ends.{IsMaker, HasOneMaker}
use Rattle.net_types.specs.WellFormed.{IsNetlist, HaveNets}

is_lut : (k : AtomKind) → (k ≡ Lut) ⊎ (k ≡ Lut → ⊥)
is_lut Lut = inl refl
is_lut InPad = inr (λ e. cc)
is_lut OutPad = inr (λ e. cc)
is_lut Latch = inr (λ e. cc)
is_lut (Cell model) = inr (λ e. cc)

-- the LUT with this number makes the net
pub record LutOf (atoms : List Atom) (net : ℕ) : Type 0 where
  pub number : ℕ
  pub place : ℕ
  pub makes : IsMaker atoms net number place
  pub lut : makes.atom.kind ≡ Lut

pub has_atom : (atoms : List Atom) (net : ℕ) (l : LutOf atoms net) → Has atoms l.makes.atom
has_atom atoms net l = has_at atoms l.number l.makes.atom l.makes.there

pub has_out : (atoms : List Atom) (net number place : ℕ) (m : IsMaker atoms net number place) → Has m.atom.outs m.conn
has_out atoms net number place m = has_at m.atom.outs place m.conn m.at

-- the nets of inputs and outputs are there

pub in_within : (nets : ℕ) (atoms : List Atom) → HaveNets nets atoms → (atom : Atom) (conn : Conn) → Has atoms atom → Has atom.ins conn → conn.net < nets
in_within nets atoms within atom conn has_atom has_conn =
    let a = at_has atoms atom has_atom in
    let k = at_has atom.ins conn has_conn in
    let same = get_or_from_slice_get atoms a.0 atom atom a.1 in
    let ins = subst (λ (b : Atom). All (λ (c : Conn). c.net < nets) b.ins) same (within a.0 atom (slice_get_within atoms a.0 atom a.1)).0 in
    let conn_same = get_or_from_slice_get atom.ins k.0 conn conn k.1 in
    subst (λ (c : Conn). c.net < nets) conn_same (ins k.0 conn (slice_get_within atom.ins k.0 conn k.1))

pub out_within : (nets : ℕ) (atoms : List Atom) → HaveNets nets atoms → (net number place : ℕ) → IsMaker atoms net number place → net < nets
out_within nets atoms within net number place m =
    let same = get_or_from_slice_get atoms number m.atom m.atom m.there in
    let outs = subst (λ (b : Atom). All (λ (c : Conn). c.net < nets) b.outs) same (within number m.atom (slice_get_within atoms number m.atom m.there)).1 in
    let conn_same = get_or_from_slice_get m.atom.outs place m.conn m.conn m.at in
    let low = subst (λ (c : Conn). c.net < nets) conn_same (outs place m.conn (slice_get_within m.atom.outs place m.conn m.at)) in
    subst (λ (k : ℕ). k < nets) m.of_net low

-- a net has one maker

module _ (n : NetlistParts) (keeps : IsNetlist n) where
  pub one_number : (net number place other at : ℕ) → IsMaker n.atoms net number place → IsMaker n.atoms net other at → number ≡ other
  one_number net number place other at m o =
      let one = keeps.made net (out_within (length n.nets) n.atoms keeps.within net number place m) in
      (one.only number place m).0 ∙ sym (one.only other at o).0

  pub one_atom : (net number place other at : ℕ) (m : IsMaker n.atoms net number place) (o : IsMaker n.atoms net other at) → m.atom ≡ o.atom
  one_atom net number place other at m o =
      let same = one_number net number place other at m o in
      let there : slice_get n.atoms number ≡ Some o.atom = ap (λ (k : ℕ). slice_get n.atoms k) same ∙ o.there in
      let both : Some m.atom ≡ Some o.atom = sym m.there ∙ there in
      cc

  pub decide : (net : ℕ) → LutOf n.atoms net ⊎ (LutOf n.atoms net → ⊥)
  decide net = by (cases_lt net (length n.nets))
    where
      by_kind : (m : HasOneMaker n.atoms net) → (m.makes.atom.kind ≡ Lut) ⊎ (m.makes.atom.kind ≡ Lut → ⊥) → LutOf n.atoms net ⊎ (LutOf n.atoms net → ⊥)
      by_kind m (inl is) = inl (record { number = m.number; place = m.place; makes = m.makes; lut = is })
      by_kind m (inr other) = inr (λ l. other (ap (λ (a : Atom). a.kind) (one_atom net m.number m.place l.number l.place m.makes l.makes) ∙ l.lut))

      by : (net < length n.nets) ⊎ (length n.nets ≤ net) → LutOf n.atoms net ⊎ (LutOf n.atoms net → ⊥)
      by (inl low) = let m = keeps.made net low in by_kind m (is_lut m.makes.atom.kind)
      by (inr high) = inr (λ l. (let low = out_within (length n.nets) n.atoms keeps.within net l.number l.place l.makes in absurd (omega (arith, low, high))))

  -- a LUT that makes an input of another has a lower rank
  pub rank_falls : (net : ℕ) (l : LutOf n.atoms net) (conn : Conn) → Has l.makes.atom.ins conn → (m : LutOf n.atoms conn.net) → keeps.ranks.rank m.number < keeps.ranks.rank l.number
  rank_falls net l conn has m = keeps.ranks.rises m.number l.number (record {
    atom = l.makes.atom;
    there = l.makes.there;
    takes = l.lut;
    conn = conn;
    has = has;
    other = m.makes.atom;
    other_there = m.makes.there;
    makes = m.lut;
    drives = (m.place, m.makes);
  })
