-- Values along a ranking: each LUT looks its value up once those that make its inputs have theirs.
use Rattle.std.proofs.Common.{◌≡◌, ◌<◌, ◌^◌, ◌⊎◌, ℕ, zero, suc, Bool, List, [], ◌∷◌, Some, length, slice_get, refl, sym, ap, ◌∙◌, subst, inl, inr, arith}
use Rattle.std.proofs.lemmas.Option.{slice_get_within, get_or_from_slice_get}
use Rattle.vtr_base.specs.Lists.{Has}
use Rattle.list_laws.proofs.Members.{has_at, at_has}
use Rattle.arch_types.specs.declared.block.AtomKind.{AtomKind}
use Rattle.arch_types.specs.declared.block.AtomKind.TheVariants.{InPad, OutPad, Lut, Latch, Cell}
use Rattle.blif_covers.specs.Covers.{index_of}
use Rattle.net_types.specs.declared.atom.Atom.{Atom}
use Rattle.net_types.specs.declared.atom.Conn.{Conn}
use Rattle.net_types.specs.declared.parts.NetlistParts.{NetlistParts}
use Rattle.net_types.specs.Atoms.{IsAtom, IsLut, FitsKind}
use Rattle.net_types.specs.Ends.{IsMaker}
use Rattle.net_types.specs.WellFormed.{IsNetlist}
use Rattle.net_values.specs.Valuations.{NetValues, values_of, IsLookedUp, IsValuation, HasOneValuation}
use Rattle.net_values.proofs.Indices.{looked_up, is_looked_up}
use Rattle.net_values.proofs.Makers.{LutOf, has_atom, has_out, in_within, one_number, one_atom, decide, rank_falls}

pub same_values : (conns : List Conn) (v w : NetValues) → ((conn : Conn) → Has conns conn → v conn.net ≡ w conn.net) → values_of v conns ≡ values_of w conns
same_values [] v w same = refl
same_values (c ∷ conns) v w same =
    let first = same c (inl refl) in
    let rest = same_values conns v w (λ d has. same d (inr has)) in
    ap (λ (x : Bool). x ∷ values_of v conns) first ∙ ap (λ (l : List Bool). w c.net ∷ l) rest

as_lut : (k : AtomKind) (atom : Atom) → k ≡ Lut → FitsKind k atom → IsLut atom
as_lut Lut atom is fits = fits
as_lut InPad atom is fits = absurd (cc)
as_lut OutPad atom is fits = absurd (cc)
as_lut Latch atom is fits = absurd (cc)
as_lut (Cell model) atom is fits = absurd (cc)

module _ (n : NetlistParts) (keeps : IsNetlist n) (given : NetValues) where
  abbrev IsFree : ℕ → Type 0
  IsFree net = LutOf n.atoms net → ⊥

  abbrev rank : ℕ → ℕ
  rank number = keeps.ranks.rank number

  wide : (net : ℕ) (l : LutOf n.atoms net) → length l.makes.atom.table ≡ 2 ^ length l.makes.atom.ins
  wide net l =
      let low = slice_get_within n.atoms l.number l.makes.atom l.makes.there in
      let is = get_or_from_slice_get n.atoms l.number l.makes.atom l.makes.atom l.makes.there in
      let fits = subst (λ (a : Atom). IsAtom a) is (keeps.atoms.each l.number l.makes.atom low) in
      (as_lut l.makes.atom.kind l.makes.atom l.lut fits).table

  -- a net's value from values of the inputs of its LUT
  step : NetValues → (net : ℕ) → LutOf n.atoms net ⊎ IsFree net → Bool
  step v net (inl l) = looked_up l.makes.atom.table (values_of v l.makes.atom.ins)
  step v net (inr free) = given net

  -- values after so many steps
  after : ℕ → NetValues
  after zero net = given net
  after (suc k) net = step (after k) net (decide n keeps net)

  step_lut : (v : NetValues) (net : ℕ) (d : LutOf n.atoms net ⊎ IsFree net) (l : LutOf n.atoms net) → step v net d ≡ looked_up l.makes.atom.table (values_of v l.makes.atom.ins)
  unfolding step
  step_lut v net (inl m) l =
      ap (λ (a : Atom). looked_up a.table (values_of v a.ins)) (one_atom n keeps net m.number m.place l.number l.place m.makes l.makes)
  step_lut v net (inr free) l = absurd (free l)

  step_free : (v : NetValues) (net : ℕ) (d : LutOf n.atoms net ⊎ IsFree net) → IsFree net → step v net d ≡ given net
  unfolding step
  step_free v net (inl m) free = absurd (free m)
  step_free v net (inr other) free = refl

  after_free : (k net : ℕ) → IsFree net → after k net ≡ given net
  unfolding after
  after_free zero net free = refl
  after_free (suc k) net free = step_free (after k) net (decide n keeps net) free

  after_lut : (k net : ℕ) (l : LutOf n.atoms net) → after (suc k) net ≡ looked_up l.makes.atom.table (values_of (after k) l.makes.atom.ins)
  unfolding after
  after_lut k net l = step_lut (after k) net (decide n keeps net) l

  -- more steps than the rank change nothing
  stable : (k j net : ℕ) (l : LutOf n.atoms net) → rank l.number < k → rank l.number < j → after k net ≡ after j net
  stable zero j net l low other = absurd (omega (arith, low))
  stable (suc k) zero net l low other = absurd (omega (arith, other))
  stable (suc k) (suc j) net l low other =
      let ins = l.makes.atom.ins in
      let same = same_values ins (after k) (after j) (λ conn has. by conn has (decide n keeps conn.net) (stable k j conn.net)) in
      after_lut k net l ∙ (ap (λ (vs : List Bool). looked_up l.makes.atom.table vs) same ∙ sym (after_lut j net l))
    where
      by : (conn : Conn) → Has l.makes.atom.ins conn → LutOf n.atoms conn.net ⊎ IsFree conn.net →
          ((m : LutOf n.atoms conn.net) → rank m.number < k → rank m.number < j → after k conn.net ≡ after j conn.net) → after k conn.net ≡ after j conn.net
      by conn has (inl m) before = let falls = rank_falls n keeps net l conn has m in before m (omega (arith, falls, low)) (omega (arith, falls, other))
      by conn has (inr free) before = after_free k conn.net free ∙ sym (after_free j conn.net free)

  settle : (net : ℕ) → LutOf n.atoms net ⊎ IsFree net → Bool
  settle net (inl l) = after (suc (rank l.number)) net
  settle net (inr free) = given net

  settled : NetValues
  settled net = settle net (decide n keeps net)

  settled_lut : (net : ℕ) (d : LutOf n.atoms net ⊎ IsFree net) (l : LutOf n.atoms net) → settle net d ≡ after (suc (rank l.number)) net
  unfolding settle
  settled_lut net (inl m) l =
      ap (λ (k : ℕ). after (suc (rank k)) net) (one_number n keeps net m.number m.place l.number l.place m.makes l.makes)
  settled_lut net (inr free) l = absurd (free l)

  settled_free : (net : ℕ) (d : LutOf n.atoms net ⊎ IsFree net) → IsFree net → settle net d ≡ given net
  unfolding settle
  settled_free net (inl m) free = absurd (free m)
  settled_free net (inr other) free = refl

  -- the inputs of a LUT have their values when it is looked up
  inputs_settled : (net : ℕ) (l : LutOf n.atoms net) → values_of (after (rank l.number)) l.makes.atom.ins ≡ values_of settled l.makes.atom.ins
  unfolding settled
  inputs_settled net l = same_values l.makes.atom.ins (after (rank l.number)) settled (λ conn has. by conn has (decide n keeps conn.net))
    where
      by : (conn : Conn) → Has l.makes.atom.ins conn → LutOf n.atoms conn.net ⊎ IsFree conn.net → after (rank l.number) conn.net ≡ settle conn.net (decide n keeps conn.net)
      by conn has (inl m) =
          let falls = rank_falls n keeps net l conn has m in
          stable (rank l.number) (suc (rank m.number)) conn.net m falls (omega arith) ∙ sym (settled_lut conn.net (decide n keeps conn.net) m)
      by conn has (inr free) = after_free (rank l.number) conn.net free ∙ sym (settled_free conn.net (decide n keeps conn.net) free)

  settled_is : (net : ℕ) (l : LutOf n.atoms net) → settled net ≡ looked_up l.makes.atom.table (values_of settled l.makes.atom.ins)
  unfolding settled
  settled_is net l =
      settled_lut net (decide n keeps net) l ∙ (after_lut (rank l.number) net l ∙
      ap (λ (vs : List Bool). looked_up l.makes.atom.table vs) (inputs_settled net l))

  maker_at : (atom : Atom) (out : Conn) → Has n.atoms atom → Has atom.outs out → (number : ℕ) × (place : ℕ) × (m : IsMaker n.atoms out.net number place) × (m.atom ≡ atom)
  maker_at atom out has has_out =
      let a = at_has n.atoms atom has in
      let k = at_has atom.outs out has_out in
      (a.0, k.0, record { atom = atom; there = a.1; conn = out; at = k.1; of_net = refl }, refl)

  is_valuation : IsValuation n given settled
  unfolding settled
  is_valuation = record {
    luts = λ atom out has is has_out.
        (let m = maker_at atom out has has_out in
        let l : LutOf n.atoms out.net = record { number = m.0; place = m.1; makes = m.2; lut = ap (λ (a : Atom). a.kind) m.3 ∙ is } in
        let at = is_looked_up l.makes.atom.table l.makes.atom.ins settled (wide out.net l) in
        let there = at ∙ ap Some (sym (settled_is out.net l)) in
        subst (λ (a : Atom). IsLookedUp a.table (values_of settled a.ins) (settled out.net)) m.3 there);
    others = λ atom out has other has_out.
        (let m = maker_at atom out has has_out in
        settled_free out.net (decide n keeps out.net)
        (λ l. other (ap (λ (a : Atom). a.kind) (sym m.3 ∙ one_atom n keeps out.net m.0 m.1 l.number l.place m.2 l.makes) ∙ l.lut)));
  }

  -- two valuations agree, rank by rank
  module _ (v w : NetValues) (is_v : IsValuation n given v) (is_w : IsValuation n given w) where
    agree_free : (net : ℕ) → net < length n.nets → IsFree net → v net ≡ w net
    agree_free net low free =
        let one = keeps.made net low in
        let m = one.makes in
        let has = has_at n.atoms one.number m.atom m.there in
        let out = has_out n.atoms net one.number one.place m in
        let other = λ (is : m.atom.kind ≡ Lut). free (record { number = one.number; place = one.place; makes = m; lut = is }) in
        let here = is_v.others m.atom m.conn has other out in
        let there = is_w.others m.atom m.conn has other out in
        ap v (sym m.of_net) ∙ (here ∙ (sym there ∙ ap w m.of_net))

    agree_lut : (net : ℕ) (l : LutOf n.atoms net) → values_of v l.makes.atom.ins ≡ values_of w l.makes.atom.ins → v net ≡ w net
    agree_lut net l same =
        let m = l.makes in
        let has = has_atom n.atoms net l in
        let out = has_out n.atoms net l.number l.place m in
        let here = is_v.luts m.atom m.conn has l.lut out in
        let there = is_w.luts m.atom m.conn has l.lut out in
        let both : Some (v m.conn.net) ≡ Some (w m.conn.net) = sym here ∙ (ap (λ (vs : List Bool). slice_get m.atom.table (index_of vs)) same ∙ there) in
        let equal : v m.conn.net ≡ w m.conn.net = cc in
        ap v (sym m.of_net) ∙ (equal ∙ ap w m.of_net)

    below : (k net : ℕ) → net < length n.nets → ((l : LutOf n.atoms net) → rank l.number < k) → v net ≡ w net
    below zero net low ranked = agree_free net low (λ l. (let r = ranked l in absurd (omega (arith, r))))
    below (suc k) net low ranked = by (decide n keeps net) (below k)
      where
        by : LutOf n.atoms net ⊎ IsFree net → ((other : ℕ) → other < length n.nets → ((l : LutOf n.atoms other) → rank l.number < k) → v other ≡ w other) → v net ≡ w net
        by (inl l) before = agree_lut net l (same_values l.makes.atom.ins v w (λ conn has.
            before conn.net (in_within (length n.nets) n.atoms keeps.within l.makes.atom conn (has_atom n.atoms net l) has)
            (λ m. (let falls = rank_falls n keeps net l conn has m in let r = ranked l in omega (arith, falls, r)))))
        by (inr free) before = agree_free net low free

    agree : (net : ℕ) → net < length n.nets → v net ≡ w net
    agree net low = by (decide n keeps net)
      where
        by : LutOf n.atoms net ⊎ IsFree net → v net ≡ w net
        by (inl l) = below (suc (rank l.number)) net low (λ m.
            (let same : m.number ≡ l.number = one_number n keeps net m.number m.place l.number l.place m.makes l.makes in
            subst (λ (k : ℕ). rank k < suc (rank l.number)) (sym same) (omega arith)))
        by (inr free) = agree_free net low free

  pub one_valuation : HasOneValuation n given
  one_valuation = record {
    values = settled;
    valuation = is_valuation;
    one = λ other is net low. agree other settled is is_valuation net low;
  }
