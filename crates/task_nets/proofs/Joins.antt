-- The nets of atoms that were looked at one by one.
use Rattle.std.proofs.Common.{◌≡◌, ◌<◌, ◌≤◌, ◌+◌, ◌-◌, ◌^◌, ◌⊎◌, ℕ, zero, suc, List, [], ◌∷◌, ◌++◌, Some, length, take, slice_get, get_or, refl, sym, ap, ◌∙◌, subst, inl, inr, arith}
use Rattle.std.specs.Prelude.{◌↔◌}
use Rattle.std.specs.List.{All}
use Rattle.std.proofs.lemmas.List.{take_more, take_all}
use Rattle.std.proofs.lemmas.Option.{slice_get-get_or}
use Rattle.vtr_base.specs.Lists.{Has}
use Rattle.list_laws.proofs.Members.{has_at, has_left, has_right, has_either, has_map, from_map, each_has}
use Rattle.list_laws.proofs.Places.{get_front, get_after, get_either}
use Rattle.net_types.specs.declared.atom.Atom.{Atom}
use Rattle.net_types.specs.declared.atom.Conn.{Conn}
use Rattle.net_types.specs.declared.parts.NetlistParts.{NetlistParts}
use Rattle.net_types.specs.Order.{nets_of}
use Rattle.net_types.specs.WellFormed.{IsNetlist}
use Rattle.task_types.specs.Nets.{NetSaid}
use Rattle.task_rules.specs.Joined.{IsListed, IsJoined}

abbrev pub AreJoined : NetSaid → List ℕ → List ℕ → Type 0
AreJoined n atoms nets = (k : ℕ) → Has nets k ↔ IsJoined n atoms k

pub none_joined : (n : NetSaid) → AreJoined n [] []
none_joined n k = (λ has. absurd has, λ h. absurd (let bad : ⊥ = cc (h.listed.listed) in bad))

only : (number other j : ℕ) → slice_get (number ∷ []) j ≡ Some other → other ≡ number
only number other zero at = cc at
only number other (suc j) at = absurd (let bad : ⊥ = cc at in bad)

module _ (n : NetSaid) (front : List ℕ) (number : ℕ) (atom : Atom) (is : slice_get n number ≡ Some atom) where
  last : IsListed n (front ++ number ∷ []) (length front) atom
  last = record { number = number; listed = get_after front [] number (length front) refl; is = is }

  old : (k : ℕ) → IsJoined n front k → IsJoined n (front ++ number ∷ []) k
  old k h = record {
    place = h.place;
    atom = h.atom;
    listed = record { number = h.listed.number; listed = get_front front (number ∷ []) h.place h.listed.number h.listed.listed; is = h.listed.is };
    conn = h.conn;
    of_atom = h.of_atom;
    of_net = h.of_net;
  }

  new : (k : ℕ) → Has (nets_of (atom.ins ++ atom.outs)) k → IsJoined n (front ++ number ∷ []) k
  new k has =
      let c = from_map (λ (c : Conn). c.net) (atom.ins ++ atom.outs) k has in
      record { place = length front; atom = atom; listed = last; conn = c.item; of_atom = c.has; of_net = sym c.is }

  back : (all : List ℕ) (k : ℕ) → (IsJoined n front k → Has all k) → IsJoined n (front ++ number ∷ []) k → Has all k ⊎ Has (nets_of (atom.ins ++ atom.outs)) k
  back all k known h = by (get_either front (number ∷ []) h.place h.listed.number h.listed.listed)
    where
      by : (slice_get front h.place ≡ Some h.listed.number) ⊎ ((j : ℕ) × (h.place ≡ length front + j) × (slice_get (number ∷ []) j ≡ Some h.listed.number)) →
          Has all k ⊎ Has (nets_of (atom.ins ++ atom.outs)) k
      by (inl at) =
          inl (known (record {
            place = h.place;
            atom = h.atom;
            listed = record { number = h.listed.number; listed = at; is = h.listed.is };
            conn = h.conn;
            of_atom = h.of_atom;
            of_net = h.of_net;
          }))
      by (inr r) =
          let same_number = only number h.listed.number r.0 r.2 in
          let e : Some h.atom ≡ Some atom = sym h.listed.is ∙ ap (λ (m : ℕ). slice_get n m) same_number ∙ is in
          let same : h.atom ≡ atom = cc e in
          let has = subst (λ (a : Atom). Has (a.ins ++ a.outs) h.conn) same h.of_atom in
          inr (subst (λ (m : ℕ). Has (nets_of (atom.ins ++ atom.outs)) m) h.of_net (has_map (λ (c : Conn). c.net) (atom.ins ++ atom.outs) h.conn has))

  -- the nets of one more atom
  pub joined_pushed : (all more : List ℕ) → AreJoined n front all → more ≡ (all ++ nets_of atom.ins) ++ nets_of atom.outs → AreJoined n (front ++ number ∷ []) more
  joined_pushed all more joined e k = (λ has. forth (has_either (all ++ nets_of atom.ins) (nets_of atom.outs) k (subst (λ l. Has l k) e has)), λ h. subst (λ l. Has l k) (sym e) (there (back all k ((joined k).1) h)))
    where
      own : Has (nets_of atom.ins) k ⊎ Has (nets_of atom.outs) k → IsJoined n (front ++ number ∷ []) k
      own (inl has) =
          let c = from_map (λ (c : Conn). c.net) atom.ins k has in
          new k (subst (λ (m : ℕ). Has (nets_of (atom.ins ++ atom.outs)) m) (sym c.is) (has_map (λ (c : Conn). c.net) (atom.ins ++ atom.outs) c.item (has_left atom.ins atom.outs c.item c.has)))
      own (inr has) =
          let c = from_map (λ (c : Conn). c.net) atom.outs k has in
          new k (subst (λ (m : ℕ). Has (nets_of (atom.ins ++ atom.outs)) m) (sym c.is) (has_map (λ (c : Conn). c.net) (atom.ins ++ atom.outs) c.item (has_right atom.ins atom.outs c.item c.has)))

      front_of : Has all k ⊎ Has (nets_of atom.ins) k → IsJoined n (front ++ number ∷ []) k
      front_of (inl has) = old k ((joined k).0 has)
      front_of (inr has) = own (inl has)

      forth : Has (all ++ nets_of atom.ins) k ⊎ Has (nets_of atom.outs) k → IsJoined n (front ++ number ∷ []) k
      forth (inl has) = front_of (has_either all (nets_of atom.ins) k has)
      forth (inr has) = own (inr has)

      conns : (c : Conn) → c.net ≡ k → Has atom.ins c ⊎ Has atom.outs c → Has ((all ++ nets_of atom.ins) ++ nets_of atom.outs) k
      conns c of (inl has) =
          has_left (all ++ nets_of atom.ins) (nets_of atom.outs) k
          (has_right all (nets_of atom.ins) k (subst (λ (m : ℕ). Has (nets_of atom.ins) m) of (has_map (λ (c : Conn). c.net) atom.ins c has)))
      conns c of (inr has) =
          has_right (all ++ nets_of atom.ins) (nets_of atom.outs) k (subst (λ (m : ℕ). Has (nets_of atom.outs) m) of (has_map (λ (c : Conn). c.net) atom.outs c has))

      there : Has all k ⊎ Has (nets_of (atom.ins ++ atom.outs)) k → Has ((all ++ nets_of atom.ins) ++ nets_of atom.outs) k
      there (inl has) = has_left (all ++ nets_of atom.ins) (nets_of atom.outs) k (has_left all (nets_of atom.ins) k has)
      there (inr has) =
          let c = from_map (λ (c : Conn). c.net) (atom.ins ++ atom.outs) k has in
          conns c.item (sym c.is) (has_either atom.ins atom.outs c.item c.has)

-- the same in a loop over the list
pub joined_more : (n : NetSaid) (atoms all more : List ℕ) (i d : ℕ) (atom : Atom) → i < length atoms → slice_get n (get_or atoms i d) ≡ Some atom →
    AreJoined n (take i atoms) all → more ≡ (all ++ nets_of atom.ins) ++ nets_of atom.outs → AreJoined n (take (i + 1) atoms) more
joined_more n atoms all more i d atom low is joined e =
    subst (λ (l : List ℕ). AreJoined n l more) (sym (take_more atoms i d low)) (joined_pushed n (take i atoms) (get_or atoms i d) atom is all more joined e)

pub joined_all : (n : NetSaid) (atoms all : List ℕ) (i : ℕ) → length atoms ≤ i → AreJoined n (take i atoms) all → AreJoined n atoms all
joined_all n atoms all i past joined = subst (λ (l : List ℕ). AreJoined n l all) (take_all i atoms past) joined

pub all_of : {X : Type 0} (P : X → Type 0) (xs : List X) → ((x : X) → Has xs x → P x) → All P xs
all_of P xs each k d low = each (get_or xs k d) (has_at xs k (get_or xs k d) (slice_get-get_or xs k d low))

-- nets have numbers of 32 bits
pub joined_low : (n : NetlistParts) (atoms : List ℕ) (k : ℕ) → IsNetlist n → IsJoined n.atoms atoms k → k < length n.nets
joined_low n atoms k law h = by (has_either h.atom.ins h.atom.outs h.conn h.of_atom)
  where
    own : All (λ (c : Conn). c.net < length n.nets) h.atom.ins × All (λ (c : Conn). c.net < length n.nets) h.atom.outs
    own = each_has (λ (a : Atom). All (λ (c : Conn). c.net < length n.nets) a.ins × All (λ (c : Conn). c.net < length n.nets) a.outs) n.atoms law.within h.atom (has_at n.atoms h.listed.number h.atom h.listed.is)

    by : Has h.atom.ins h.conn ⊎ Has h.atom.outs h.conn → k < length n.nets
    by (inl has) = subst (λ (m : ℕ). m < length n.nets) h.of_net (each_has (λ (c : Conn). c.net < length n.nets) h.atom.ins own.0 h.conn has)
    by (inr has) = subst (λ (m : ℕ). m < length n.nets) h.of_net (each_has (λ (c : Conn). c.net < length n.nets) h.atom.outs own.1 h.conn has)

pub joined_fits : (n : NetlistParts) (atoms nets : List ℕ) → IsNetlist n → AreJoined n.atoms atoms nets → All (λ k. k < 2 ^ 32 - 1) nets
joined_fits n atoms nets law joined =
    all_of (λ k. k < 2 ^ 32 - 1) nets (λ k has. let low = joined_low n atoms k law ((joined k).0 has) in omega (arith, low, law.nets.few))

-- the next number is one of the list
pub next_has : (xs : List ℕ) (i d : ℕ) → i < length xs → Has xs (get_or xs i d)
next_has xs i d low = has_at xs i (get_or xs i d) (slice_get-get_or xs i d low)

pub atom_there : (n seen : List Atom) (k : ℕ) (a : Atom) → seen ≡ n → k < length seen → a ≡ get_or seen k a → slice_get n k ≡ Some a
atom_there n seen k a same low is = ap (λ l. slice_get l k) (sym same) ∙ slice_get-get_or seen k a low ∙ ap Some (sym is)

pub next_low : (n seen : List Atom) (atoms : List ℕ) (i d : ℕ) → seen ≡ n → ((k : ℕ) → Has atoms k → k < length n) → i < length atoms → get_or atoms i d < length seen
next_low n seen atoms i d same there low = subst (λ (l : List Atom). get_or atoms i d < length l) (sym same) (there (get_or atoms i d) (next_has atoms i d low))
