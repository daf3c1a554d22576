-- What is asked for, connection by connection.
use Rattle.std.proofs.Common.{◌≡◌, ◌≢◌, ◌<◌, ◌≤◌, ◌+◌, ◌^◌, ◌⊎◌, ℕ, zero, suc, List, [], ◌∷◌, ◌++◌, Some, length, take, slice_get, get_or, refl, sym, ap, ◌∙◌, subst, inl, inr, arith}
use Rattle.std.specs.Prelude.{Any}
use Rattle.std.specs.List.{All}
use Rattle.std.specs.Option.{option_map}
use Rattle.std.proofs.lemmas.Bool.{cases_lt}
use Rattle.std.proofs.lemmas.List.{length_push}
use Rattle.std.proofs.lemmas.Option.{slice_get-get_or, slice_get_within, slice_get-map, get_or_from_slice_get}
use Rattle.std.proofs.lemmas.List.Sums.{sum_by-cons}
use Rattle.vtr_base.specs.Lists.{Has, IsFirstPlace}
use Rattle.list_laws.specs.Orders.{Ordered}
use Rattle.list_laws.proofs.Members.{has_at, has_left, has_last, has_pushed}
use Rattle.list_laws.proofs.Places.{get_either}
use Rattle.arch_types.specs.declared.block.AtomKind.{AtomKind}
use Rattle.arch_types.specs.declared.block.AtomKind.TheVariants as kind
use Rattle.net_types.specs.declared.atom.Atom.{Atom}
use Rattle.net_types.specs.declared.atom.Conn.{Conn}
use Rattle.net_types.specs.Order.{nets_of}
use Rattle.task_types.specs.declared.task.Need.{Need}
use Rattle.task_types.specs.declared.task.Need.TheVariants as need
use Rattle.task_types.specs.Nets.{NetSaid}
use Rattle.net_types.specs.declared.parts.NetlistParts.{NetlistParts}
use Rattle.net_types.specs.WellFormed.{IsNetlist, count_conns}
use Rattle.task_rules.specs.Joined.{IsListed, IsJoined}
use Rattle.task_rules.specs.Needs.{Spot, Asks, IsAsked, AreAsked, StandsBefore}
use Rattle.task_needs.specs.Plain.{Before}

abbrev pub spot_at : ℕ → ℕ → Spot
spot_at place input = record { place = place; input = input }

ordered_pushed : {X : Type 0} (R : X → X → Type 0) (xs : List X) (y : X) → Ordered R xs → ((x : X) → Has xs x → R x y) → Ordered R (xs ++ y ∷ [])
ordered_pushed R [] y order before = (λ z has. absurd has, tt)
ordered_pushed {X} R (x ∷ xs) y order before = (λ z has. by z (has_pushed xs y z has), ordered_pushed R xs y order.1 (λ z has. before z (inr has)))
  where
    by : (z : X) → Has xs z ⊎ (z ≡ y) → R x z
    by z (inl has) = order.0 z has
    by z (inr last) = subst (λ (w : X). R x w) (sym last) (before x (inl refl))

-- one connection further
further : (place input : ℕ) (spot : Spot) → Before place input spot → Before place (input + 1) spot
further place input spot (inl less) = inl less
further place input spot (inr (same, less)) = inr (same, omega (arith, less))

nearer : (place input : ℕ) (spot : Spot) → Before place (input + 1) spot → Before place input spot ⊎ (spot ≡ spot_at place input)
nearer place input spot (inl less) = inl (inl less)
nearer place input spot (inr (same, less)) = by (cases_lt spot.input input)
  where
    by : (spot.input < input) ⊎ (input ≤ spot.input) → Before place input spot ⊎ (spot ≡ spot_at place input)
    by (inl before) = inl (inr (same, before))
    by (inr past) =
        let last : spot.input ≡ input = omega (arith, less) in
        inr (ap (λ (p : ℕ). spot_at p spot.input) same ∙ ap (λ (i : ℕ). spot_at place i) last)

pub none_asked : (n : NetSaid) (atoms nets : List ℕ) → AreAsked n atoms nets (Before 0 0) []
none_asked n atoms nets = record {
  spots = [];
  within = λ spot has. absurd has;
  ascend = tt;
  long = refl;
  each = λ k spot asked at. absurd (let bad : ⊥ = cc at in bad);
  all = λ spot asked before is. absurd (nothing spot before);
}
  where
    nothing : (spot : Spot) → Before 0 0 spot → ⊥
    nothing spot (inl less) = omega (arith, less)
    nothing spot (inr (same, less)) = omega (arith, less)

module _ (n : NetSaid) (atoms nets : List ℕ) (place input : ℕ) (needs : List Need) (asked : AreAsked n atoms nets (Before place input) needs) where
  -- what is asked for at the next connection goes last
  pub asked_pushed : (next : Need) → IsAsked n atoms nets (spot_at place input) next → AreAsked n atoms nets (Before place (input + 1)) (needs ++ next ∷ [])
  asked_pushed next is = record {
    spots = asked.spots ++ spot_at place input ∷ [];
    within = λ spot has. inside spot (has_pushed asked.spots (spot_at place input) spot has);
    ascend = ordered_pushed StandsBefore asked.spots (spot_at place input) asked.ascend asked.within;
    long = omega (arith, length_push asked.spots (spot_at place input), length_push needs next, asked.long);
    each = λ k spot need at_spot at_need. each k spot need (get_either asked.spots (spot_at place input ∷ []) k spot at_spot) (get_either needs (next ∷ []) k need at_need);
    all = λ spot need before told. all spot need told (nearer place input spot before);
  }
    where
      inside : (spot : Spot) → Has asked.spots spot ⊎ (spot ≡ spot_at place input) → Before place (input + 1) spot
      inside spot (inl has) = further place input spot (asked.within spot has)
      inside spot (inr last) = subst (λ (s : Spot). Before place (input + 1) s) (sym last) (inr (refl, omega arith))

      single : {X : Type 0} (y x : X) (j : ℕ) → slice_get (y ∷ []) j ≡ Some x → x ≡ y
      single y x zero at = cc at
      single y x (suc j) at = absurd (let bad : ⊥ = cc at in bad)

      each : (k : ℕ) (spot : Spot) (need : Need) →
          (slice_get asked.spots k ≡ Some spot) ⊎ ((j : ℕ) × (k ≡ length asked.spots + j) × (slice_get (spot_at place input ∷ []) j ≡ Some spot)) →
          (slice_get needs k ≡ Some need) ⊎ ((j : ℕ) × (k ≡ length needs + j) × (slice_get (next ∷ []) j ≡ Some need)) → IsAsked n atoms nets spot need
      each k spot need (inl at_spot) (inl at_need) = asked.each k spot need at_spot at_need
      each k spot need (inl at_spot) (inr (j, past, at)) =
          absurd (let low = slice_get_within asked.spots k spot at_spot in omega (arith, low, past, asked.long))
      each k spot need (inr (j, past, at)) (inl at_need) =
          absurd (let low = slice_get_within needs k need at_need in omega (arith, low, past, asked.long))
      each k spot need (inr (i, past, at_spot)) (inr (j, beyond, at_need)) =
          subst (λ (s : Spot). IsAsked n atoms nets s need) (sym (single (spot_at place input) spot i at_spot))
          (subst (λ (x : Need). IsAsked n atoms nets (spot_at place input) x) (sym (single next need j at_need)) is)

      all : (spot : Spot) (need : Need) → IsAsked n atoms nets spot need → Before place input spot ⊎ (spot ≡ spot_at place input) → Has (asked.spots ++ spot_at place input ∷ []) spot
      all spot need told (inl before) = has_left asked.spots (spot_at place input ∷ []) spot (asked.all spot need before told)
      all spot need told (inr last) = subst (λ (s : Spot). Has (asked.spots ++ spot_at place input ∷ []) s) (sym last) (has_last asked.spots (spot_at place input))

  -- nothing is asked for at the next connection
  pub asked_passed : ((next : Need) → IsAsked n atoms nets (spot_at place input) next → ⊥) → AreAsked n atoms nets (Before place (input + 1)) needs
  asked_passed none = record {
    spots = asked.spots;
    within = λ spot has. further place input spot (asked.within spot has);
    ascend = asked.ascend;
    long = asked.long;
    each = asked.each;
    all = λ spot need before told. all spot need told (nearer place input spot before);
  }
    where
      all : (spot : Spot) (need : Need) → IsAsked n atoms nets spot need → Before place input spot ⊎ (spot ≡ spot_at place input) → Has asked.spots spot
      all spot need told (inl before) = asked.all spot need before told
      all spot need told (inr last) = absurd (none need (subst (λ (s : Spot). IsAsked n atoms nets s need) last told))

  -- the atom has no further connection
  pub asked_ended : (atom : Atom) → IsListed n atoms place atom → length atom.ins ≤ input → AreAsked n atoms nets (Before (place + 1) 0) needs
  asked_ended atom listed past = record {
    spots = asked.spots;
    within = λ spot has. on spot (asked.within spot has);
    ascend = asked.ascend;
    long = asked.long;
    each = asked.each;
    all = λ spot need before told. all spot need told before (cases_lt spot.place place);
  }
    where
      on : (spot : Spot) → Before place input spot → Before (place + 1) 0 spot
      on spot (inl less) = inl (omega (arith, less))
      on spot (inr (same, less)) = inl (omega (arith, same))

      own : (spot : Spot) (need : Need) → IsAsked n atoms nets spot need → spot.place ≡ place → spot.input < input
      own spot need told here =
          let same : Some told.listed.number ≡ Some listed.number = sym told.listed.listed ∙ ap (λ (p : ℕ). slice_get atoms p) here ∙ listed.listed in
          let number : told.listed.number ≡ listed.number = cc same in
          let e : Some told.atom ≡ Some atom = sym told.listed.is ∙ ap (λ (m : ℕ). slice_get n m) number ∙ listed.is in
          let atoms_same : told.atom ≡ atom = cc e in
          let low = slice_get_within told.atom.ins spot.input told.conn told.is_conn in
          let long = ap (λ (a : Atom). length a.ins) atoms_same in
          omega (arith, low, long, past)

      all : (spot : Spot) (need : Need) → IsAsked n atoms nets spot need → Before (place + 1) 0 spot → (spot.place < place) ⊎ (place ≤ spot.place) → Has asked.spots spot
      all spot need told before (inl less) = asked.all spot need (inl less) told
      all spot need told (inl less) (inr more) =
          let here : spot.place ≡ place = omega (arith, less, more) in asked.all spot need (inr (here, own spot need told here)) told
      all spot need told (inr (same, less)) (inr more) = absurd (omega (arith, less))

-- there is no further atom
pub asked_all : (n : NetSaid) (atoms nets : List ℕ) (place : ℕ) (needs : List Need) → AreAsked n atoms nets (Before place 0) needs → length atoms ≤ place → AreAsked n atoms nets (λ spot. Unit {0}) needs
asked_all n atoms nets place needs asked past = record {
  spots = asked.spots;
  within = λ spot has. tt;
  ascend = asked.ascend;
  long = asked.long;
  each = asked.each;
  all = λ spot need any told.
      (let low = slice_get_within atoms spot.place told.listed.number told.listed.listed in
      asked.all spot need (inl (omega (arith, low, past))) told);
}

-- what the atom at that place asks for

same_atom : (n : NetSaid) (atoms : List ℕ) (place : ℕ) (a b : Atom) → IsListed n atoms place a → IsListed n atoms place b → a ≡ b
same_atom n atoms place a b la lb =
    let same : Some la.number ≡ Some lb.number = sym la.listed ∙ lb.listed in
    let number : la.number ≡ lb.number = cc same in
    let e : Some a ≡ Some b = sym la.is ∙ ap (λ (m : ℕ). slice_get n m) number ∙ lb.is in
    cc e

asks_by : (k : AtomKind) (conns : List Conn) (spot : Spot) (number net : ℕ) (asked : Need) → (k ≡ kind.Lut → IsFirstPlace (nets_of conns) number spot.input) →
    (k ≡ kind.Lut → asked ≡ need.LutNet spot.place net) → (k ≢ kind.Lut → asked ≡ need.Input spot.place spot.input net) → Asks k conns spot number net asked
asks_by kind.Lut conns spot number net asked first lut other = (first refl, lut refl)
asks_by kind.InPad conns spot number net asked first lut other = other (λ e. let bad : ⊥ = cc e in bad)
asks_by kind.OutPad conns spot number net asked first lut other = other (λ e. let bad : ⊥ = cc e in bad)
asks_by kind.Latch conns spot number net asked first lut other = other (λ e. let bad : ⊥ = cc e in bad)
asks_by (kind.Cell model) conns spot number net asked first lut other = other (λ e. let bad : ⊥ = cc e in bad)

asks_first : (k : AtomKind) (conns : List Conn) (spot : Spot) (number net : ℕ) (asked : Need) → k ≡ kind.Lut → Asks k conns spot number net asked → IsFirstPlace (nets_of conns) number spot.input
asks_first kind.Lut conns spot number net asked e asks = asks.0
asks_first kind.InPad conns spot number net asked e asks = absurd (let bad : ⊥ = cc e in bad)
asks_first kind.OutPad conns spot number net asked e asks = absurd (let bad : ⊥ = cc e in bad)
asks_first kind.Latch conns spot number net asked e asks = absurd (let bad : ⊥ = cc e in bad)
asks_first (kind.Cell model) conns spot number net asked e asks = absurd (let bad : ⊥ = cc e in bad)

net_at : (conns : List Conn) (k : ℕ) (conn : Conn) → slice_get conns k ≡ Some conn → slice_get (nets_of conns) k ≡ Some conn.net
net_at conns k conn at = slice_get-map (λ (c : Conn). c.net) conns k ∙ ap (option_map (λ (c : Conn). c.net)) at

at_net : (conns : List Conn) (k net : ℕ) → slice_get (nets_of conns) k ≡ Some net → (conn : Conn) × (slice_get conns k ≡ Some conn) × (conn.net ≡ net)
at_net [] k net at = absurd (let bad : ⊥ = cc at in bad)
at_net (c ∷ conns) zero net at = (c, refl, cc at)
at_net (c ∷ conns) (suc k) net at = at_net conns k net at

taken : {X : Type 0} (xs : List X) (i k : ℕ) (x : X) → slice_get (take i xs) k ≡ Some x → (slice_get xs k ≡ Some x) × (k < i)
taken xs zero k x at = absurd (let bad : ⊥ = cc at in bad)
taken [] (suc i) k x at = absurd (let bad : ⊥ = cc at in bad)
taken (y ∷ ys) (suc i) zero x at = (at, omega arith)
taken (y ∷ ys) (suc i) (suc k) x at = let r = taken ys i k x at in (r.0, omega (arith, r.1))

to_taken : {X : Type 0} (xs : List X) (i k : ℕ) (x : X) → slice_get xs k ≡ Some x → k < i → slice_get (take i xs) k ≡ Some x
to_taken xs zero k x at low = absurd (omega (arith, low))
to_taken [] (suc i) k x at low = absurd (let bad : ⊥ = cc at in bad)
to_taken (y ∷ ys) (suc i) zero x at low = at
to_taken (y ∷ ys) (suc i) (suc k) x at low = to_taken ys i k x at (omega (arith, low))

abbrev pub IsKnown : AtomKind → List Conn → ℕ → Type 0
IsKnown k before net = (k ≡ kind.Lut) × Any (λ (c : Conn). c.net ≡ net) before

module _ (n : NetSaid) (atoms nets : List ℕ) (place input : ℕ) (atom : Atom) (conn : Conn) (listed : IsListed n atoms place atom) (at : slice_get atom.ins input ≡ Some conn) where
  pub asked_here : (net : ℕ) (next : Need) → (IsKnown atom.kind (take input atom.ins) conn.net → ⊥) → slice_get nets net ≡ Some conn.net →
      (atom.kind ≡ kind.Lut → next ≡ need.LutNet place net) → (atom.kind ≢ kind.Lut → next ≡ need.Input place input net) → IsAsked n atoms nets (spot_at place input) next
  asked_here net next fresh is_net lut other = record {
    atom = atom;
    listed = listed;
    conn = conn;
    is_conn = at;
    net = net;
    is_net = is_net;
    asks = asks_by atom.kind atom.ins (spot_at place input) conn.net net next first lut other;
  }
    where
      first : atom.kind ≡ kind.Lut → IsFirstPlace (nets_of atom.ins) conn.net input
      first is_lut = record {
        there = net_at atom.ins input conn at;
        first = λ k low found.
            (let c = at_net atom.ins k conn.net found in
            let here = to_taken atom.ins input k c.0 c.1 low in
            fresh (is_lut, (k, c.0, slice_get_within (take input atom.ins) k c.0 here, get_or_from_slice_get (take input atom.ins) k c.0 c.0 here, c.2)));
      }

  pub not_asked : IsKnown atom.kind (take input atom.ins) conn.net → (next : Need) → IsAsked n atoms nets (spot_at place input) next → ⊥
  not_asked (is_lut, (k, c, low, is, of)) next told =
      let same = same_atom n atoms place told.atom atom told.listed listed in
      let seen = taken atom.ins input k c (slice_get-get_or (take input atom.ins) k c low ∙ ap Some is) in
      let first = asks_first told.atom.kind told.atom.ins (spot_at place input) told.conn.net told.net next (ap (λ (a : Atom). a.kind) same ∙ is_lut) told.asks in
      let e : Some told.conn ≡ Some conn = sym told.is_conn ∙ ap (λ (a : Atom). slice_get a.ins input) same ∙ at in
      let conns : told.conn ≡ conn = cc e in
      first.first k seen.1
      (ap (λ (a : Atom). slice_get (nets_of a.ins) k) same ∙ net_at atom.ins k c seen.0 ∙ ap Some (of ∙ ap (λ (x : Conn). x.net) (sym conns)))

-- the loop over the inputs of an atom

pub conn_at : (conns seen : List Conn) (k : ℕ) (c : Conn) → seen ≡ conns → k < length seen → c ≡ get_or seen k c → slice_get conns k ≡ Some c
conn_at conns seen k c same low is = ap (λ (l : List Conn). slice_get l k) (sym same) ∙ slice_get-get_or seen k c low ∙ ap Some (sym is)

-- the loop over the atoms

pub next_low : (n seen : List Atom) (atoms : List ℕ) (i d : ℕ) → seen ≡ n → ((k : ℕ) → Has atoms k → k < length n) → i < length atoms → get_or atoms i d < length seen
next_low n seen atoms i d same there low =
    subst (λ (l : List Atom). get_or atoms i d < length l) (sym same) (there (get_or atoms i d) (has_at atoms i (get_or atoms i d) (slice_get-get_or atoms i d low)))

pub listed_at : (n seen : List Atom) (atoms : List ℕ) (i d : ℕ) (a : Atom) → seen ≡ n → ((k : ℕ) → Has atoms k → k < length n) → i < length atoms → a ≡ get_or seen (get_or atoms i d) a → IsListed n atoms i a
listed_at n seen atoms i d a same there low is = record {
  number = get_or atoms i d;
  listed = slice_get-get_or atoms i d low;
  is = ap (λ (l : List Atom). slice_get l (get_or atoms i d)) (sym same) ∙ slice_get-get_or seen (get_or atoms i d) a (next_low n seen atoms i d same there low) ∙ ap Some (sym is);
}

count_more : (a : Atom) (atoms : List Atom) → count_conns (a ∷ atoms) ≡ length a.ins + length a.outs + count_conns atoms
count_more a atoms = sum_by-cons (λ (x : Atom). length x.ins + length x.outs) a atoms

few_ins : (n : List Atom) (k : ℕ) (a : Atom) → slice_get n k ≡ Some a → length a.ins ≤ count_conns n
few_ins [] k a at = absurd (let bad : ⊥ = cc at in bad)
few_ins (x ∷ xs) zero a at =
    let same : x ≡ a = cc at in
    let long = ap (λ (y : Atom). length y.ins) same in
    omega (arith, long, count_more x xs)
few_ins (x ∷ xs) (suc k) a at = omega (arith, few_ins xs k a at, count_more x xs)

pub short_ins : (n : NetlistParts) (k : ℕ) (a : Atom) → IsNetlist n → slice_get n.atoms k ≡ Some a → length a.ins < 2 ^ 32
short_ins n k a law at = let few = few_ins n.atoms k a at in omega (arith, few, law.atoms.few_conns)

pub joins_all : (n : NetSaid) (atoms nets : List ℕ) (place : ℕ) (a : Atom) → IsListed n atoms place a → ((k : ℕ) → IsJoined n atoms k → Has nets k) → All (λ (c : Conn). Has nets c.net) a.ins
joins_all n atoms nets place a listed joined = λ k d low.
    (let has = has_at a.ins k (get_or a.ins k d) (slice_get-get_or a.ins k d low) in
    joined (get_or a.ins k d).net (record {
      place = place;
      atom = a;
      listed = listed;
      conn = get_or a.ins k d;
      of_atom = has_left a.ins a.outs (get_or a.ins k d) has;
      of_net = refl;
    }))
