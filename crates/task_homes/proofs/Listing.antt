-- Leaves that are listed one by one.
use Rattle.std.proofs.Common.{◌≡◌, ◌<◌, ◌≤◌, ◌+◌, ◌⊎◌, ℕ, zero, suc, List, [], ◌∷◌, ◌++◌, Option, Some, None, length, take, slice_get, get_or, refl, sym, ap, subst, inl, inr, arith}
use Rattle.std.proofs.lemmas.Bool.{cases_lt}
use Rattle.std.proofs.lemmas.List.{take_more, length_push}
use Rattle.std.proofs.lemmas.Option.{slice_get_within, slice_get-get_or}
use Rattle.std.specs.Option.{option_and_then}
use Rattle.vtr_base.specs.Lists.{Has}
use Rattle.list_laws.proofs.Members.{has_at, has_left, has_last, has_pushed}
use Rattle.list_laws.proofs.Places.{get_either}
use Rattle.net_types.specs.declared.atom.Atom.{Atom}
use Rattle.arch_types.specs.Address.{Address, at}
use Rattle.pb_expand.specs.declared.number.PbIx.{PbIx}
use Rattle.pb_expand.specs.Graph.{Graph, pb_ix}
use Rattle.leaf_homes.specs.Leaves.{CanHold}
use Rattle.task_types.specs.Tasks.{Ascend}
use Rattle.task_homes.specs.Homes.{IsLeafList, AreHomes}

-- the leaves below that number
pub record ListsBelow (g : Graph) (n : List Atom) (number limit : ℕ) (leaves : List PbIx) : Type 0 where
  pub ascend : Ascend leaves
  pub low : (leaf : PbIx) → Has leaves leaf → leaf.0 < limit
  pub holds : (leaf : PbIx) → Has leaves leaf → CanHold n g number leaf.0
  pub all : (leaf : ℕ) → leaf < limit → CanHold n g number leaf → Has leaves (pb_ix leaf)

pub none_listed : (g : Graph) (n : List Atom) (number : ℕ) → ListsBelow g n number 0 []
none_listed g n number = record {
  ascend = record { each = λ i j a b less at_i at_j. absurd (let bad : ⊥ = cc at_i in bad) };
  low = λ leaf has. absurd has;
  holds = λ leaf has. absurd has;
  all = λ leaf low can. absurd (omega (arith, low));
}

module _ (g : Graph) (n : List Atom) (number limit : ℕ) (leaves : List PbIx) (lists : ListsBelow g n number limit leaves) where
  pub listed_more : CanHold n g number limit → (more : List PbIx) → more ≡ leaves ++ pb_ix limit ∷ [] → ListsBelow g n number (limit + 1) more
  listed_more can more e = subst (λ (l : List PbIx). ListsBelow g n number (limit + 1) l) (sym e) (record {
    ascend = record { each = λ i j a b less at_i at_j. rises i j a b less (get_either leaves (pb_ix limit ∷ []) i a at_i) (get_either leaves (pb_ix limit ∷ []) j b at_j) };
    low = λ leaf has. low leaf (has_pushed leaves (pb_ix limit) leaf has);
    holds = λ leaf has. holds leaf (has_pushed leaves (pb_ix limit) leaf has);
    all = λ leaf below can_hold. all leaf below can_hold (cases_lt leaf limit);
  })
    where
      single : (j : ℕ) (b : PbIx) → slice_get (pb_ix limit ∷ []) j ≡ Some b → (b ≡ pb_ix limit) × (j ≡ 0)
      single zero b at = (cc at, refl)
      single (suc j) b at = absurd (let bad : ⊥ = cc at in bad)

      rises : (i j : ℕ) (a b : PbIx) → i < j →
          (slice_get leaves i ≡ Some a) ⊎ ((k : ℕ) × (i ≡ length leaves + k) × (slice_get (pb_ix limit ∷ []) k ≡ Some a)) →
          (slice_get leaves j ≡ Some b) ⊎ ((k : ℕ) × (j ≡ length leaves + k) × (slice_get (pb_ix limit ∷ []) k ≡ Some b)) → a.0 < b.0
      rises i j a b less (inl at_i) (inl at_j) = lists.ascend.each i j a b less at_i at_j
      rises i j a b less (inl at_i) (inr (k, past, at_j)) =
          let below = lists.low a (has_at leaves i a at_i) in
          let last = ap (λ (x : PbIx). x.0) (single k b at_j).0 in
          omega (arith, below, last)
      rises i j a b less (inr (k, past, at_i)) (inl at_j) =
          absurd (let within = slice_get_within leaves j b at_j in omega (arith, less, past, within))
      rises i j a b less (inr (k, past, at_i)) (inr (m, beyond, at_j)) =
          absurd (let first = (single k a at_i).1 in let second = (single m b at_j).1 in omega (arith, less, past, beyond, first, second))

      low : (leaf : PbIx) → Has leaves leaf ⊎ (leaf ≡ pb_ix limit) → leaf.0 < limit + 1
      low leaf (inl has) = let l = lists.low leaf has in omega (arith, l)
      low leaf (inr last) = let l = ap (λ (x : PbIx). x.0) last in omega (arith, l)

      holds : (leaf : PbIx) → Has leaves leaf ⊎ (leaf ≡ pb_ix limit) → CanHold n g number leaf.0
      holds leaf (inl has) = lists.holds leaf has
      holds leaf (inr last) = subst (λ (x : PbIx). CanHold n g number x.0) (sym last) can

      all : (leaf : ℕ) → leaf < limit + 1 → CanHold n g number leaf → (leaf < limit) ⊎ (limit ≤ leaf) → Has (leaves ++ pb_ix limit ∷ []) (pb_ix leaf)
      all leaf below can_hold (inl less) = has_left leaves (pb_ix limit ∷ []) (pb_ix leaf) (lists.all leaf less can_hold)
      all leaf below can_hold (inr past) =
          let last : limit ≡ leaf = omega (arith, below, past) in
          subst (λ (k : ℕ). Has (leaves ++ pb_ix limit ∷ []) (pb_ix k)) last (has_last leaves (pb_ix limit))

  pub listed_same : (CanHold n g number limit → ⊥) → ListsBelow g n number (limit + 1) leaves
  listed_same cannot = record {
    ascend = lists.ascend;
    low = λ leaf has. let l = lists.low leaf has in omega (arith, l);
    holds = lists.holds;
    all = λ leaf below can. all leaf below can (cases_lt leaf limit);
  }
    where
      all : (leaf : ℕ) → leaf < limit + 1 → CanHold n g number leaf → (leaf < limit) ⊎ (limit ≤ leaf) → Has leaves (pb_ix leaf)
      all leaf below can (inl less) = lists.all leaf less can
      all leaf below can (inr past) = let last : leaf ≡ limit = omega (arith, below, past) in absurd (cannot (subst (λ (k : ℕ). CanHold n g number k) last can))

held_within : (g : Graph) (n : List Atom) (number leaf : ℕ) → CanHold n g number leaf → leaf < length g.instances
held_within g n number leaf can = by (slice_get g.instances leaf) refl can.held.is_block
  where
    by : (o : Option Address) → slice_get g.instances leaf ≡ o → option_and_then (λ (address : Address). at g.root address) o ≡ Some can.held.block → leaf < length g.instances
    by None e is = absurd (let bad : ⊥ = cc is in bad)
    by (Some address) e is = slice_get_within g.instances leaf address e

pub listed_all : (g : Graph) (n : List Atom) (number limit : ℕ) (leaves : List PbIx) → length g.instances ≤ limit → ListsBelow g n number limit leaves → IsLeafList g n number leaves
listed_all g n number limit leaves past lists = record {
  ascend = lists.ascend;
  each = λ leaf. (λ has. lists.holds (pb_ix leaf) has, λ can. lists.all leaf (let low = held_within g n number leaf can in omega (arith, low, past)) can);
}

-- atom by atom

pub no_homes : (g : Graph) (n : List Atom) → AreHomes g n [] []
no_homes g n = record { long = refl; each = λ place number leaves at. absurd (let bad : ⊥ = cc at in bad) }

pub homes_more : (g : Graph) (n : List Atom) (atoms : List ℕ) (homes more : List (List PbIx)) (i d : ℕ) (leaves : List PbIx) → i < length atoms → IsLeafList g n (get_or atoms i d) leaves →
    AreHomes g n (take i atoms) homes → more ≡ homes ++ leaves ∷ [] → AreHomes g n (take (i + 1) atoms) more
homes_more g n atoms homes more i d leaves low last are e =
    subst (λ (l : List ℕ). AreHomes g n l more) (sym (take_more atoms i d low))
    (subst (λ (l : List (List PbIx)). AreHomes g n (take i atoms ++ get_or atoms i d ∷ []) l) (sym e) here)
  where
    single : {X : Type 0} (y x : X) (j : ℕ) → slice_get (y ∷ []) j ≡ Some x → x ≡ y
    single y x zero at = cc at
    single y x (suc j) at = absurd (let bad : ⊥ = cc at in bad)

    each : (place number : ℕ) (own : List PbIx) →
        (slice_get (take i atoms) place ≡ Some number) ⊎ ((k : ℕ) × (place ≡ length (take i atoms) + k) × (slice_get (get_or atoms i d ∷ []) k ≡ Some number)) →
        (slice_get homes place ≡ Some own) ⊎ ((k : ℕ) × (place ≡ length homes + k) × (slice_get (leaves ∷ []) k ≡ Some own)) → IsLeafList g n number own
    each place number own (inl at_atom) (inl at_home) = are.each place number own at_atom at_home
    each place number own (inl at_atom) (inr (k, past, at_home)) =
        absurd (let within = slice_get_within (take i atoms) place number at_atom in omega (arith, within, past, are.long))
    each place number own (inr (k, past, at_atom)) (inl at_home) =
        absurd (let within = slice_get_within homes place own at_home in omega (arith, within, past, are.long))
    each place number own (inr (k, past, at_atom)) (inr (m, beyond, at_home)) =
        subst (λ (x : ℕ). IsLeafList g n x own) (sym (single (get_or atoms i d) number k at_atom))
        (subst (λ (x : List PbIx). IsLeafList g n (get_or atoms i d) x) (sym (single leaves own m at_home)) last)

    here : AreHomes g n (take i atoms ++ get_or atoms i d ∷ []) (homes ++ leaves ∷ [])
    here = record {
      long = omega (arith, length_push (take i atoms) (get_or atoms i d), length_push homes leaves, are.long);
      each = λ place number own at_atom at_home. each place number own (get_either (take i atoms) (get_or atoms i d ∷ []) place number at_atom) (get_either homes (leaves ∷ []) place own at_home);
    }

pub next_low : (atoms : List ℕ) (limit i d : ℕ) → ((k : ℕ) → Has atoms k → k < limit) → i < length atoms → get_or atoms i d < limit
next_low atoms limit i d there low = there (get_or atoms i d) (has_at atoms i (get_or atoms i d) (slice_get-get_or atoms i d low))
