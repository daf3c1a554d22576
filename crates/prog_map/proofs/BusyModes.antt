-- The modes of an instance in which nothing stands have no sites.
use Rattle.std.proofs.Common.{◌≡◌, ◌+◌, ◌<◌, ◌≤◌, ◌==◌, ◌⊎◌, inl, inr, ℕ, zero, suc, Bool, true, false, List, [], ◌∷◌, ◌++◌, Option, Some, None, length, map, filter, get_or, refl, sym, ap, subst, ◌∙◌, arith, below_more, length-append, nat_eq}
use Rattle.std.specs.Prelude.{slice_get, ◌↔◌, All}
use Rattle.std.specs.List.{flat_map, Contains, dedup}
use Rattle.std.specs.List.Sorted.{IsStrictlyIncreasing, IsPermutation}
use Rattle.std.specs.Option.{option_map_or}
use Rattle.std.proofs.lemmas.Option.{slice_get_within, slice_get-get_or, get_or_from_slice_get}
use Rattle.std.proofs.lemmas.List.Kept.{AllPairs-from_increasing, Contains-dedup_nat, Contains-from_dedup}
use Rattle.std.proofs.lemmas.List.Sorted.{Contains-permutation, IsPermutation-sym}
use Rattle.std.proofs.lemmas.List.FromFn.{length-map-range_with_len, get_or-map-range_with_len}
use Rattle.std.proofs.lemmas.Bool.Decides.{nat_tests}
use Rattle.vtr_base.specs.Lists.{Has, up_from}
use Rattle.flat_tables.specs.Groups.{items_of, groups_of}
use Rattle.list_laws.specs.Orders.{Ordered, StandOrdered}
use Rattle.list_laws.proofs.Members.{at_has, has_at, has_left, has_right, has_either, has_last, has_pushed, has_map, from_map, has_filter, from_filter}
use Rattle.list_laws.proofs.Sorting.{ordered_of}
use Rattle.arch_types.specs.Address.{Address}
use Rattle.pb_expand.specs.declared.number.Edge.{Edge}
use Rattle.pb_expand.specs.declared.number.Step.{Step}
use Rattle.pb_expand.specs.Graph.{Graph, LeadsTo}
use Rattle.pb_expand.specs.Expansion.{IsExpansion, IsEdgeOf}
use Rattle.prog_map.specs.declared.groups.ModeAt.{ModeAt}
use Rattle.prog_map.specs.declared.choice.LSite.{LSite}
use Rattle.prog_map.specs.Leaves.{kind_at}
use Rattle.prog_map.specs.Groups.{same_mode, mode_ix}
use Rattle.prog_map.specs.Order.{is_step, hangs, hangs_at, kids, first_edges, end_site, count_of, HasParent}
use Rattle.prog_map.specs.Levels.{mode_sites}
use Rattle.prog_map.specs.Tables.{HasKid, HasEdge, IsBusy, owner_mode, group_at, AreBusyIn}
use Rattle.prog_map.proofs.Places.{IsPlace, place_is}
use Rattle.prog_map.proofs.Hanging.{hangs_is, root_hangs, is_itself}
use Rattle.prog_map.proofs.Instances.{mode_there}
use Rattle.prog_map.proofs.SiteOrder.{mode_counted, opens_is}
use Rattle.prog_map.proofs.Climbs.{some_injective}
use Rattle.prog_map.proofs.SiteExact.{edge_mode_there}

-- the pairs of the first n instances
pub record AreKidPairs (g : Graph) (n : ℕ) (pairs : List (ℕ × ℕ)) : Type 0 where
  pub few : length pairs ≤ n
  pub forth : (pb mode : ℕ) → Has pairs (pb, mode) → HasKid g pb mode
  pub back : (k pb mode : ℕ) → k < n → hangs_at g k pb mode ≡ true → Has pairs (pb, mode)

pub no_kid_pairs : (g : Graph) → AreKidPairs g 0 []
no_kid_pairs g = record {
  few = omega arith;
  forth = λ pb mode h. absurd h;
  back = λ k pb mode less t. absurd (omega (arith, less));
}

pub root_pairs : (g : Graph) (n : ℕ) (pairs : List (ℕ × ℕ)) → IsExpansion g → n ≡ 0 → AreKidPairs g n pairs → AreKidPairs g (n + 1) pairs
root_pairs g n pairs law root are = record {
  few = let f = are.few in omega (arith, f);
  forth = are.forth;
  back = λ k pb mode less t.
      let first : k ≡ 0 = omega (arith, root, less) in
      let none : hangs_at g k pb mode ≡ false = root_hangs g k law first pb mode in
      let never : true ≡ false = sym t ∙ none in absurd (cc);
}

pub more_pairs : (g : Graph) (n : ℕ) (s : Step) (pairs : List (ℕ × ℕ)) → IsExpansion g → LeadsTo g.instances s n → AreKidPairs g n pairs →
    AreKidPairs g (n + 1) (pairs ++ (s.parent.0, s.mode) ∷ [])
more_pairs g n s pairs law to are = record {
  few = let f = are.few in simp length-append (omega (arith, f));
  forth = λ pb mode h. forth pb mode (has_pushed pairs (s.parent.0, s.mode) (pb, mode) h);
  back = λ k pb mode less t. back k less pb mode t;
}
  where
    at : ModeAt
    at = record { pb = s.parent; mode = s.mode }

    is : (pb mode : ℕ) → same_mode at (mode_ix pb mode) ≡ hangs_at g n pb mode
    is = hangs_is g s n at law to refl refl

    forth : (pb mode : ℕ) → Has pairs (pb, mode) ⊎ ◌≡◌ {A = ℕ × ℕ} (pb, mode) (s.parent.0, s.mode) → HasKid g pb mode
    forth pb mode (inl old) = are.forth pb mode old
    forth pb mode (inr new) =
        let pbs : s.parent.0 ≡ pb = sym (ap (λ (p : ℕ × ℕ). p.0) new) in
        let modes : s.mode ≡ mode = sym (ap (λ (p : ℕ × ℕ). p.1) new) in
        let same : same_mode at (mode_ix pb mode) ≡ true = grind (arith, nat_tests) in
        record { number = n; hangs = sym (is pb mode) ∙ same }

    here : (pb mode : ℕ) → hangs_at g n pb mode ≡ true → Has (pairs ++ (s.parent.0, s.mode) ∷ []) (pb, mode)
    here pb mode t =
        let same : same_mode at (mode_ix pb mode) ≡ true = is pb mode ∙ t in
        let pbs : s.parent.0 ≡ pb = grind (arith, nat_tests) in
        let modes : s.mode ≡ mode = grind (arith, nat_tests) in
        subst (λ m. Has (pairs ++ (s.parent.0, s.mode) ∷ []) (pb, m)) modes
        (subst (λ p. Has (pairs ++ (s.parent.0, s.mode) ∷ []) (p, s.mode)) pbs (has_last pairs (s.parent.0, s.mode)))

    back : (k : ℕ) → k < n + 1 → (pb mode : ℕ) → hangs_at g k pb mode ≡ true → Has (pairs ++ (s.parent.0, s.mode) ∷ []) (pb, mode)
    back =
        below_more (λ k. (pb mode : ℕ) → hangs_at g k pb mode ≡ true → Has (pairs ++ (s.parent.0, s.mode) ∷ []) (pb, mode)) n
        (λ k less pb mode t. has_left pairs ((s.parent.0, s.mode) ∷ []) (pb, mode) (are.back k pb mode less t)) here

-- an instance that hangs on another, and the other, are there
kid_there : (g : Graph) (pb mode : ℕ) (kid : HasKid g pb mode) → kid.number < length g.instances
kid_there g pb mode kid = by (slice_get g.instances kid.number) refl kid.hangs
  where
    by : (o : Option Address) → slice_get g.instances kid.number ≡ o → option_map_or (λ address. hangs g pb mode address) o false ≡ true → kid.number < length g.instances
    by None e t = absurd (cc)
    by (Some address) e t = slice_get_within g.instances kid.number address e

kid_parent : (g : Graph) (pb mode : ℕ) → HasKid g pb mode → pb < length g.instances
kid_parent g pb mode kid = by (slice_get g.instances kid.number) kid.hangs
  where
    above : (address : Address) (o : Option Address) → slice_get g.instances pb ≡ o → option_map_or (λ up. is_step up mode address) o false ≡ true → pb < length g.instances
    above address None e t = absurd (cc)
    above address (Some up) e t = slice_get_within g.instances pb up e

    by : (o : Option Address) → option_map_or (λ address. hangs g pb mode address) o false ≡ true → pb < length g.instances
    by None t = absurd (cc)
    by (Some address) t = above address (slice_get g.instances pb) refl t

pub all_pairs : (g : Graph) (n : ℕ) (pairs : List (ℕ × ℕ)) → length g.instances ≤ n → AreKidPairs g n pairs → (pb mode : ℕ) → Has pairs (pb, mode) ↔ HasKid g pb mode
all_pairs g n pairs whole are pb mode = (
  are.forth pb mode,
  λ kid. let inside = kid_there g pb mode kid in are.back kid.number pb mode (omega (arith, inside, whole)) kid.hangs,
)

edge_owner : (g : Graph) (e : Edge) → IsExpansion g → Has g.edges e → e.owner.0 < length g.instances
edge_owner g e law has = let is : IsEdgeOf g e = law.has_edges.each e has in slice_get_within g.instances e.owner.0 is.address is.is_owner

-- where all pairs stand
module _ (g : Graph) (law : IsExpansion g) (kids_in : List (ℕ × ℕ)) (each : (pb mode : ℕ) → Has kids_in (pb, mode) ↔ HasKid g pb mode) where
  busy_pairs : (pb mode : ℕ) → Has (kids_in ++ map owner_mode g.edges) (pb, mode) → IsBusy g pb mode
  busy_pairs pb mode has =
      elim (has_either kids_in (map owner_mode g.edges) (pb, mode) has) [
        | inl kid ↦ inl ((each pb mode).0 kid)
        | inr later ↦
            let m = from_map owner_mode g.edges (pb, mode) later in
            inr (record {
              edge = m.item;
              there = m.has;
              owner = sym (ap (λ (p : ℕ × ℕ). p.0) m.is);
              in_mode = sym (ap (λ (p : ℕ × ℕ). p.1) m.is);
            })
      ]

  pairs_busy : (pb mode : ℕ) → IsBusy g pb mode → Has (kids_in ++ map owner_mode g.edges) (pb, mode)
  pairs_busy pb mode (inl kid) = has_left kids_in (map owner_mode g.edges) (pb, mode) ((each pb mode).1 kid)
  pairs_busy pb mode (inr e) =
      has_right kids_in (map owner_mode g.edges) (pb, mode)
      (subst (λ m. Has (map owner_mode g.edges) (pb, m)) e.in_mode
      (subst (λ p. Has (map owner_mode g.edges) (p, e.edge.mode)) e.owner (has_map owner_mode g.edges e.edge e.there)))

  busy_inside : (pb mode : ℕ) → IsBusy g pb mode → pb < length g.instances
  busy_inside pb mode (inl kid) = kid_parent g pb mode kid
  busy_inside pb mode (inr e) = subst (λ p. p < length g.instances) e.owner (edge_owner g e.edge law e.there)

  pub keys_inside : (pairs : List (ℕ × ℕ)) (n : ℕ) → pairs ≡ kids_in ++ map owner_mode g.edges → n ≡ length g.instances → All (λ p. p.0 < n) pairs
  keys_inside pairs n are size k d inside =
      let p : ℕ × ℕ = get_or pairs k d in
      let has : Has pairs p = has_at pairs k p (slice_get-get_or pairs k d inside) in
      let less : p.0 < length g.instances = busy_inside p.0 p.1 (busy_pairs p.0 p.1 (subst (λ l. Has l p) are has)) in
      omega (arith, less, size)

  pub busy_table : (pairs : List (ℕ × ℕ)) (n : ℕ) (table : List (List ℕ)) → pairs ≡ kids_in ++ map owner_mode g.edges → n ≡ length g.instances → table ≡ groups_of pairs n →
      AreBusyIn g table
  busy_table pairs n table are size is = record {
    size = ap length is ∙ length-map-range_with_len (items_of pairs) 0 n ∙ size;
    modes = λ pb mode. (
      λ has. (busy_pairs pb mode (subst (λ l. Has l (pb, mode)) are (out pb mode (slice_get table pb) refl has))),
      λ busy. subst (λ o. Has (option_map_or (λ (modes : List ℕ). modes) o []) mode) (sym (at pb (let less = busy_inside pb mode busy in omega (arith, less, size))))
          (into pb mode (subst (λ l. Has l (pb, mode)) (sym are) (pairs_busy pb mode busy))),
    );
  }
    where
      count : length table ≡ n
      count = ap length is ∙ length-map-range_with_len (items_of pairs) 0 n

      at : (pb : ℕ) → pb < n → slice_get table pb ≡ Some (items_of pairs pb)
      at pb less =
          ap (λ t. slice_get t pb) is
          ∙ slice_get-get_or (groups_of pairs n) pb [] (let c = length-map-range_with_len (items_of pairs) 0 n in omega (arith, c, less))
          ∙ ap Some (get_or-map-range_with_len (items_of pairs) 0 n pb pb [] less (omega arith))

      out : (pb mode : ℕ) (o : Option (List ℕ)) → slice_get table pb ≡ o → Has (option_map_or (λ (modes : List ℕ). modes) o []) mode → Has pairs (pb, mode)
      out pb mode None e has = absurd has
      out pb mode (Some group) e has =
          let less : pb < n = let w = slice_get_within table pb group e in omega (arith, w, count) in
          let same : Some group ≡ Some (items_of pairs pb) = sym e ∙ at pb less in
          let groups : group ≡ items_of pairs pb = cc in
          let m = from_map (λ (p : ℕ × ℕ). p.1) (filter (λ p. p.0 == pb) pairs) mode (subst (λ l. Has l mode) groups has) in
          let f = from_filter (λ (p : ℕ × ℕ). p.0 == pb) pairs m.item m.has in
          let key : m.item.0 ≡ pb = (let t = f.1 in grind (arith, nat_tests)) in
          subst (λ x. Has pairs (pb, x)) (sym m.is) (subst (λ x. Has pairs (x, m.item.1)) key f.0)

      into : (pb mode : ℕ) → Has pairs (pb, mode) → Has (items_of pairs pb) mode
      into pb mode has = has_map (λ (p : ℕ × ℕ). p.1) (filter (λ p. p.0 == pb) pairs) (pb, mode) (has_filter (λ (p : ℕ × ℕ). p.0 == pb) pairs (pb, mode) has (is_itself pb))

-- the mode of something that stands in it is one of the instance's
pub busy_counted : (g : Graph) (pb mode : ℕ) → IsExpansion g → ((k : ℕ) → k < length g.instances → HasParent g k) → IsBusy g pb mode → mode < count_of (kind_at g pb)
busy_counted g pb mode law parents (inl kid) =
    elim (parents kid.number (kid_there g pb mode kid)) [
      | inl root ↦
          let none : hangs_at g kid.number pb mode ≡ false = root_hangs g kid.number law root pb mode in
          let never : true ≡ false = sym kid.hangs ∙ none in absurd (cc)
      | inr up ↦
          let is : same_mode (record { pb = up.0.parent; mode = up.0.mode }) (mode_ix pb mode) ≡ true = hangs_is g up.0 kid.number (record { pb = up.0.parent; mode = up.0.mode }) law up.1 refl refl pb mode ∙ kid.hangs in
          let pbs : up.0.parent.0 ≡ pb = grind (arith, nat_tests) in
          let modes : up.0.mode ≡ mode = grind (arith, nat_tests) in
          subst (λ p. mode < count_of (kind_at g p)) pbs
          (subst (λ m. m < count_of (kind_at g up.0.parent.0)) modes (mode_counted g up.0.parent.0 up.0.mode (mode_there g up.0 kid.number law up.1)))
    ]
busy_counted g pb mode law parents (inr e) =
    let at = at_has g.edges e.edge e.there in
    subst (λ p. mode < count_of (kind_at g p)) e.owner
    (subst (λ m. m < count_of (kind_at g e.edge.owner.0)) e.in_mode (mode_counted g e.edge.owner.0 e.edge.mode (edge_mode_there g at.0 e.edge law at.1)))

nothing : (xs : List ℕ) → ((k : ℕ) → Has xs k → ⊥) → xs ≡ []
nothing [] none = refl
nothing (x ∷ xs) none = absurd (none x (inl refl))

-- a mode in which nothing stands has no sites
pub idle_mode : (g : Graph) (under : ℕ → List LSite) (pb mode : ℕ) → (IsBusy g pb mode → ⊥) → mode_sites g under pb mode ≡ []
idle_mode g under pb mode idle =
    ap (λ l. map (end_site g mode) l ++ flat_map under (kids g pb mode)) (nothing (first_edges g pb mode) (λ e has. idle (inr (edge e has))))
    ∙ ap (λ l. flat_map under l) (nothing (kids g pb mode) (λ k has. idle (inl (kid k has))))
  where
    kid : (k : ℕ) → Has (kids g pb mode) k → HasKid g pb mode
    kid k has =
        let p : IsPlace (λ n address. hangs g pb mode address) 0 g.instances k = place_is (λ n address. hangs g pb mode address) 0 g.instances k has in
        record { number = p.place; hangs = ap (λ o. option_map_or (λ address. hangs g pb mode address) o false) p.there ∙ p.passes }

    edge : (e : ℕ) → Has (first_edges g pb mode) e → HasEdge g pb mode
    edge e has =
        let o = opens_is g pb mode e has in
        let same : o.edge ≡ o.into.edge = some_injective (sym o.there ∙ ap (λ k. slice_get g.edges k) (sym o.number) ∙ o.into.there) in
        record {
          edge = o.edge;
          there = has_at g.edges e o.edge o.there;
          owner = ap (λ (x : Edge). x.owner.0) same ∙ o.into.owned;
          in_mode = o.in_mode;
        }

-- the elements that give nothing may be left out of those from n on
abbrev IsRest : {X : Type 0} → (ℕ → List X) → ℕ → ℕ → List ℕ → Type 0
IsRest f n count ms =
    Ordered ◌<◌ ms → ((m : ℕ) → Has ms m → (n ≤ m) × (m < n + count)) → ((m : ℕ) → n ≤ m → (Has ms m → ⊥) → f m ≡ []) →
    flat_map f ms ≡ flat_map f (up_from n count)

flat_rest : {X : Type 0} (f : ℕ → List X) (n count : ℕ) (ms : List ℕ) → IsRest f n count ms
flat_rest f n zero [] rises within idle = refl
flat_rest f n zero (m ∷ ms) rises within idle = let w = within m (inl refl) in absurd (omega (arith, w.0, w.1))
flat_rest f n (suc count) [] rises within idle =
    flat_rest f (n + 1) count [] tt (λ m h. absurd h) (λ m low none. idle m (omega (arith, low)) none)
    ∙ sym (ap (λ l. l ++ flat_map f (up_from (n + 1) count)) (idle n (omega arith) (λ h. h)))
flat_rest {X} f n (suc count) (m ∷ ms) rises within idle =
    by (flat_rest f (n + 1) count ms) (flat_rest f (n + 1) count (m ∷ ms)) (n == m) refl
  where
    here : IsRest f (n + 1) count ms → n ≡ m → flat_map f (m ∷ ms) ≡ flat_map f (up_from n (suc count))
    here rest same =
        ap (λ k. f k ++ flat_map f ms) (sym same)
        ∙ ap (λ l. f n ++ l)
        (rest rises.1 (λ k has. let w = within k (inr has) in let above = rises.0 k has in (omega (arith, above, same), omega (arith, w.1)))
        (λ k low none. idle k (omega (arith, low)) (λ has. elim has [ inl is ↦ absurd (omega (arith, is, low, same)) | inr h ↦ none h ])))

    above : n < m → (k : ℕ) → Has (m ∷ ms) k → n + 1 ≤ k
    above less k (inl is) = omega (arith, is, less)
    above less k (inr has) = let up = rises.0 k has in omega (arith, up, less)

    later : IsRest f (n + 1) count (m ∷ ms) → n < m → flat_map f (m ∷ ms) ≡ flat_map f (up_from n (suc count))
    later rest less =
        rest rises (λ k has. let w = within k has in (above less k has, omega (arith, w.1))) (λ k low none. idle k (omega (arith, low)) none)
        ∙ sym (ap (λ l. l ++ flat_map f (up_from (n + 1) count)) (idle n (omega arith) (λ has. let low = above less n has in absurd (omega (arith, low)))))

    by : IsRest f (n + 1) count ms → IsRest f (n + 1) count (m ∷ ms) → (b : Bool) → (n == m) ≡ b → flat_map f (m ∷ ms) ≡ flat_map f (up_from n (suc count))
    by rest all true e = here rest (grind (arith, nat_tests))
    by rest all false e = let w = within m (inl refl) in let low = w.0 in later all (grind (arith, nat_tests))

pub flat_busy : {X : Type 0} (f : ℕ → List X) (count : ℕ) (ms : List ℕ) → IsStrictlyIncreasing ms → ((m : ℕ) → Has ms m → m < count) → ((m : ℕ) → (Has ms m → ⊥) → f m ≡ []) →
    flat_map f ms ≡ flat_map f (up_from 0 count)
flat_busy f count ms rises within idle =
    flat_rest f 0 count ms (ordered_of ◌<◌ ms stand) (λ m has. let w = within m has in (omega arith, omega (arith, w))) (λ m low none. idle m none)
  where
    stand : StandOrdered ◌<◌ ms
    stand i j x y less at_i at_j =
        let all = AllPairs-from_increasing ms rises i j 0 less (slice_get_within ms j y at_j) in
        let first : get_or ms i 0 ≡ x = get_or_from_slice_get ms i x 0 at_i in
        let second : get_or ms j 0 ≡ y = get_or_from_slice_get ms j y 0 at_j in
        omega (arith, all, first, second)

-- the modes of an instance in which something stands have all sites in its modes
pub busy_whole : (g : Graph) (table : List (List ℕ)) (under : ℕ → List LSite) (pb : ℕ) (group ms : List ℕ) → IsExpansion g →
    ((k : ℕ) → k < length g.instances → HasParent g k) → AreBusyIn g table → slice_get table pb ≡ Some group → IsStrictlyIncreasing ms → ((m : ℕ) → Has ms m ↔ Has group m) →
    flat_map (λ mode. mode_sites g under pb mode) ms ≡ flat_map (λ mode. mode_sites g under pb mode) (up_from 0 (count_of (kind_at g pb)))
busy_whole g table under pb group ms law parents are at rises same =
    flat_busy (λ mode. mode_sites g under pb mode) (count_of (kind_at g pb)) ms rises (λ m has. busy_counted g pb m law parents (busy m has))
    (λ m none. idle_mode g under pb m (λ is. none (there m is)))
  where
    is_group : group_at table pb ≡ group
    is_group = ap (λ o. option_map_or (λ (modes : List ℕ). modes) o []) at

    busy : (m : ℕ) → Has ms m → IsBusy g pb m
    busy m has = (are.modes pb m).0 (subst (λ l. Has l m) (sym is_group) ((same m).0 has))

    there : (m : ℕ) → IsBusy g pb m → Has ms m
    there m is = (same m).1 (subst (λ l. Has l m) is_group ((are.modes pb m).1 is))

has_contains : (xs : List ℕ) (x : ℕ) → Has xs x → Contains xs x
has_contains xs x has = let at = at_has xs x has in (at.0, slice_get_within xs at.0 x at.1, get_or_from_slice_get xs at.0 x x at.1)

contains_has : (xs : List ℕ) (x : ℕ) → Contains xs x → Has xs x
contains_has xs x c = has_at xs c.0 x (slice_get-get_or xs c.0 x c.1 ∙ ap Some c.2)

-- a sorted list without its repetitions has the same elements
pub sorted_same : (xs moved ys : List ℕ) → IsPermutation xs moved → ys ≡ dedup nat_eq moved → (n : ℕ) → Has ys n ↔ Has xs n
sorted_same xs moved ys permutation is n = (
  λ has. contains_has xs n (Contains-permutation _ _ n (IsPermutation-sym _ _ permutation) (Contains-from_dedup _ _ n (subst (λ l. Contains l n) is (has_contains ys n has)))),
  λ has. contains_has ys n (subst (λ l. Contains l n) (sym is) (Contains-dedup_nat _ n (Contains-permutation _ _ n permutation (has_contains xs n has)))),
)
