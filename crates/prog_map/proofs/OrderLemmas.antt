-- The tables of the order of sites, instance by instance and edge by edge.
use Rattle.std.proofs.Common.{◌≡◌, ◌+◌, ◌<◌, ◌≤◌, ◌==◌, ◌&&◌, ℕ, Bool, true, false, List, Some, length, take, get_or, refl, sym, ap, subst, ◌∙◌, arith}
use Rattle.std.specs.Prelude.{slice_get}
use Rattle.std.specs.Option.{option_map_or}
use Rattle.std.specs.HashMap.{HashMap}
use Rattle.std.proofs.lemmas.List.{take_all}
use Rattle.std.proofs.lemmas.Option.{slice_get_within, slice_get-get_or}
use Rattle.std.specs.List.{All}
use Rattle.vtr_base.specs.Lists.{Has}
use Rattle.pb_expand.specs.declared.number.Edge.{Edge}
use Rattle.pb_expand.specs.Graph.{Graph, into_from}
use Rattle.pb_expand.proofs.Lists.{element, has_at}
use Rattle.prog_map.specs.declared.groups.ModeAt.{ModeAt}
use Rattle.prog_map.specs.Groups.{same_mode, mode_ix, grouped, GetsNumber, places_from}
use Rattle.prog_map.specs.Order.{hangs, hangs_at, kids, starts_at, opens, opens_at, first_edges}
use Rattle.prog_map.proofs.Places.{IsPlace, place_is}
use Rattle.prog_map.proofs.GroupLemmas.{group_more, same_added}

pub kids_more : {S : Type 0} (g : Graph) (n : ℕ) (old new : HashMap ModeAt (List ℕ) S) → n < length g.instances →
    ((pb mode : ℕ) → grouped old pb mode ≡ places_from (λ k address. hangs g pb mode address) 0 (take n g.instances)) → GetsNumber old new (hangs_at g n) n →
    (pb mode : ℕ) → grouped new pb mode ≡ places_from (λ k address. hangs g pb mode address) 0 (take (n + 1) g.instances)
kids_more g n old new inside before gets =
    let a = element g.instances n inside in
    group_more (λ pb mode k address. hangs g pb mode address) g.instances n a.0 old new a.1 inside before
    (same_added old new (hangs_at g n) (λ pb mode. hangs g pb mode a.0) n
    (λ pb mode. ap (λ o. option_map_or (λ address. hangs g pb mode address) o false) a.1) gets)

pub firsts_more : {S : Type 0} (g : Graph) (n : ℕ) (old new : HashMap ModeAt (List ℕ) S) → n < length g.edges →
    ((pb mode : ℕ) → grouped old pb mode ≡ places_from (opens g pb mode) 0 (take n g.edges)) → GetsNumber old new (opens_at g n) n →
    (pb mode : ℕ) → grouped new pb mode ≡ places_from (opens g pb mode) 0 (take (n + 1) g.edges)
firsts_more g n old new inside before gets =
    let e = element g.edges n inside in
    group_more (λ pb mode k edge. opens g pb mode k edge) g.edges n e.0 old new e.1 inside before
    (same_added old new (opens_at g n) (λ pb mode. opens g pb mode n e.0) n
    (λ pb mode. ap (λ o. option_map_or (λ edge. opens g pb mode n edge) o false) e.1) gets)

pub places_all : {S X : Type 0} (p : ℕ → ℕ → ℕ → X → Bool) (xs : List X) (n : ℕ) (table : HashMap ModeAt (List ℕ) S) → length xs ≤ n →
    ((pb mode : ℕ) → grouped table pb mode ≡ places_from (p pb mode) 0 (take n xs)) → (pb mode : ℕ) → grouped table pb mode ≡ places_from (p pb mode) 0 xs
places_all p xs n table whole are pb mode = are pb mode ∙ ap (λ l. places_from (p pb mode) 0 l) (take_all n xs whole)

-- an edge that isn't the first into its end opens no site
pub not_first : (g : Graph) (n : ℕ) (edge : Edge) → slice_get g.edges n ≡ Some edge → starts_at n (into_from 0 g.edges edge.dst.0 edge.mode) ≡ false →
    (pb mode : ℕ) → opens_at g n pb mode ≡ false
not_first g n edge at other pb mode =
    ap (λ o. option_map_or (λ e. opens g pb mode n e) o false) at
    ∙ ap (λ b. ((edge.owner.0 == pb) && (edge.mode == mode)) && b) other
    ∙ and_false ((edge.owner.0 == pb) && (edge.mode == mode))
  where
    and_false : (b : Bool) → (b && false) ≡ false
    and_false true = refl
    and_false false = refl

-- the first edge into its end opens a site of its own mode
pub first_opens : (g : Graph) (n : ℕ) (edge : Edge) (at : ModeAt) → slice_get g.edges n ≡ Some edge → starts_at n (into_from 0 g.edges edge.dst.0 edge.mode) ≡ true →
    at.pb ≡ edge.owner → at.mode ≡ edge.mode → (pb mode : ℕ) → same_mode at (mode_ix pb mode) ≡ opens_at g n pb mode
first_opens g n edge at is first owner in_mode pb mode =
    ap (λ p. (p.0 == pb) && (at.mode == mode)) owner
    ∙ ap (λ m. (edge.owner.0 == pb) && (m == mode)) in_mode
    ∙ sym (ap (λ o. option_map_or (λ e. opens g pb mode n e) o false) is
    ∙ ap (λ b. ((edge.owner.0 == pb) && (edge.mode == mode)) && b) first
    ∙ and_true ((edge.owner.0 == pb) && (edge.mode == mode)))
  where
    and_true : (b : Bool) → (b && true) ≡ b
    and_true true = refl
    and_true false = refl

-- the numbers of a mode are those of instances, and of edges
pub kids_inside : (g : Graph) (pb mode k : ℕ) → Has (kids g pb mode) k → k < length g.instances
kids_inside g pb mode k has =
    let p : IsPlace (λ n address. hangs g pb mode address) 0 g.instances k = place_is (λ n address. hangs g pb mode address) 0 g.instances k has in
    let inside : p.place < length g.instances = slice_get_within g.instances p.place p.is p.there in
    omega (arith, p.number, inside)

pub firsts_inside : (g : Graph) (pb mode k : ℕ) → Has (first_edges g pb mode) k → k < length g.edges
firsts_inside g pb mode k has =
    let p : IsPlace (opens g pb mode) 0 g.edges k = place_is (opens g pb mode) 0 g.edges k has in
    let inside : p.place < length g.edges = slice_get_within g.edges p.place p.is p.there in
    omega (arith, p.number, inside)

pub kid_inside : (g : Graph) (pb mode : ℕ) (xs : List ℕ) (k d : ℕ) → xs ≡ kids g pb mode → k < length xs → get_or xs k d < length g.instances
kid_inside g pb mode xs k d are inside =
    kids_inside g pb mode (get_or xs k d) (subst (λ l. Has l (get_or xs k d)) are (has_at xs k (get_or xs k d) (slice_get-get_or xs k d inside)))

pub firsts_below : (g : Graph) (pb mode : ℕ) (xs : List ℕ) → xs ≡ first_edges g pb mode → All (λ edge. edge < length g.edges) xs
firsts_below g pb mode xs are k d inside =
    firsts_inside g pb mode (get_or xs k d) (subst (λ l. Has l (get_or xs k d)) are (has_at xs k (get_or xs k d) (slice_get-get_or xs k d inside)))
