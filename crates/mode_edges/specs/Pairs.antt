-- Edges gathered one by one, each pair of pins once.
use Rattle.std.specs.Prelude.{◌≡◌, ◌≤◌, ◌<◌, ℕ, Bool, false, cond, ◌&&◌, ◌||◌, nat_eq, MatchBool, List, [], ◌∷◌, ◌++◌, map, length}
use Rattle.std.specs.Option.{option_eq}
use Rattle.indexmap.specs.IndexMap.{IndexMap}
use Rattle.arch_types.specs.declared.block.InterKind.{InterKind}
use Rattle.arch_types.specs.declared.block.InterKind.TheVariants.{Direct, Complete, Mux}
use Rattle.mode_edges.specs.declared.pin.ChildAt.{ChildAt}
use Rattle.mode_edges.specs.declared.pin.LocalPin.{LocalPin}
use Rattle.mode_edges.specs.declared.pin.LocalEdge.{LocalEdge}
use Rattle.mode_edges.specs.declared.pin.Pair.{Pair}

abbrev pub same_child : ChildAt → ChildAt → Bool
same_child x y = nat_eq x.child y.child && nat_eq x.instance y.instance

abbrev pub same_pin : LocalPin → LocalPin → Bool
same_pin x y = option_eq same_child x.owner y.owner && (nat_eq x.port y.port && nat_eq x.bit y.bit)

abbrev pub edge_of : Pair → ℕ → LocalEdge
edge_of pair inter = record { src = pair.src; dst = pair.dst; inter = inter }

-- the edges of a map from pairs to their owners, in the order in which the pairs came
abbrev pub edges_in : {S : Type 0} → IndexMap Pair ℕ S → List LocalEdge
edges_in found = map (λ entry. edge_of entry.0 entry.1) found.entries

-- an edge of the list joins the pins of this one
abbrev pub joined : List LocalEdge → LocalEdge → Bool
joined [] e = false
joined (x ∷ xs) e = (same_pin e.src x.src && same_pin e.dst x.dst) || joined xs e

-- the edge goes last, unless its pins are joined already
abbrev pub with_edge : List LocalEdge → LocalEdge → List LocalEdge
with_edge edges e = cond (joined edges e) edges (edges ++ e ∷ [])

-- these edges in turn
abbrev pub with_edges : List LocalEdge → List LocalEdge → List LocalEdge
with_edges edges [] = edges
with_edges edges (e ∷ es) = with_edges (with_edge edges e) es

-- one source to each of the ends
abbrev pub row : ℕ → LocalPin → List LocalPin → List LocalEdge
row inter src [] = []
row inter src (dst ∷ outs) = record { src = src; dst = dst; inter = inter } ∷ row inter src outs

-- each source in turn to each of the ends
abbrev pub rows : ℕ → List LocalPin → List LocalPin → List LocalEdge
rows inter [] outs = []
rows inter (src ∷ ins) outs = row inter src outs ++ rows inter ins outs

-- the sources and the ends side by side
abbrev pub side_by_side : ℕ → List LocalPin → List LocalPin → List LocalEdge
side_by_side inter [] outs = []
side_by_side inter (src ∷ ins) [] = []
side_by_side inter (src ∷ ins) (dst ∷ outs) = record { src = src; dst = dst; inter = inter } ∷ side_by_side inter ins outs

-- what a kind of interconnect gives, in turn
abbrev pub given_by : InterKind → ℕ → List LocalPin → List LocalPin → List LocalEdge
given_by Direct inter ins outs = side_by_side inter ins outs
given_by Complete inter ins outs = rows inter ins outs
given_by Mux inter ins outs = rows inter ins outs

-- all of the edges were added, and as few as allowed are there; or more than allowed would be
abbrev pub AddsUpTo : ℕ → List LocalEdge → List LocalEdge → List LocalEdge → Bool → Type 0
AddsUpTo most old new es all =
    MatchBool all ((new ≡ with_edges old es) × (length old ≤ most → length new ≤ most)) (most < length (with_edges old es))

-- ends that serve for others: each source gives the same edges to them, whatever is there
abbrev pub SameEnds : List LocalPin → List LocalPin → Type 0
SameEnds ends outs = (inter : ℕ) (src : LocalPin) (old : List LocalEdge) → with_edges old (row inter src ends) ≡ with_edges old (row inter src outs)
