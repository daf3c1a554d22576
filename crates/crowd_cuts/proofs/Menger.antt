-- Where few nodes meet all paths, there aren't many paths that share no node.
use Rattle.std.proofs.Common.{◌≡◌, ℕ, zero, suc, ◌<◌, List, [], ◌∷◌, length, refl, ap, arith, sym, ◌∙◌}
use Rattle.std.specs.List.{Contains}
use Rattle.std.specs.Prelude.{slice_index, slice_index_or}
use Rattle.crowd_cuts.specs.Paths.{AreDisjointPaths, IsSmallCut, Meets}
use Rattle.matching.proofs.Counting.{no_more_than}

-- node a of the list is in the cut and on path a
abbrev IsPicked : List ℕ → List (List ℕ) → List ℕ → ℕ → Type 0
IsPicked cut paths nodes a = Contains cut (slice_index nodes a) × ((i : ℕ) × (i < length (slice_index_or paths a [])) × (slice_index nodes a ≡ slice_index (slice_index_or paths a []) i))

-- from each of the paths a node that is in the cut
picked : (cut : List ℕ) (paths : List (List ℕ)) → ((a : ℕ) → a < length paths → Meets (slice_index_or paths a []) cut) →
    (nodes : List ℕ) × (length nodes ≡ length paths) × ((a : ℕ) → a < length paths → IsPicked cut paths nodes a)
picked cut [] met = ([], refl, λ a h. absurd (omega arith))
picked cut (path ∷ paths) met =
    let rest = picked cut paths (λ a h. met (suc a) (omega arith)) in
    let here = met 0 (omega arith) in
    (slice_index path here.0 ∷ rest.0, ap suc rest.1, each path paths here rest.0 rest.2)
  where
    each : (p : List ℕ) (ps : List (List ℕ)) (at : Meets p cut) (nodes : List ℕ) → ((a : ℕ) → a < length ps → IsPicked cut ps nodes a) →
        (a : ℕ) → a < length (p ∷ ps) → IsPicked cut (p ∷ ps) (slice_index p at.0 ∷ nodes) a
    each p ps at nodes rest zero h = (at.2, (at.0, at.1, refl))
    each p ps at nodes rest (suc a) h = rest a (omega arith)

-- with a cut of fewer nodes there aren't that many paths
pub no_paths_past_cut : {nodes : ℕ} {edges : List (ℕ × ℕ)} {starts ends : List ℕ} {count : ℕ} {cut : List ℕ} →
    IsSmallCut nodes edges starts ends count cut → (paths : List (List ℕ)) → AreDisjointPaths edges starts ends count paths → ⊥
no_paths_past_cut {cut = cut} is paths are =
    let some = picked cut paths (λ a h. is.met (slice_index_or paths a []) (are.are_paths a h)) in
    let few = no_more_than some.0 cut
    (λ a b lt h same.
    let hb : b < length paths = omega (arith, some.1) in
    let ha : a < length paths = omega arith in
    let one = (some.2 a ha).1 in
    let other = (some.2 b hb).1 in
    let shared = are.disjoint a b one.0 other.0 ha hb one.1 other.1 (sym one.2 ∙ same ∙ other.2) in
    omega (arith, shared.0))
    (λ k h. (some.2 k (omega (arith, some.1))).0) in
    omega (arith, few, some.1, are.as_many, is.fewer)
