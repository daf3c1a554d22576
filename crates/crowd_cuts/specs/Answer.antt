-- What an answer says of a graph, its starts and its ends.
use Rattle.std.specs.Prelude.{ℕ, List, ⊤}
use Rattle.crowd_cuts.specs.declared.graph.Flow.{Flow}
use Rattle.crowd_cuts.specs.declared.graph.Flow.TheVariants.{Paths, CutSet}
use Rattle.crowd_cuts.specs.Paths.{AreDisjointPaths, IsSmallCut}

-- an answer's paths are that many and share no node; its cut has fewer nodes, and all paths meet it
abbrev pub IsFlow : ℕ → List (ℕ × ℕ) → List ℕ → List ℕ → ℕ → Flow → Type 0
IsFlow nodes edges starts ends count (Paths paths) = AreDisjointPaths edges starts ends count paths
IsFlow nodes edges starts ends count (CutSet cut) = IsSmallCut nodes edges starts ends count cut

-- where the answer is a cut, that many paths that share no node don't exist
abbrev pub HasNoPathsAtCut : List (ℕ × ℕ) → List ℕ → List ℕ → ℕ → Flow → Type 0
HasNoPathsAtCut edges starts ends count (Paths paths) = ⊤
HasNoPathsAtCut edges starts ends count (CutSet cut) = (paths : List (List ℕ)) → AreDisjointPaths edges starts ends count paths → ⊥
