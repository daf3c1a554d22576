-- What places cost: for each net the width plus the height of the rectangle of its blocks.
use Rattle.std.specs.Prelude.{ℕ, ◌+◌, ◌-◌, min, max, List, [], ◌∷◌, map, slice_index, slice_index_or}
use Rattle.std.specs.List.{sum_by}
use Rattle.anneal_placer.specs.declared.task.SiteAt.{SiteAt}

-- the least and the greatest of some numbers
abbrev pub least : ℕ → List ℕ → ℕ
least first [] = first
least first (x ∷ xs) = min x (least first xs)

abbrev pub greatest : ℕ → List ℕ → ℕ
greatest first [] = first
greatest first (x ∷ xs) = max x (greatest first xs)

-- how far the greatest is from the least, and 0 where there is none
abbrev pub span : List ℕ → ℕ
span [] = 0
span (x ∷ xs) = greatest x xs - least x xs

-- the site with that number
abbrev pub site_at : List SiteAt → ℕ → SiteAt
site_at sites site = slice_index_or sites site (record { kind = 0; x = 0; y = 0 })

-- the column and the row in which a block stands
abbrev pub column : List SiteAt → List ℕ → ℕ → ℕ
column sites places block = (site_at sites (slice_index places block)).x

abbrev pub row : List SiteAt → List ℕ → ℕ → ℕ
row sites places block = (site_at sites (slice_index places block)).y

-- the width plus the height of the rectangle of a net's blocks, and 0 without blocks
abbrev pub net_cost : List SiteAt → List ℕ → List ℕ → ℕ
net_cost sites places net = span (map (column sites places) net) + span (map (row sites places) net)

-- the sum over all nets
abbrev pub nets_cost : List SiteAt → List ℕ → List (List ℕ) → ℕ
nets_cost sites places nets = sum_by (net_cost sites places) nets
