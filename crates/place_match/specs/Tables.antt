-- Numbers of kinds, chains of sites, and the matching that places blocks: rows by block kind, and the sites that fit each.
use Rattle.std.specs.Prelude.{◌≡◌, ◌≢◌, ◌⊎◌, ◌<◌, ◌≤◌, ◌+◌, ℕ, List, Option, Some, None, length, slice_index, slice_index_or}
use Rattle.std.specs.List.{Contains}
use Rattle.matching.specs.Bipartite.{AreApart, Graph, GoTogether}
use Rattle.place_match.specs.Places.{IsFit}

-- different kinds, and the numbers of those of a list's first entries
pub record AreNumbers (list : List ℕ) (count : ℕ) (kinds numbers : List ℕ) : Type 0 where
  pub each : length numbers ≡ count
  pub within : (k : ℕ) → k < count → slice_index numbers k < length kinds
  pub same : (k : ℕ) → k < count → slice_index kinds (slice_index numbers k) ≡ slice_index list k
  pub few : length kinds ≤ count
  pub apart : AreApart kinds

-- the numbers of the kinds of a pair
pub record IsLink (block_kinds site_kinds : List ℕ) (fit link : ℕ × ℕ) : Type 0 where
  pub block_within : link.0 < length block_kinds
  pub site_within : link.1 < length site_kinds
  pub block_kind : slice_index block_kinds link.0 ≡ fit.0
  pub site_kind : slice_index site_kinds link.1 ≡ fit.1

-- no block, or no site, is of the pair's kind
abbrev pub IsNoLink : List ℕ → List ℕ → ℕ × ℕ → Type 0
IsNoLink block_kinds site_kinds fit = (link : ℕ × ℕ) → IsLink block_kinds site_kinds fit link → ⊥

-- links are the numbers of the kinds of the first pairs
pub record AreLinks (block_kinds site_kinds : List ℕ) (fits : List (ℕ × ℕ)) (count : ℕ) (links : List (ℕ × ℕ)) : Type 0 where
  pub all : (k : ℕ) (link : ℕ × ℕ) → k < count → IsLink block_kinds site_kinds (slice_index_or fits k (0, 0)) link → Contains links link
  pub only : (link : ℕ × ℕ) → Contains links link → (k : ℕ) × (k < count) × IsLink block_kinds site_kinds (slice_index_or fits k (0, 0)) link

-- the first site of the kind from here on, or the number of sites where there is none
pub record IsFirstOfKind (kinds : List ℕ) (kind from at : ℕ) : Type 0 where
  pub low : from ≤ at
  pub high : at ≤ length kinds
  pub none : (site : ℕ) → from ≤ site → site < at → slice_index kinds site ≢ kind
  pub here : at < length kinds → slice_index kinds at ≡ kind

-- first leads to the first site of each kind, and next from each site to the next of its kind
pub record AreChained (kinds first next : List ℕ) : Type 0 where
  pub firsts : (kind : ℕ) → kind < length first → IsFirstOfKind kinds kind 0 (slice_index first kind)
  pub follows : length next ≡ length kinds
  pub nexts : (site : ℕ) → site < length kinds → IsFirstOfKind kinds (slice_index kinds site) (site + 1) (slice_index next site)

-- the pairs of a row and the sites of a kind in front of a place were added
pub record AddsSites (kinds : List ℕ) (row kind count : ℕ) (old new : List (ℕ × ℕ)) : Type 0 where
  pub kept : (pair : ℕ × ℕ) → Contains old pair → Contains new pair
  pub added : (site : ℕ) → site < count → slice_index kinds site ≡ kind → Contains {X = ℕ × ℕ} new (row, site)
  pub only : (pair : ℕ × ℕ) → Contains new pair → Contains old pair ⊎ ((pair.0 ≡ row) × (pair.1 < length kinds) × (slice_index kinds pair.1 ≡ kind))

-- the pairs that the first links give: of a row and each site of the kind that it is linked with
pub record ArePairs (kinds : List ℕ) (links : List (ℕ × ℕ)) (count : ℕ) (pairs : List (ℕ × ℕ)) : Type 0 where
  pub all : (k site : ℕ) → k < count → site < length kinds → slice_index kinds site ≡ (slice_index_or links k (0, 0)).1 → Contains {X = ℕ × ℕ} pairs ((slice_index_or links k (0, 0)).0, site)
  pub only : (pair : ℕ × ℕ) → Contains pairs pair → (pair.1 < length kinds) × Contains {X = ℕ × ℕ} links (pair.0, slice_index kinds pair.1)

-- blocks on the left and sites on the right go together where they fit
pub record IsReduced (blocks sites : List ℕ) (fits : List (ℕ × ℕ)) (g : Graph) : Type 0 where
  pub each : length g.rows ≡ length blocks
  pub joined : (block site : ℕ) → IsFit blocks sites fits block site → GoTogether g block site
  pub only : (block site : ℕ) → GoTogether g block site → IsFit blocks sites fits block site

-- links of block kinds and site kinds, chained by the one and by the other
pub record AreChainedLinks (block_kinds block_first block_next site_kinds site_first site_next : List ℕ) : Type 0 where
  pub by_block : AreChained block_kinds block_first block_next
  pub by_site : AreChained site_kinds site_first site_next
  pub block_within : (k : ℕ) → k < length block_kinds → slice_index block_kinds k < length block_first
  pub site_within : (k : ℕ) → k < length site_kinds → slice_index site_kinds k < length site_first
  pub each : length site_kinds ≡ length block_kinds

-- what was reached is a link
abbrev pub AreReached : ℕ → List (Option ℕ) → Type 0
AreReached links ways = (k link : ℕ) → slice_index_or ways k None ≡ Some link → link < links

-- for each kind an entry of that kind, or the end of its chain
pub record AreCursors (kinds : List ℕ) (count : ℕ) (cursor : List ℕ) : Type 0 where
  pub each : length cursor ≡ count
  pub here : (kind : ℕ) → kind < count → slice_index cursor kind < length kinds → slice_index kinds (slice_index cursor kind) ≡ kind

-- a block goes with each site to which a link leads from its kind
abbrev pub GoByLinks : Graph → List ℕ → List ℕ → List ℕ → List ℕ → Type 0
GoByLinks g blocks sites block_kinds site_kinds =
    (block site link : ℕ) → block < length blocks → site < length sites → link < length block_kinds → slice_index block_kinds link ≡ slice_index blocks block →
    slice_index site_kinds link ≡ slice_index sites site → GoTogether g block site

-- the marks of a search through so many kinds of blocks and of sites, and so many links
pub record IsSearch (block_kinds site_kinds links : ℕ) (blocks_by sites_by : List (Option ℕ)) (reached : List ℕ) : Type 0 where
  pub blocks : length blocks_by ≡ block_kinds
  pub sites : length sites_by ≡ site_kinds
  pub block_links : AreReached links blocks_by
  pub site_links : AreReached links sites_by
  pub kinds : (k : ℕ) → k < length reached → slice_index reached k < block_kinds
  pub begun : 0 < length reached

-- a site of a kind to which a link leads from the block kind
pub record IsSeat (block_kinds site_kinds sites : List ℕ) (kind site : ℕ) : Type 0 where
  pub within : site < length sites
  pub linked : (link : ℕ) × (link < length block_kinds) × (slice_index block_kinds link ≡ kind) × (slice_index site_kinds link ≡ slice_index sites site)
