-- Blocks and sites have kinds, and some pairs of kinds go together. A placing gives each block a site of its own that fits it.
use Rattle.std.specs.Prelude.{◌≡◌, ◌<◌, ◌+◌, ℕ, List, length, slice_index}
use Rattle.std.specs.List.{Contains}
use Rattle.matching.specs.Bipartite.{AreApart}

-- the site's kind goes with the block's
abbrev pub IsFit : List ℕ → List ℕ → List (ℕ × ℕ) → ℕ → ℕ → Type 0
IsFit blocks sites fits block site = (block < length blocks) × (site < length sites) × Contains {X = ℕ × ℕ} fits (slice_index blocks block, slice_index sites site)

-- a site for each block that fits it, and no site twice
pub record IsPlaced (blocks sites : List ℕ) (fits : List (ℕ × ℕ)) (places : List ℕ) : Type 0 where
  pub each : length places ≡ length blocks
  pub fitting : (block : ℕ) → block < length blocks → IsFit blocks sites fits block (slice_index places block)
  pub apart : AreApart places

-- there is no placing
abbrev pub HasNoPlaces : List ℕ → List ℕ → List (ℕ × ℕ) → Type 0
HasNoPlaces blocks sites fits = (places : List ℕ) → IsPlaced blocks sites fits places → ⊥

-- different blocks that are one more than all the sites that fit any of them, and just these sites, each once
pub record Outnumber (blocks sites : List ℕ) (fits : List (ℕ × ℕ)) (short room : List ℕ) : Type 0 where
  pub are_blocks : (k : ℕ) → k < length short → slice_index short k < length blocks
  pub blocks_apart : AreApart short
  pub sites_apart : AreApart room
  pub wanted : (k : ℕ) → k < length room → (block : ℕ) × Contains short block × IsFit blocks sites fits block (slice_index room k)
  pub all : (block site : ℕ) → Contains short block → IsFit blocks sites fits block site → Contains room site
  pub one_more : length short ≡ length room + 1
