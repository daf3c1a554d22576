-- The prefix of a location (FPGA assembly metadata: `fasm_prefix` of a `single`).
use Rattle.std.specs.Prelude.{◌≡◌, ◌==◌, ℕ, List, Option, Some, None, MatchOption, slice_get, if◌then◌else◌}
use Rattle.arch_types.specs.declared.arch.Tile.{Tile}
use Rattle.arch_types.specs.declared.arch.Single.{Single}
use Rattle.meta_lines.specs.Prefixes.{ArePrefixes}
use Rattle.rr_locs.specs.declared.roots.LocAt.{LocAt}
use Rattle.meta_lines.specs.Each.{Each}
use Rattle.loc_prefixes.specs.declared.singles.SinglePrefixes.{SinglePrefixes}
use Rattle.loc_prefixes.specs.declared.table.LocPrefixes.{LocPrefixes}
use Rattle.loc_prefixes.specs.Singles.{IsPrefixed, SaysSingle}
use Rattle.loc_prefixes.specs.Holders.{IsHolder, AreHolders}

-- the single that holds at the location's place is of the location's tile, and this is the word of its
-- prefix for the location's sub
pub record GivesPrefix (tiles : List Tile) (singles : List Single) (loc : LocAt) (word : List ℕ) : Type 0 where
  pub place : ℕ
  pub single : Single
  pub there : slice_get singles place ≡ Some single
  pub holds : IsHolder singles loc.x loc.y place
  pub tile : Tile
  pub is : IsPrefixed tiles single loc.tile tile
  pub words : List (List ℕ)
  pub are : ArePrefixes single.prefix tile.capacity words
  pub here : slice_get words loc.sub ≡ Some word

-- the prefix of the location, if it has one
abbrev pub IsPrefixOf : List Tile → List Single → LocAt → Option (List ℕ) → Type 0
IsPrefixOf tiles singles loc found =
    MatchOption found ((word : List ℕ) → GivesPrefix tiles singles loc word → ⊥) (λ word. GivesPrefix tiles singles loc word)

-- the word for the location's sub of these prefixes, if they are of its tile
abbrev pub word_in : Option (Option SinglePrefixes) → LocAt → Option (List ℕ)
word_in None loc = None
word_in (Some None) loc = None
word_in (Some (Some said)) loc = if said.tile == loc.tile then slice_get said.words loc.sub else None

-- the same of the single at that place
abbrev pub word_at : List (Option SinglePrefixes) → ℕ → LocAt → Option (List ℕ)
word_at said place loc = word_in (slice_get said place) loc

-- the table has what each single says, and the singles that hold
pub record IsTableOf (tiles : List Tile) (singles : List Single) (table : LocPrefixes) : Type 0 where
  pub said : Each (SaysSingle tiles) singles table.said
  pub holders : AreHolders singles table.holders
