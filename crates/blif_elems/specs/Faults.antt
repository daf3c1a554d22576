-- Why the words of a line say nothing.
use Rattle.std.specs.Prelude.{◌≡◌, ◌<◌, ◌⊎◌, ℕ, List, [], ◌∷◌, ◌++◌, codes, length}
use Rattle.blif_elems.specs.declared.keyword.Keyword.{Keyword}
use Rattle.blif_elems.specs.declared.keyword.Keyword.TheVariants.{Names, Latch}
use Rattle.blif_elems.specs.Keywords.{keyword_text, HasDot}
use Rattle.blif_elems.specs.Nets.{AreNets}
use Rattle.blif_elems.specs.Statements.{Said, SaysBehind}

pub data FaultSaid : Type 0 where
  is_bad : FaultSaid
  is_wide : (output : List ℕ) → FaultSaid
  is_other_latch : (made : List ℕ) → FaultSaid
  is_unread : (word : List ℕ) → FaultSaid

-- a `.names` of nets with more than 8 inputs, by the words behind it
pub record IsWideNames (behind : List (List ℕ)) (output : List ℕ) : Type 0 where
  pub inputs : List (List ℕ)
  pub spelled : behind ≡ inputs ++ output ∷ []
  pub nets : AreNets behind
  pub many : 8 < length inputs

-- a `.latch` with an output that isn't `re` or has no control
pub record IsOtherLatch (behind : List (List ℕ)) (made : List ℕ) : Type 0 where
  pub loaded : List ℕ
  pub kind : List (List ℕ)
  pub spelled : behind ≡ loaded ∷ made ∷ kind
  pub other : (control : List ℕ) (init : List (List ℕ)) → kind ≡ codes "re" ∷ control ∷ init → ⊥

-- why a keyword and the words behind it say nothing; they are bad where they aren't of the format
-- and no other fault stands there
abbrev pub IsFaultBehind : Keyword → List (List ℕ) → FaultSaid → Type 0
IsFaultBehind k behind is_bad =
    ((s : Said) → SaysBehind k behind s → ⊥)
    × ((output : List ℕ) → k ≡ Names → IsWideNames behind output → ⊥)
    × ((made : List ℕ) → k ≡ Latch → IsOtherLatch behind made → ⊥)
IsFaultBehind k behind (is_wide output) = (k ≡ Names) × IsWideNames behind output
IsFaultBehind k behind (is_other_latch made) = (k ≡ Latch) × IsOtherLatch behind made
IsFaultBehind k behind (is_unread word) = ⊥

-- the word begins with a dot and is none of those that are read
abbrev pub IsUnread : List ℕ → Type 0
IsUnread word = HasDot word × ((k : Keyword) → word ≡ keyword_text k → ⊥)

-- why the words of a line say nothing
abbrev pub IsFault : List (List ℕ) → FaultSaid → Type 0
IsFault [] f = ⊥
IsFault (first ∷ behind) f =
    ((k : Keyword) × (first ≡ keyword_text k) × IsFaultBehind k behind f)
    ⊎ (IsUnread first × (f ≡ is_unread first))
