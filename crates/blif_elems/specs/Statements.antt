-- What a line of a BLIF file says, by its words (BLIF, "Models", "Logic gates", "Generic latches",
-- "Subcircuits", and the extensions `.param`, `.attr` and `.cname`).
use Rattle.std.specs.Prelude.{◌≡◌, ◌≤◌, ◌⊎◌, ℕ, List, [], ◌∷◌, ◌++◌, codes, length}
use Rattle.std.specs.Str.Parse.{IsNumeral, digits_value}
use Rattle.blif_elems.specs.declared.keyword.Keyword.{Keyword}
use Rattle.blif_elems.specs.declared.keyword.Keyword.TheVariants.{Model, Inputs, Outputs, Names, Latch, Subckt, Param, Attr, Cname, End}
use Rattle.blif_elems.specs.Keywords.{keyword_text, HasDot}
use Rattle.blif_elems.specs.Nets.{IsNet, AreNets}

-- names are told as they stand; of a box the words behind its model's name, of a row all its words
pub data Said : Type 0 where
  says_nothing : Said
  says_model : (name : List ℕ) → Said
  says_inputs : (nets : List (List ℕ)) → Said
  says_outputs : (nets : List (List ℕ)) → Said
  says_names : (inputs : List (List ℕ)) (output : List ℕ) → Said
  says_latch : (loaded made control : List ℕ) → Said
  says_box : (model : List ℕ) (pins : List (List ℕ)) → Said
  says_param : (name value : List ℕ) → Said
  says_passed : Said
  says_end : Said
  says_row : (words : List (List ℕ)) → Said

-- a number from 0 to 3
abbrev pub IsSmall : List ℕ → Type 0
IsSmall word = IsNumeral 10 word × (digits_value 10 word ≤ 3)

-- no word, or a number from 0 to 3
abbrev pub IsInit : List (List ℕ) → Type 0
IsInit words =
    (words ≡ [])
    ⊎ ((word : List ℕ) × (words ≡ word ∷ []) × IsSmall word)

-- the words behind `.latch` where it is `re` and has a control
abbrev pub latch_words : List ℕ → List ℕ → List ℕ → List (List ℕ) → List (List ℕ)
latch_words loaded made control init = loaded ∷ made ∷ codes "re" ∷ control ∷ init

-- a latch with a control, by the words behind `.latch`
pub record IsLatch (behind : List (List ℕ)) (loaded made control : List ℕ) : Type 0 where
  pub init : List (List ℕ)
  pub spelled : behind ≡ latch_words loaded made control init
  pub is_init : IsInit init
  pub nets : IsNet loaded × IsNet made × IsNet control

-- a `.names` with up to 8 inputs, by the words behind it
pub record IsNames (behind inputs : List (List ℕ)) (output : List ℕ) : Type 0 where
  pub spelled : behind ≡ inputs ++ output ∷ []
  pub nets : AreNets behind
  pub few : length inputs ≤ 8

-- what a keyword and the words behind it say
abbrev pub SaysBehind : Keyword → List (List ℕ) → Said → Type 0
SaysBehind Model behind s = (name : List ℕ) × (behind ≡ name ∷ []) × (s ≡ says_model name)
SaysBehind Inputs behind s = AreNets behind × (s ≡ says_inputs behind)
SaysBehind Outputs behind s = AreNets behind × (s ≡ says_outputs behind)
SaysBehind Names behind s =
    (inputs : List (List ℕ)) × (output : List ℕ) × IsNames behind inputs output
    × (s ≡ says_names inputs output)
SaysBehind Latch behind s =
    (loaded made control : List ℕ) × IsLatch behind loaded made control
    × (s ≡ says_latch loaded made control)
SaysBehind Subckt behind s =
    (model : List ℕ) × (pins : List (List ℕ)) × (behind ≡ model ∷ pins) × (s ≡ says_box model pins)
SaysBehind Param behind s =
    (name value : List ℕ) × (behind ≡ name ∷ value ∷ []) × (s ≡ says_param name value)
SaysBehind Attr behind s = s ≡ says_passed
SaysBehind Cname behind s = s ≡ says_passed
SaysBehind End behind s = (behind ≡ []) × (s ≡ says_end)

-- what the words of a line say
abbrev pub WordsSay : List (List ℕ) → Said → Type 0
WordsSay [] s = s ≡ says_nothing
WordsSay (first ∷ behind) s =
    ((k : Keyword) × (first ≡ keyword_text k) × SaysBehind k behind s)
    ⊎ ((HasDot first → ⊥) × (s ≡ says_row (first ∷ behind)))
