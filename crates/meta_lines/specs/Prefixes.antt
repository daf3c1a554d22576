-- Prefixes (FPGA assembly metadata: `fasm_prefix`): a word for each instance.
use Rattle.std.specs.Prelude.{◌≡◌, ℕ, List, ◌∷◌, ◌++◌, length}
use Rattle.std.specs.List.{All, flat_map}
use Rattle.fasm_text.specs.Names.{IsFeatureName}
use Rattle.meta_parts.specs.Words.{words_of}
use Rattle.meta_parts.specs.Lines.{LineAt, said_lines}
use Rattle.meta_lines.specs.declared.error.LineError.{LineError}
use Rattle.meta_lines.specs.declared.error.LineError.TheVariants.{PrefixCount, FeatureName}

-- all words of a text
abbrev pub prefix_words : List ℕ → List (List ℕ)
prefix_words text = flat_map (λ line. words_of line.text) (said_lines text)

-- each word is a feature's name, and there are so many
pub record ArePrefixes (text : List ℕ) (count : ℕ) (prefixes : List (List ℕ)) : Type 0 where
  pub words : prefixes ≡ prefix_words text
  pub count_of : length prefixes ≡ count
  pub names : All IsFeatureName prefixes

-- the number of words is told before one that is no name, and such a word by its line
pub record IsBadPrefix (text : List ℕ) (at : ℕ) : Type 0 where
  pub front : List LineAt
  pub line : LineAt
  pub behind : List LineAt
  pub spelled : said_lines text ≡ front ++ line ∷ behind
  pub names : All IsFeatureName (flat_map (λ l. words_of l.text) front)
  pub bad : All IsFeatureName (words_of line.text) → ⊥
  pub number : at ≡ line.number

abbrev pub RefusesPrefixes : List ℕ → ℕ → LineError → Type 0
RefusesPrefixes text count PrefixCount = length (prefix_words text) ≡ count → ⊥
RefusesPrefixes text count (FeatureName at) = (length (prefix_words text) ≡ count) × IsBadPrefix text at
RefusesPrefixes text count _ = ⊥
