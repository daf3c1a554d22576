-- Lines of features (FPGA assembly metadata of VTR architectures: `fasm_features`).
use Rattle.std.specs.Prelude.{◌≡◌, ℕ, List, []}
use Rattle.std.specs.List.{All}
use Rattle.fasm_text.specs.Names.{IsFeatureName}
use Rattle.meta_parts.specs.Words.{is_gap, words_by}
use Rattle.meta_parts.specs.Lines.{LineAt, said_lines}
use Rattle.meta_parts.specs.Forms.{HasBit}
use Rattle.meta_parts.specs.declared.forms.BitForm.{BitForm}
use Rattle.meta_lines.specs.declared.types.Feature.{Feature}
use Rattle.meta_lines.specs.declared.error.LineError.{LineError}
use Rattle.meta_lines.specs.declared.error.LineError.TheVariants.{BadLine, FeatureName}
use Rattle.meta_lines.specs.Each.{Each}
use Rattle.meta_lines.specs.Readings.{LinesSay, StopsAt}

-- the word has the form of the feature, whose name may be no feature's name
pub record IsForm (word : List ℕ) (f : Feature) : Type 0 where
  pub text : f.text ≡ word
  pub form : HasBit word f.name f.bit

-- the feature's own text has its form
abbrev pub HasOwnForm : Feature → Type 0
HasOwnForm f = HasBit f.text f.name f.bit

-- the names are those of features
abbrev pub AreNamed : List Feature → Type 0
AreNamed fs = All (λ f. IsFeatureName f.name) fs

-- the words of a line, divided by white space or commas, are these features
abbrev pub SaysFeatures : List Feature → LineAt → List Feature → Type 0
SaysFeatures before line fs = Each IsForm (words_by is_gap line.text) fs × AreNamed fs

-- a word that has no form is told before a name that is none
abbrev pub RefusesFeatures : List Feature → LineAt → LineError → Type 0
RefusesFeatures before line (BadLine at) =
    (at ≡ line.number) × ((fs : List Feature) → Each IsForm (words_by is_gap line.text) fs → ⊥)
RefusesFeatures before line (FeatureName at) =
    (at ≡ line.number) × ((fs : List Feature) × Each IsForm (words_by is_gap line.text) fs × (AreNamed fs → ⊥))
RefusesFeatures before line _ = ⊥

-- the features that a text lists, in order, repetitions included
abbrev pub ListsFeatures : List ℕ → List Feature → Type 0
ListsFeatures text fs = LinesSay SaysFeatures [] (said_lines text) fs

-- why a text lists none
abbrev pub RefusesList : List ℕ → LineError → Type 0
RefusesList text e = StopsAt SaysFeatures RefusesFeatures (said_lines text) e

abbrev pub form_of : BitForm → Feature
form_of f = record { name = f.name.now; bit = f.bit; text = f.word.now }
