-- Lines of an interconnect's `fasm_mux` (FPGA assembly metadata): an input pin, and the features that
-- its choice sets.
use Rattle.std.specs.Prelude.{◌≡◌, ◌⊎◌, ℕ, List, [], ◌∷◌, map, codes}
use Rattle.std.specs.List.{slice_split}
use Rattle.vtr_base.specs.Lists.{Has}
use Rattle.arch_types.specs.declared.block.PbType.{PbType}
use Rattle.arch_types.specs.declared.block.Mode.{Mode}
use Rattle.arch_types.specs.declared.block.Inter.{Inter}
use Rattle.mode_edges.specs.PinWords.{ReadsPins, ReadsPin}
use Rattle.mode_edges.specs.declared.pin.EdgeEnd.TheVariants.{Source}
use Rattle.mode_edges.specs.declared.pin.LocalPin.{LocalPin}
use Rattle.meta_parts.specs.Words.{is_comma, words_of}
use Rattle.meta_parts.specs.Lines.{LineAt, said_lines}
use Rattle.meta_parts.specs.Divisions.{HasSides}
use Rattle.meta_lines.specs.declared.types.Feature.{Feature}
use Rattle.meta_lines.specs.declared.types.PinFeatures.{PinFeatures}
use Rattle.meta_lines.specs.declared.error.LineError.{LineError}
use Rattle.meta_lines.specs.declared.error.LineError.TheVariants.{BadLine, UnknownInput, FeatureName}
use Rattle.meta_lines.specs.Each.{Each}
use Rattle.meta_lines.specs.Features.{IsForm, AreNamed}
use Rattle.meta_lines.specs.Readings.{LinesSay, StopsAt}

-- the part is one word, with white space round it or not, that has the form of the feature
pub record IsPart (part : List ℕ) (f : Feature) : Type 0 where
  pub word : List ℕ
  pub only : words_of part ≡ word ∷ []
  pub form : IsForm word f

-- the right side is `NULL` alone
abbrev pub IsNull : List ℕ → Type 0
IsNull right = words_of right ≡ codes "NULL" ∷ []

-- `NULL` alone is no feature; else each part between commas is one
abbrev pub HasParts : List ℕ → List Feature → Type 0
HasParts right fs =
    (IsNull right × (fs ≡ [])) ⊎ ((IsNull right → ⊥) × Each IsPart (slice_split is_comma right) fs)

-- the two sides of a line, the right one in features, whose names may be none
pub record HasMuxForm (text left : List ℕ) (fs : List Feature) : Type 0 where
  pub right : List ℕ
  pub sides : HasSides text left right
  pub parts : HasParts right fs

-- the text names one pin, and it is one of the interconnect's inputs
pub record NamesInput (block : PbType) (mode : Mode) (inter : Inter) (text : List ℕ) (pin : LocalPin) : Type 0 where
  pub reads : ReadsPin block mode Source text pin
  pub inputs : List LocalPin
  pub are : ReadsPins block mode Source inter.input inputs
  pub among : Has inputs pin

abbrev pub pins_in : List PinFeatures → List LocalPin
pins_in given = map (λ g. g.pin) given

-- a line for a pin that no line before it was for
pub record GivesPin (block : PbType) (mode : Mode) (inter : Inter) (before : List PinFeatures) (line : LineAt)
    (given : PinFeatures) : Type 0 where
  pub left : List ℕ
  pub form : HasMuxForm line.text left given.features
  pub names : NamesInput block mode inter left given.pin
  pub new : Has (pins_in before) given.pin → ⊥
  pub named : AreNamed given.features

abbrev pub SaysMux : PbType → Mode → Inter → List PinFeatures → LineAt → List PinFeatures → Type 0
SaysMux block mode inter before line here =
    (given : PinFeatures) × (here ≡ given ∷ []) × GivesPin block mode inter before line given

-- the line has the form of a line for a pin that a line before it was for
pub record GivesAgain (block : PbType) (mode : Mode) (inter : Inter) (before : List PinFeatures) (line : LineAt) : Type 0 where
  pub left : List ℕ
  pub features : List Feature
  pub pin : LocalPin
  pub form : HasMuxForm line.text left features
  pub names : NamesInput block mode inter left pin
  pub again : Has (pins_in before) pin

-- the line has its form, but the left side names no input
pub record NamesNoInput (block : PbType) (mode : Mode) (inter : Inter) (line : LineAt) : Type 0 where
  pub left : List ℕ
  pub features : List Feature
  pub form : HasMuxForm line.text left features
  pub none : (pin : LocalPin) → NamesInput block mode inter left pin → ⊥

-- the line is for a new pin, but a name is no feature's name
pub record MisnamesFeature (block : PbType) (mode : Mode) (inter : Inter) (before : List PinFeatures) (line : LineAt) : Type 0 where
  pub left : List ℕ
  pub features : List Feature
  pub pin : LocalPin
  pub form : HasMuxForm line.text left features
  pub names : NamesInput block mode inter left pin
  pub new : Has (pins_in before) pin → ⊥
  pub misnamed : AreNamed features → ⊥

-- a line of no form, then a left side that is no input, then a pin that had a line, then a name
abbrev pub RefusesMux : PbType → Mode → Inter → List PinFeatures → LineAt → LineError → Type 0
RefusesMux block mode inter before line (BadLine at) =
    (at ≡ line.number)
    × (((left : List ℕ) (fs : List Feature) → HasMuxForm line.text left fs → ⊥) ⊎ GivesAgain block mode inter before line)
RefusesMux block mode inter before line (UnknownInput at) = (at ≡ line.number) × NamesNoInput block mode inter line
RefusesMux block mode inter before line (FeatureName at) = (at ≡ line.number) × MisnamesFeature block mode inter before line
RefusesMux block mode inter before line _ = ⊥

-- the features of an interconnect's input pins, line by line, each pin once
abbrev pub ListsMux : PbType → Mode → Inter → List ℕ → List PinFeatures → Type 0
ListsMux block mode inter text given = LinesSay (SaysMux block mode inter) [] (said_lines text) given

abbrev pub RefusesMuxText : PbType → Mode → Inter → List ℕ → LineError → Type 0
RefusesMuxText block mode inter text e = StopsAt (SaysMux block mode inter) (RefusesMux block mode inter) (said_lines text) e
