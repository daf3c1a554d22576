-- What names in a graph tell.
use Rattle.std.specs.Prelude.{◌≡◌, ◌<◌, ℕ, List, length}
use Rattle.std.specs.List.{AllPass}
use Rattle.vtr_base.specs.Spans.{is_word_byte}
use Rattle.pb_expand.specs.Graph.{Graph}
use Rattle.prog_text.specs.Names.{instance_name, pin_name, NamesInstance, NamesPin, NamesMode}

-- a text is the name of one instance at most
abbrev pub TellsOneInstance : Graph → Type 0
TellsOneInstance g = (text : List ℕ) (m n : ℕ) → NamesInstance g text m → NamesInstance g text n → m ≡ n

-- of one pin at most
abbrev pub TellsOnePin : Graph → Type 0
TellsOnePin g = (text : List ℕ) (m n : ℕ) → NamesPin g text m → NamesPin g text n → m ≡ n

-- and of one mode of an instance at most
abbrev pub TellsOneMode : Graph → Type 0
TellsOneMode g = (pb : ℕ) (text : List ℕ) (m n : ℕ) → NamesMode g pb text m → NamesMode g pb text n → m ≡ n

-- what instances and pins are written as has no white space
pub record AreWords (g : Graph) : Type 0 where
  pub instances : (n : ℕ) → n < length g.instances → AllPass is_word_byte (instance_name g n)
  pub pins : (n : ℕ) → n < length g.pins → AllPass is_word_byte (pin_name g n)
