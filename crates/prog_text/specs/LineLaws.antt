-- Laws of single lines of a programming's text, of names, and of the lines of a file.
use Rattle.std.specs.Prelude.{◌≡◌, ◌≢◌, ◌<◌, ℕ, List, [], length, IsUtf8}
use Rattle.std.specs.List.{AllPass}
use Rattle.std.specs.Str.Lines.{lines}
use Rattle.vtr_base.specs.Spans.{is_word_byte}
use Rattle.pb_expand.specs.Graph.{Graph}
use Rattle.prog_map.specs.declared.setting.Setting.{Setting}
use Rattle.prog_map.specs.Choices.{Choices, IsProgOf}
use Rattle.prog_map.specs.Sites.{with_setting}
use Rattle.prog_text.specs.declared.error.ProgError.{ProgError}
use Rattle.prog_text.specs.declared.error.ProgError.TheVariants.{OutOfMemory}
use Rattle.prog_text.specs.Laws.{AreOneRefusal}
use Rattle.prog_text.specs.Lines.{AreLines}
use Rattle.prog_text.specs.Names.{instance_name, pin_name}
use Rattle.prog_text.specs.Sayings.{AreWords, Says}
use Rattle.prog_text.specs.Settings.{IsNamed}
use Rattle.prog_text.specs.Text.{Lacks}

-- a text divides into words in one way at most
abbrev pub HasOneWords : Type 0
HasOneWords = (text : List ℕ) (ws vs : List (List ℕ)) → AreWords text ws → AreWords text vs → ws ≡ vs

-- a line names one site and choice at most
abbrev pub NamesOneSetting : Graph → Type 0
NamesOneSetting g = (line : List ℕ) (x y : Setting) → IsNamed g (Says line) x → IsNamed g (Says line) y → x ≡ y

-- a line that names a site and a choice lacks nothing
abbrev pub LacksNothingNamed : Graph → Type 0
LacksNothingNamed g =
    (line : List ℕ) (x : Setting) (n : ℕ) (e : ProgError) → IsNamed g (Says line) x → Lacks g (Says line) n e → e ≡ OutOfMemory

-- a line lacks one thing
abbrev pub LacksOneThing : Graph → Type 0
LacksOneThing g =
    (line : List ℕ) (n : ℕ) (e f : ProgError) → Lacks g (Says line) n e → Lacks g (Says line) n f → AreOneRefusal e f

-- a programming of the graph stays one where a site is set to what a line names
abbrev pub KeepsProg : Graph → Type 0
KeepsProg g =
    (c : Choices) (line : List ℕ) (x : Setting) → IsProgOf g c → IsNamed g (Says line) x → IsProgOf g (with_setting c x)

-- a text that stands between blanks: it has a byte and no white space, and is UTF-8
pub record IsText (text : List ℕ) : Type 0 where
  pub some : text ≢ []
  pub dark : AllPass is_word_byte text
  pub utf8 : IsUtf8 text

-- so is how instances and pins are written
pub record AreTexts (g : Graph) : Type 0 where
  pub instances : (n : ℕ) → n < length g.instances → IsText (instance_name g n)
  pub pins : (n : ℕ) → n < length g.pins → IsText (pin_name g n)

-- bytes have one list of lines
abbrev pub HasOneLines : Type 0
HasOneLines = (bytes : List ℕ) (ls : List (List ℕ)) → AreLines bytes ls → lines bytes ≡ ls
