-- Lines as a writer of BLIF files ends them, and what is read of them.
use Rattle.std.specs.Prelude.{◌≡◌, ℕ, true, false, List, [], ◌∷◌, ◌++◌, IsUtf8, flat_map}
use Rattle.std.specs.List.{AllZip}
use Rattle.vtr_base.specs.Spans.{is_white, Lacks}
use Rattle.blif_lines.specs.Lines.{LineSaid, AreLines}

-- the text of one line: it begins with a word, has no comment, and isn't joined with the next line
pub record IsWrittenLine (text : List ℕ) : Type 0 where
  pub first : ℕ
  pub rest : List ℕ
  pub spelled : text ≡ first ∷ rest
  pub dark : is_white first ≡ false
  pub no_feed : Lacks text 10
  pub no_return : Lacks text 13
  pub plain : Lacks text 35
  pub unjoined : (front : List ℕ) → text ≡ front ++ 92 ∷ [] → ⊥
  pub utf8 : IsUtf8 text

-- each is ended by a line feed
abbrev pub ended : List ℕ → List ℕ
ended text = text ++ 10 ∷ []

-- the line is read as it was written
pub record IsReadBack (text : List ℕ) (l : LineSaid) : Type 0 where
  pub text_is : l.text ≡ text
  pub utf8 : l.is_utf8 ≡ true

-- these are the lines of the file
pub record HasWrittenLines (texts : List (List ℕ)) : Type 0 where
  pub ls : List LineSaid
  pub are : AreLines (flat_map ended texts) ls
  pub each : AllZip IsReadBack texts ls
