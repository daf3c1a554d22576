-- What lines of metadata say, in their order, or which of them is the first that says nothing.
use Rattle.std.specs.Prelude.{◌≡◌, List, [], ◌∷◌, ◌++◌}
use Rattle.meta_parts.specs.Lines.{LineAt}
use Rattle.meta_lines.specs.declared.error.LineError.{LineError}

-- line by line: what a line says may depend on what the lines before it said, and it stands behind
-- that
abbrev pub LinesSay : {V : Type 0} → (List V → LineAt → List V → Type 0) → List V → List LineAt → List V → Type 0
LinesSay Says before [] all = all ≡ before
LinesSay {V = V} Says before (line ∷ lines) all =
    (here : List V) × Says before line here × LinesSay Says (before ++ here) lines all

-- the lines before one say something, and this one is refused
pub record StopsAt {V : Type 0} (Says : List V → LineAt → List V → Type 0)
    (Refuses : List V → LineAt → LineError → Type 0) (lines : List LineAt) (e : LineError) : Type 0 where
  pub front : List LineAt
  pub line : LineAt
  pub behind : List LineAt
  pub spelled : lines ≡ front ++ line ∷ behind
  pub before : List V
  pub said : LinesSay Says [] front before
  pub refused : Refuses before line e
