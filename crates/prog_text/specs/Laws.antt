-- Laws of the text of a programming.
use Rattle.std.specs.Prelude.{◌≡◌, ◌⊎◌, ℕ, List}
use Rattle.pb_expand.specs.Graph.{Graph}
use Rattle.prog_text.specs.declared.error.ProgError.{ProgError}
use Rattle.prog_text.specs.declared.error.ProgError.TheVariants.{OutOfMemory}
use Rattle.prog_map.specs.Choices.{Choices}
use Rattle.prog_text.specs.Text.{SpellsProg, RefusesFrom}

-- a text spells one programming at most
abbrev pub SpellsOneProg : Graph → Type 0
SpellsOneProg g = (bytes : List ℕ) (c d : Choices) → SpellsProg g bytes c → SpellsProg g bytes d → c ≡ d

-- a text that spells a programming is refused by want of memory alone
abbrev pub IsReadWhereSpelled : Graph → Type 0
IsReadWhereSpelled g =
    (first : ℕ) (bytes : List ℕ) (c : Choices) (e : ProgError) → SpellsProg g bytes c → RefusesFrom g first bytes e → e ≡ OutOfMemory

-- two refusals are one, or one of them is want of memory
abbrev pub AreOneRefusal : ProgError → ProgError → Type 0
AreOneRefusal e f = (e ≡ f) ⊎ ((e ≡ OutOfMemory) ⊎ (f ≡ OutOfMemory))

-- a text is refused in one way
abbrev pub RefusesInOneWay : Graph → Type 0
RefusesInOneWay g =
    (first : ℕ) (bytes : List ℕ) (e f : ProgError) → RefusesFrom g first bytes e → RefusesFrom g first bytes f → AreOneRefusal e f
