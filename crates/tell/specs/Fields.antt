-- How the fields of a refusal are printed.
use Rattle.std.specs.Prelude.{ℕ, List, ◌∷◌, ◌++◌}
use Rattle.std.specs.Fmt.{decimal}
use Rattle.vtr_base.specs.declared.place.Place.{Place}

-- a place is `line:byte`
abbrev pub place_text : Place → List ℕ
place_text place = decimal place.line ++ 58 ∷ decimal place.byte

-- a heading, a name and a place
abbrev pub named_text : List ℕ → List ℕ → Place → List ℕ
named_text heading name place = heading ++ (name ++ 32 ∷ place_text place)

-- a heading and two fields
abbrev pub pair_text : List ℕ → List ℕ → List ℕ → List ℕ
pair_text heading one two = heading ++ (one ++ 32 ∷ two)
