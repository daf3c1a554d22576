-- What the reader's contract rests on: a file has one answer.
use Rattle.std.specs.Prelude.{◌≡◌, ℕ, List}
use Rattle.vtr_base.specs.declared.place.Place.{Place}
use Rattle.elem_text.specs.declared.elem.Elem.{Elem}
use Rattle.elem_text.specs.Grammar.{Spells}
use Rattle.elem_text.specs.Refusals.{BreaksAt, IsTooDeep}

abbrev pub SpellsOneElement : Type 0
SpellsOneElement = (bytes : List ℕ) (a b : Elem) → Spells bytes a → Spells bytes b → a ≡ b

abbrev pub BreaksAtOnePlace : Type 0
BreaksAtOnePlace = (bytes : List ℕ) (p q : Place) → BreaksAt bytes p → BreaksAt bytes q → p ≡ q

abbrev pub BreaksOrIsSpelled : Type 0
BreaksOrIsSpelled = (bytes : List ℕ) (place : Place) (e : Elem) → BreaksAt bytes place → Spells bytes e → ⊥

abbrev pub BreaksOrIsTooDeep : Type 0
BreaksOrIsTooDeep = (bytes : List ℕ) (place : Place) → BreaksAt bytes place → IsTooDeep bytes → ⊥
