-- A file that was read to its end isn't too deep.
use Rattle.std.proofs.Common.{◌≡◌, ℕ, List, [], subst}
use Rattle.vtr_base.specs.declared.place.Place.{Place}
use Rattle.elem_text.specs.Grammar.{Reads}
use Rattle.elem_text.specs.Stack.{Stack}
use Rattle.elem_text.specs.Refusals.{DeepensFrom}
use Rattle.elem_text.proofs.Along.{Along}
use Rattle.elem_text.proofs.OneAnswer.{shallow_not_deep}

pub along_shallow : (start : Place) (bytes : List ℕ) (place : Place) (rest : List ℕ) (s : Stack) → Along start bytes place rest s → rest ≡ [] → DeepensFrom start bytes → ⊥
along_shallow start bytes place rest s a n =
    let R : List ℕ → Type 0 = λ x. Reads start bytes a.ps place x in
    shallow_not_deep start bytes a.ps place (subst R n a.reads) a.shallow
