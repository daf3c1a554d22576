-- The lines of `trace`: for each input pin of a leaf, in the order of the pins, the pin, a space, and
-- the last pin of the walk back from it, or `open`.
use Rattle.std.specs.Prelude.{◌≡◌, ◌+◌, ◌&&◌, ◌⊎◌, ℕ, Bool, true, false, List, [], ◌∷◌, ◌++◌, if◌then◌else◌, slice_get, codes}
use Rattle.std.specs.Option.{option_map_or}
use Rattle.arch_types.specs.declared.block.PbType.{PbType}
use Rattle.arch_types.specs.declared.block.Port.{Port}
use Rattle.arch_types.specs.declared.block.Side.{Side}
use Rattle.arch_types.specs.declared.block.Side.TheVariants.{Input, Output, Clock}
use Rattle.pb_expand.specs.declared.number.PinAt.{PinAt}
use Rattle.pb_expand.specs.declared.number.PbKind.{PbKind}
use Rattle.pb_expand.specs.declared.number.PbKind.TheVariants.{Leaf, Modes}
use Rattle.pb_expand.specs.Graph.{Graph, block_at, kind_of}
use Rattle.prog_map.specs.Choices.{Choices}
use Rattle.prog_text.specs.Names.{pin_name}
use Rattle.prog_map.specs.Leaves.{port_at}
use Rattle.prog_map.specs.Back.{StepsBack}
use Rattle.prog_map.specs.Walk.{IsLast}

abbrev pub is_leaf : PbKind → Bool
is_leaf (Leaf kind) = true
is_leaf (Modes count) = false

abbrev pub is_input : Side → Bool
is_input Input = true
is_input Output = false
is_input Clock = false

-- the pin is an input pin of a leaf
abbrev pub is_leaf_input : Graph → PinAt → Bool
is_leaf_input g pin =
    option_map_or (λ (block : PbType). is_leaf (kind_of block.kind)) (block_at g pin.pb.0) false
    && option_map_or (λ (port : Port). is_input port.side) (port_at g pin) false

-- the numbers of the input pins of leaves among pins that are numbered from n on
abbrev pub leaf_inputs_from : Graph → ℕ → List PinAt → List ℕ
leaf_inputs_from g n [] = []
leaf_inputs_from g n (pin ∷ pins) =
    if is_leaf_input g pin then n ∷ leaf_inputs_from g (n + 1) pins else leaf_inputs_from g (n + 1) pins

abbrev pub leaf_inputs : Graph → List ℕ
leaf_inputs g = leaf_inputs_from g 0 g.pins

-- what the walk back from a pin ends at
pub record WalksTo (g : Graph) (c : Choices) (pin last : ℕ) : Type 0 where
  pub first : ℕ
  pub steps : StepsBack g c pin first
  pub is_last : IsLast (StepsBack g c) pin last

-- what is printed for a pin
abbrev pub IsAnswer : Graph → Choices → ℕ → List ℕ → Type 0
IsAnswer g c pin answer =
    (((p : ℕ) → StepsBack g c pin p → ⊥) × (answer ≡ codes "open"))
    ⊎ ((last : ℕ) × WalksTo g c pin last × (answer ≡ pin_name g last))

-- the text has one line for each of these pins
abbrev pub AreAnswers : Graph → Choices → List ℕ → List ℕ → Type 0
AreAnswers g c [] text = text ≡ []
AreAnswers g c (pin ∷ pins) text =
    (answer rest : List ℕ) × IsAnswer g c pin answer × AreAnswers g c pins rest
    × (text ≡ pin_name g pin ++ 32 ∷ (answer ++ 10 ∷ rest))

-- the same of the pin of number n
abbrev pub leaf_input_at : Graph → ℕ → Bool
leaf_input_at g n = option_map_or (is_leaf_input g) (slice_get g.pins n) false

-- the text grew by the answer for a pin
pub record AddsAnswer (g : Graph) (c : Choices) (pin : ℕ) (old new : List ℕ) : Type 0 where
  pub answer : List ℕ
  pub is : IsAnswer g c pin answer
  pub got : new ≡ old ++ answer

-- the text grew by the line of a pin
pub record AddsLine (g : Graph) (c : Choices) (pin : ℕ) (old new : List ℕ) : Type 0 where
  pub answer : List ℕ
  pub is : IsAnswer g c pin answer
  pub got : new ≡ old ++ (pin_name g pin ++ 32 ∷ (answer ++ 10 ∷ []))
