-- How far a programming says what was decided.
use Rattle.std.specs.Prelude.{◌≡◌, ◌<◌, ◌≤◌, ◌↔◌, ℕ, false, List, Some, None}
use Rattle.pb_expand.specs.Graph.{Graph, edge_ix}
use Rattle.prog_map.specs.Choices.{Choices, mode_of, pick_of, is_used, lut_of, IsEdgeInto}
use Rattle.task_types.specs.declared.decision.Decision.{Decision}
use Rattle.task_types.specs.Decisions.{mode_in, occupant_in, edge_in}
use Rattle.search_rules.specs.Reading.{is_taken, wire_of}

-- of the first n instances it says their modes
pub record SaysModes (made : List Decision) (c : Choices) (n : ℕ) : Type 0 where
  pub said : (pb : ℕ) → pb < n → mode_of c pb ≡ mode_in made pb
  pub more : (pb : ℕ) → n ≤ pb → mode_of c pb ≡ None

-- of the first n instances it says which are used
pub record SaysUses (made : List Decision) (c : Choices) (n : ℕ) : Type 0 where
  pub said : (leaf : ℕ) → leaf < n → is_used c leaf ≡ is_taken (occupant_in made leaf)
  pub more : (leaf : ℕ) → n ≤ leaf → is_used c leaf ≡ false

-- of the first n instances it says which input they pass on
pub record SaysWires (made : List Decision) (c : Choices) (n : ℕ) : Type 0 where
  pub said : (leaf : ℕ) → leaf < n → lut_of c leaf ≡ wire_of (occupant_in made leaf)
  pub more : (leaf : ℕ) → n ≤ leaf → lut_of c leaf ≡ None

-- it was decided that the pin takes that edge, one of the first n, in the mode
pub record IsPicked (g : Graph) (made : List Decision) (n pin mode number : ℕ) : Type 0 where
  pub before : number < n
  pub into : IsEdgeInto g pin mode number
  pub taken : edge_in made pin mode ≡ Some (Some (edge_ix number))

-- of the first n edges it says which are taken
pub record SaysPicks (g : Graph) (made : List Decision) (c : Choices) (n : ℕ) : Type 0 where
  pub exact : (pin mode number : ℕ) → (pick_of c pin mode ≡ Some number) ↔ IsPicked g made n pin mode number

-- it says the modes of the first so many instances, which of so many are used and pass an input on, and
-- which of the first so many edges are taken, and nothing more
pub record Says (g : Graph) (made : List Decision) (c : Choices) (modes uses wires picks : ℕ) : Type 0 where
  pub modes_said : SaysModes made c modes
  pub uses_said : SaysUses made c uses
  pub wires_said : SaysWires made c wires
  pub picks_said : SaysPicks g made c picks
