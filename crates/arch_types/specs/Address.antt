-- Instances of a block type by their address, a list of steps from the root of its tree.
use Rattle.std.specs.Prelude.{ℕ, zero, suc, ◌+◌, List, [], ◌∷◌, ◌++◌, Option, Some, None, option_and_then, if◌then◌else◌, nat_lt, slice_get}
use Rattle.arch_types.specs.declared.block.PbType.{PbType}
use Rattle.arch_types.specs.declared.block.Kind.{Kind, Modes', Row_of-Mode, end_of-Mode, more_of-Mode}
use Rattle.arch_types.specs.declared.block.Mode.{Mode, Mode', Row_of-PbType, end_of-PbType, more_of-PbType}
use Rattle.arch_types.specs.Tree.{modes_of, kids_of}

-- one step down: a mode, a child of that mode, and which instance of the child
pub record Hop : Type 0 where
  pub mode : ℕ
  pub child : ℕ
  pub instance : ℕ

-- the steps from the root to an instance
abbrev pub Address : Type 0
Address = List Hop

-- the pb_type one step below
abbrev pub child_at : PbType → Hop → Option PbType
child_at block hop =
    option_and_then (λ mode.
    option_and_then (λ kid. if nat_lt hop.instance kid.count then Some kid else None)
    (slice_get (kids_of mode) hop.child)) (slice_get (modes_of block.kind) hop.mode)

-- the pb_type of the instance at an address, where there is one
abbrev pub at : PbType → Address → Option PbType
at block [] = Some block
at block (hop ∷ hops) = option_and_then (λ kid. at kid hops) (child_at block hop)

abbrev pub step_to : Address → ℕ → ℕ → ℕ → Address
step_to here mode child instance = here ++ record { mode = mode; child = child; instance = instance } ∷ []

-- k instances of a child from instance n on, each followed by those below it
abbrev pub copies : (Address → List Address) → ℕ → ℕ → ℕ → ℕ → Address → List Address
copies under mode child n zero here = []
copies under mode child n (suc k) here =
    step_to here mode child n ∷ (under (step_to here mode child n) ++ copies under mode child (n + 1) k here)

-- the addresses of all instances below one, in preorder: by mode, then by child, then by instance
abbrev mutual
  pub below : Kind → Address → List Address
  below (Modes' n modes) here = in_modes modes 0 here
  below _ here = []

  pub in_modes : {m : _} → Row_of-Mode m → ℕ → Address → List Address
  in_modes end_of-Mode mode here = []
  in_modes (more_of-Mode m rest) mode here = in_mode m mode here ++ in_modes rest (mode + 1) here

  pub in_mode : Mode → ℕ → Address → List Address
  in_mode (Mode' name n kids inters metas) mode here = in_kids kids mode 0 here

  pub in_kids : {m : _} → Row_of-PbType m → ℕ → ℕ → Address → List Address
  in_kids end_of-PbType mode child here = []
  in_kids (more_of-PbType name count ports kind metas rest) mode child here =
      copies (λ a. below kind a) mode child 0 count here ++ in_kids rest mode (child + 1) here

-- the addresses of all instances of a block type, in preorder
abbrev pub instances_of : PbType → List Address
instances_of block = [] ∷ below block.kind []
