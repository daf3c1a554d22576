-- The rules of architecture files, each of one element where it stands. A rule on which children an
-- element has is broken at that element.
use Rattle.std.specs.Prelude.{◌≡◌, ◌≢◌, ◌≤◌, ◌⊎◌, ℕ, true, List, [], ◌∷◌, ◌++◌, Some, codes, slice_get}
use Rattle.vtr_base.specs.Lists.{Has}
use Rattle.elem_text.specs.declared.elem.Elem.{Elem}
use Rattle.arch_rules.specs.declared.error.LimitKind.{LimitKind}
use Rattle.arch_rules.specs.declared.error.LimitKind.TheVariants.{Inputs, NumPins, NumPb, Capacity}
use Rattle.arch_rules.specs.declared.role.Role.{Role}
use Rattle.arch_rules.specs.declared.role.Role.TheVariants as role
use Rattle.arch_rules.specs.declared.role.Sort.{Sort}
use Rattle.arch_types.specs.Names.{IsPlainName, IsUnbrokenName}
use Rattle.arch_rules.specs.Elements.{name_of, kids_of, how_many, attribute, text_at, Lacks, Holds, HoldsOther}
use Rattle.arch_rules.specs.Numbers.{IsCount, IsLarge, IsOverEight, IsOne, IsCoordinate, IsPriority}
use Rattle.arch_rules.specs.Roles.{role_in, required, counted, sort_of, is_pb_type}

-- What is not read

-- a `single` whose place or priority isn't a plain number
abbrev pub IsOddSingle : Elem → Type 0
IsOddSingle e = HoldsOther e (codes "x") IsCoordinate ⊎ (HoldsOther e (codes "y") IsCoordinate ⊎ HoldsOther e (codes "priority") IsPriority)

abbrev pub HasNoMetadata : Elem → Type 0
HasNoMetadata e = how_many (codes "metadata") e ≡ 0

-- such a `single` isn't read where it has no metadata
abbrev pub IsUnread : Role → Elem → Type 0
IsUnread role.Single e = IsOddSingle e × HasNoMetadata e
IsUnread _ e = ⊥

-- Missing attributes

-- the first of these attributes that isn't there
abbrev pub IsFirstLacking : Elem → List (List ℕ) → List ℕ → Type 0
IsFirstLacking e [] name = ⊥
IsFirstLacking e (n ∷ ns) name = (Lacks e n × (name ≡ n)) ⊎ ((Lacks e n → ⊥) × IsFirstLacking e ns name)

abbrev pub IsMissing : Role → Elem → List ℕ → Type 0
IsMissing r e name = (IsUnread r e → ⊥) × IsFirstLacking e (required r) name

-- Numbers and names

-- a text may name an element of this role
abbrev pub MayName : Role → List ℕ → Type 0
MayName role.ModelPort text = IsPlainName text
MayName role.Tile text = IsPlainName text
MayName role.SubTile text = IsPlainName text
MayName role.TilePort text = IsPlainName text
MayName role.Block text = IsPlainName text
MayName role.PbType text = IsPlainName text
MayName role.Port text = IsPlainName text
MayName role.Mode text = IsPlainName text
MayName role.Inter text = IsUnbrokenName text
MayName _ text = Unit {0}

abbrev pub HasOddCount : Role → Elem → Type 0
HasOddCount r e = (name : List ℕ) × (counted r ≡ Some name) × HoldsOther e name IsCount

abbrev pub HasOddSize : Role → Elem → Type 0
HasOddSize role.FixedLayout e = HoldsOther e (codes "width") IsCoordinate ⊎ HoldsOther e (codes "height") IsCoordinate
HasOddSize _ e = ⊥

abbrev pub HasBadNumber : Role → Elem → Type 0
HasBadNumber r e = HoldsOther e (codes "name") (MayName r) ⊎ (HasOddCount r e ⊎ HasOddSize r e)

-- Names that are taken

-- where a list of elements stands: what their parent is, and the name of the pb_type next above them
pub record Inside : Type 0 where
  pub parent : Role
  pub owner : List ℕ

abbrev pub role_at : Inside → Elem → Role
role_at at e = role_in at.parent (name_of e)

-- one of these elements has this sort and this name
pub record IsAmong (at : Inside) (before : List Elem) (sort : Sort) (name : List ℕ) : Type 0 where
  pub first : Elem
  pub earlier : Has before first
  pub sorted : sort_of (role_at at first) ≡ Some sort
  pub named : text_at first (codes "name") ≡ name

-- an earlier sibling of the same sort has the element's name
abbrev pub IsSecond : Inside → List Elem → Elem → Type 0
IsSecond at before e = (sort : Sort) × (sort_of (role_at at e) ≡ Some sort) × IsAmong at before sort (text_at e (codes "name"))

abbrev pub IsOwners : Inside → Elem → Type 0
IsOwners at e = (role_at at e ≡ role.PbType) × (text_at e (codes "name") ≡ at.owner)

-- the name of the element is taken: by an earlier sibling, or, of a child, by its parent
abbrev pub IsTaken : Inside → List Elem → Elem → Type 0
IsTaken at before e = IsSecond at before e ⊎ IsOwners at e

-- Forms that are left out

-- so many ports of each side
pub record HasPorts (e : Elem) (inputs outputs clocks : ℕ) : Type 0 where
  pub inputs_are : how_many (codes "input") e ≡ inputs
  pub outputs_are : how_many (codes "output") e ≡ outputs
  pub clocks_are : how_many (codes "clock") e ≡ clocks

-- each port of this side has one pin
abbrev pub AreSingle : Elem → List ℕ → Type 0
AreSingle e side = (k : ℕ) (port : Elem) → slice_get (kids_of e) k ≡ Some port → name_of port ≡ side → Holds port (codes "num_pins") IsOne

-- a pad, a LUT or a latch with the ports that it has to have
abbrev pub IsInPad : Elem → Type 0
IsInPad e = HasPorts e 0 1 0 × AreSingle e (codes "output")

abbrev pub IsOutPad : Elem → Type 0
IsOutPad e = HasPorts e 1 0 0 × AreSingle e (codes "input")

abbrev pub IsLut : Elem → Type 0
IsLut e = HasPorts e 1 1 0 × AreSingle e (codes "output")

abbrev pub IsLatch : Elem → Type 0
IsLatch e = HasPorts e 1 1 1 × AreSingle e (codes "input") × AreSingle e (codes "output") × AreSingle e (codes "clock")

-- `.subckt`, a blank, and one word
abbrev pub IsBoxOf : List ℕ → List ℕ → Type 0
IsBoxOf model word = (model ≡ codes ".subckt " ++ word) × IsUnbrokenName word

-- the `blif_model` of a leaf, which has the ports that go with it
abbrev pub FitsModel : Elem → List ℕ → Type 0
FitsModel e model =
    ((model ≡ codes ".input") × IsInPad e) ⊎ (((model ≡ codes ".output") × IsOutPad e) ⊎ (((model ≡ codes ".names") × IsLut e)
    ⊎ (((model ≡ codes ".latch") × IsLatch e) ⊎ ((word : List ℕ) × IsBoxOf model word))))

abbrev pub HasNoneBelow : Elem → Type 0
HasNoneBelow e = (how_many (codes "pb_type") e ≡ 0) × (how_many (codes "interconnect") e ≡ 0)

-- a leaf, by its `blif_model`, has no modes, children or interconnects
abbrev pub IsLeaf : Elem → List ℕ → Type 0
IsLeaf e model = (how_many (codes "mode") e ≡ 0) × HasNoneBelow e × FitsModel e model

-- a pb_type with modes has no children or interconnects beside them
abbrev pub HasModes : Elem → Type 0
HasModes e = (1 ≤ how_many (codes "mode") e) × HasNoneBelow e

-- a pb_type with children and one interconnect, which form its one mode
abbrev pub IsOneMode : Elem → Type 0
IsOneMode e = (how_many (codes "mode") e ≡ 0) × (1 ≤ how_many (codes "pb_type") e) × (how_many (codes "interconnect") e ≡ 1)

abbrev pub IsShaped : Elem → Type 0
IsShaped e = Holds e (codes "blif_model") (IsLeaf e) ⊎ (Lacks e (codes "blif_model") × (HasModes e ⊎ IsOneMode e))

abbrev pub IsUnsupported : Role → Elem → Type 0
IsUnsupported role.Foreign e = Unit {0}
IsUnsupported role.Tile e = how_many (codes "sub_tile") e ≢ 1
IsUnsupported role.Site e = HoldsOther e (codes "pin_mapping") (λ text. text ≡ codes "direct")
IsUnsupported role.Region e = how_many (codes "metadata") e ≢ 0
IsUnsupported role.Single e = IsOddSingle e × (HasNoMetadata e → ⊥)
IsUnsupported role.Block e = HoldsOther e (codes "num_pb") IsOne ⊎ (IsShaped e → ⊥)
IsUnsupported role.PbType e = IsShaped e → ⊥
IsUnsupported _ e = ⊥

-- Limits

-- an input port of more than 8 pins
abbrev pub IsWideInput : Elem → Type 0
IsWideInput port = (name_of port ≡ codes "input") × Holds port (codes "num_pins") IsOverEight

abbrev pub HasWideInput : Elem → Type 0
HasWideInput e = (k : ℕ) × (port : Elem) × (slice_get (kids_of e) k ≡ Some port) × IsWideInput port

abbrev pub IsLutModel : Elem → Type 0
IsLutModel e = attribute e (codes "blif_model") ≡ Some (codes ".names")

abbrev pub IsTooLarge : Role → Elem → List ℕ → Type 0
IsTooLarge r e name = (counted r ≡ Some name) × Holds e name IsLarge

-- the limit that is passed
abbrev pub Passes : Role → Elem → LimitKind → Type 0
Passes r e NumPins = IsTooLarge r e (codes "num_pins")
Passes r e NumPb = IsTooLarge r e (codes "num_pb")
Passes r e Capacity = IsTooLarge r e (codes "capacity")
Passes r e Inputs = (is_pb_type r ≡ true) × (Holds e (codes "num_pb") IsLarge → ⊥) × IsLutModel e × HasWideInput e
