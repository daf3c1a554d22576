-- The pins of a mode's edges are there: their instances, ports and bits.
use Rattle.std.proofs.Common.{◌≡◌, ◌+◌, ◌-◌, ◌<◌, ◌≤◌, ◌⊎◌, ℕ, zero, suc, List, [], ◌∷◌, Option, Some, None, map, slice_get, refl, sym, subst, inl, inr, arith}
use Rattle.std.specs.List.{flat_map}
use Rattle.vtr_base.specs.Lists.{Has, up_from}
use Rattle.arch_types.specs.declared.block.PbType.{PbType}
use Rattle.arch_types.specs.declared.block.Port.{Port}
use Rattle.arch_types.specs.declared.block.Side.{Side}
use Rattle.arch_types.specs.declared.block.Mode.{Mode}
use Rattle.arch_types.specs.declared.block.InterKind.{InterKind}
use Rattle.arch_types.specs.declared.block.InterKind.TheVariants.{Direct, Complete, Mux}
use Rattle.arch_types.specs.Tree.{kids_of}
use Rattle.arch_types.proofs.Once.{has_either}
use Rattle.mode_edges.specs.declared.pin.LocalPin.{LocalPin}
use Rattle.mode_edges.specs.declared.pin.ChildAt.{ChildAt}
use Rattle.mode_edges.specs.declared.pin.EdgeEnd.{EdgeEnd}
use Rattle.mode_edges.specs.PinWords.{Index, AreMembers, Word, NamesPort, NamesOwn, NamesChild, NamesAll, own_pin, child_pin}
use Rattle.mode_edges.specs.Edges.{IsPairFrom, IsEdge}
use Rattle.pb_expand.proofs.Lists.{has_at}

-- the bit of a port
abbrev pub HasBit : List Port → ℕ → ℕ → Type 0
HasBit ports port bit = (is : Port) × (slice_get ports port ≡ Some is) × (bit < is.width)

-- the pin of the block itself, or of an instance of a child, is there
abbrev pub IsThereAt : PbType → Mode → Option ChildAt → ℕ → ℕ → Type 0
IsThereAt block mode None port bit = HasBit block.ports port bit
IsThereAt block mode (Some c) port bit = (kid : PbType) × (slice_get (kids_of mode) c.child ≡ Some kid) × (c.instance < kid.count) × HasBit kid.ports port bit

abbrev pub IsThere : PbType → Mode → LocalPin → Type 0
IsThere block mode pin = IsThereAt block mode pin.owner pin.port pin.bit

range_low : (n k b : ℕ) → Has (up_from n k) b → (n ≤ b) × (b < n + k)
range_low n zero b has = absurd has
range_low n (suc k) b (inl is) = (omega arith, omega arith)
range_low n (suc k) b (inr has) = let rest = range_low (n + 1) k b has in (omega (arith, rest.0), omega (arith, rest.1))

pub member_inside : (index : Index) (count : ℕ) (members : List ℕ) (b : ℕ) → AreMembers index count members → Has members b → b < count
member_inside None count members b are has = let within = range_low 0 count b (subst (λ ms. Has ms b) are has) in omega (arith, within.1)
member_inside (Some r) count members b are has =
    let within = range_low r.low ((r.high + 1) - r.low) b (subst (λ ms. Has ms b) are.1 has) in
    omega (arith, are.0, within.0, within.1)

pub map_has : {X Y : Type 0} (f : X → Y) (xs : List X) (y : Y) → Has (map f xs) y → (x : X) × Has xs x × (y ≡ f x)
map_has f [] y has = absurd has
map_has f (x ∷ xs) y (inl is) = (x, inl refl, is)
map_has f (x ∷ xs) y (inr has) = let rest = map_has f xs y has in (rest.0, inr rest.1, rest.2)

pub flat_map_has : {X Y : Type 0} (f : X → List Y) (xs : List X) (y : Y) → Has (flat_map f xs) y → (x : X) × Has xs x × Has (f x) y
flat_map_has f [] y has = absurd has
flat_map_has f (x ∷ xs) y has = elim (has_either (f x) (flat_map f xs) y has) [
  | inl left ↦ (x, inl refl, left)
  | inr right ↦ let rest = flat_map_has f xs y right in (rest.0, inr rest.1, rest.2)
]

port_there : (ports : List Port) (Fits : Side → Type 0) (w : Word) (port : ℕ) (bits : List ℕ) (b : ℕ) → NamesPort ports Fits w port bits → Has bits b → HasBit ports port b
port_there ports Fits w port bits b names has = (names.is, names.there, member_inside w.bits names.is.width bits b names.members has)

own_there : (block : PbType) (mode : Mode) (role : EdgeEnd) (w : Word) (pins : List LocalPin) (p : LocalPin) → NamesOwn block role w pins → Has pins p → IsThere block mode p
own_there block mode role w pins p names has =
    let bit = map_has (own_pin names.port) names.bits p (subst (λ ps. Has ps p) names.are has) in
    let there : IsThere block mode (own_pin names.port bit.0) = port_there block.ports _ w names.port names.bits bit.0 names.names bit.1 in
    subst (IsThere block mode) (sym bit.2) there

child_there : (block : PbType) (mode : Mode) (role : EdgeEnd) (w : Word) (pins : List LocalPin) (p : LocalPin) → NamesChild block mode role w pins → Has pins p → IsThere block mode p
child_there block mode role w pins p names has =
    let instance = flat_map_has (λ i. map (child_pin names.child i names.port) names.bits) names.instances p (subst (λ ps. Has ps p) names.are has) in
    let bit = map_has (child_pin names.child instance.0 names.port) names.bits p instance.2 in
    let counted = member_inside names.index names.kid.count names.instances instance.0 names.members instance.1 in
    let there : IsThere block mode (child_pin names.child instance.0 names.port bit.0) =
    (names.kid, names.there, counted, port_there names.kid.ports _ w names.port names.bits bit.0 names.names bit.1) in
    subst (IsThere block mode) (sym bit.2) there

word_there : (block : PbType) (mode : Mode) (role : EdgeEnd) (w : Word) (pins : List LocalPin) (p : LocalPin) → NamesOwn block role w pins ⊎ NamesChild block mode role w pins →
    Has pins p → IsThere block mode p
word_there block mode role w pins p (inl names) has = own_there block mode role w pins p names has
word_there block mode role w pins p (inr names) has = child_there block mode role w pins p names has

all_there : (block : PbType) (mode : Mode) (role : EdgeEnd) (texts : List (List ℕ)) (pins : List LocalPin) (p : LocalPin) → NamesAll block mode role texts pins →
    Has pins p → IsThere block mode p
all_there block mode role [] pins p none has = absurd (subst (λ ps. Has ps p) none has)
all_there block mode role (text ∷ texts) pins p names has =
    elim (has_either names.0 names.1 p (subst (λ ps. Has ps p) names.4 has)) [
      | inl left ↦ word_there block mode role names.2.word names.0 p names.2.named left
      | inr right ↦ all_there block mode role texts names.1 p names.3 right
    ]

pub pair_has : (kind : InterKind) (ins outs : List LocalPin) (n : ℕ) (s d : LocalPin) → IsPairFrom kind ins outs n s d → Has ins s × Has outs d
pair_has Direct ins outs n s d pair = (has_at ins n s pair.0, has_at outs n d pair.1)
pair_has Complete ins outs n s d pair = (has_at ins n s pair.0, pair.1)
pair_has Mux ins outs n s d pair = (has_at ins n s pair.0, pair.1)

-- both ends of an edge are there
pub edge_there : (block : PbType) (mode : Mode) (inter : ℕ) (s d : LocalPin) → IsEdge block mode inter s d → IsThere block mode s × IsThere block mode d
edge_there block mode inter s d edge =
    let gives = edge.gives.1 in
    let has = pair_has gives.here.kind gives.ins gives.outs edge.gives.0 s d gives.pair in (
      all_there block mode _ gives.reads_ins.words gives.ins s gives.reads_ins.names has.0,
      all_there block mode _ gives.reads_outs.words gives.outs d gives.reads_outs.names has.1,
    )
