-- Pins that are there have their places among the instances and the pins.
use Rattle.std.proofs.Common.{◌≡◌, ◌+◌, ◌<◌, ℕ, zero, suc, true, nat_lt, if◌then◌else◌, List, [], ◌∷◌, ◌++◌, Option, Some, None, IsSome, length, slice_get, refl, sym, ap, ◌∙◌, subst, arith}
use Rattle.std.proofs.lemmas.Option.{slice_get_within}
use Rattle.std.proofs.lemmas.Bool.Decides.{nat_tests}
use Rattle.std.specs.Option.{option_and_then, option_map_or}
use Rattle.vtr_base.specs.Lists.{Has}
use Rattle.arch_types.specs.declared.block.PbType.{PbType}
use Rattle.arch_types.specs.declared.block.Mode.{Mode}
use Rattle.arch_types.specs.Tree.{modes_of, kids_of}
use Rattle.arch_types.specs.Address.{Address, Hop, at, child_at, step_to}
use Rattle.arch_types.specs.Numbering.{IsNumbering}
use Rattle.mode_edges.specs.declared.pin.LocalPin.{LocalPin}
use Rattle.mode_edges.specs.declared.pin.LocalEdge.{LocalEdge}
use Rattle.mode_edges.specs.declared.pin.ChildAt.{ChildAt}
use Rattle.mode_edges.specs.Edges.{AreEdges}
use Rattle.pb_expand.specs.declared.number.Step.{Step}
use Rattle.pb_expand.specs.declared.number.PinAt.{PinAt}
use Rattle.pb_expand.specs.Graph.{Graph, LeadsTo, ports_at, pin_at, pins_from, step_from, hop_of}
use Rattle.pb_expand.specs.Rows.{addresses, IsTree}
use Rattle.pb_expand.specs.Expansion.{owner_address, IsPin}
use Rattle.pb_expand.specs.Making.{AreBlocks, Stands, IsOwner, HasPlace, HavePlaces}
use Rattle.pb_expand.proofs.Lists.{element, has_at, at_has, snoc_front, snoc_last}
use Rattle.pb_expand.proofs.RowLemmas.{length-addresses, root_first, row_says}
use Rattle.pb_expand.proofs.PinLemmas.{pins_numbered}
use Rattle.pb_expand.proofs.Blocks.{at_step}
use Rattle.pb_expand.proofs.EdgeList.{child_stands}
use Rattle.pb_expand.proofs.PinsThere.{HasBit, IsThereAt, edge_there}

pub not_root : (a : Address) (h : Hop) → [] ≡ a ++ h ∷ [] → ⊥
not_root [] h e = cc
not_root (x ∷ a) h e = cc

abbrev hop : ℕ → ℕ → ℕ → Hop
hop mode child instance = record { mode = mode; child = child; instance = instance }

abbrev step_by : ℕ → Hop → Step
step_by parent h = step_from parent h.mode h.child h.instance

-- the instance one step below another has that step as its row
pub row_below : (root : PbType) (rows : List Step) (n mode child instance j : ℕ) (a : Address) → IsTree rows → IsNumbering root (addresses rows) →
    slice_get (addresses rows) n ≡ Some a → slice_get (addresses rows) j ≡ Some (step_to a mode child instance) →
    (k : ℕ) × (j ≡ k + 1) × (slice_get rows k ≡ Some (step_from n mode child instance))
row_below root rows n mode child instance zero a tree numbering at_n at_j =
    let first : Some [] ≡ Some (step_to a mode child instance) = sym (root_first rows) ∙ at_j in
    let same : [] ≡ step_to a mode child instance = cc in
    absurd (not_root a (hop mode child instance) same)
row_below root rows n mode child instance (suc k) a tree numbering at_n at_j =
    let inside : k < length rows = omega (arith, slice_get_within (addresses rows) (suc k) (step_to a mode child instance) at_j, length-addresses rows) in
    let row = element rows k inside in
    let says = row_says rows k row.0 tree row.1 in
    let here : suc k ≡ k + 1 = omega arith in
    let there : slice_get (addresses rows) (k + 1) ≡ Some (step_to a mode child instance) = subst (λ m. slice_get (addresses rows) m ≡ Some (step_to a mode child instance)) here at_j in
    let same : step_to says.parent row.0.mode row.0.child row.0.instance ≡ step_to a mode child instance = cc (says.is_child, there) in
    let fronts : says.parent ≡ a = snoc_front says.parent a (hop_of row.0) (hop mode child instance) same in
    let hops : hop_of row.0 ≡ hop mode child instance = snoc_last says.parent a (hop_of row.0) (hop mode child instance) same in
    let parents : row.0.parent.0 ≡ n = numbering.once row.0.parent.0 n a (says.is_parent ∙ ap Some fronts) at_n in
    let steps : step_by row.0.parent.0 (hop_of row.0) ≡ step_by n (hop mode child instance) = cc (parents, hops) in
    (k, here, row.1 ∙ ap Some steps)

pub below_leads : (root : PbType) (rows : List Step) (n mode child instance j : ℕ) (a : Address) → IsTree rows → IsNumbering root (addresses rows) →
    slice_get (addresses rows) n ≡ Some a → slice_get (addresses rows) j ≡ Some (step_to a mode child instance) → LeadsTo (addresses rows) (step_from n mode child instance) j
below_leads root rows n mode child instance j a tree numbering at_n at_j =
    let row = row_below root rows n mode child instance j a tree numbering at_n at_j in
    subst (λ k. LeadsTo (addresses rows) (step_from n mode child instance) k) (sym row.1) (row_says rows row.0 (step_from n mode child instance) tree row.2)

-- where a row says which instance has a pin, that instance stands at the pin's address
pub owner_stands : (rows : List Step) (owner mode : ℕ) (child : Option ChildAt) (pb : ℕ) → IsTree rows → IsOwner rows owner mode child pb → (a : Address) →
    slice_get (addresses rows) owner ≡ Some a → slice_get (addresses rows) pb ≡ Some (owner_address a mode child)
owner_stands rows owner mode None pb tree is a at_owner = ap (λ n. slice_get (addresses rows) n) is ∙ at_owner
owner_stands rows owner mode (Some c) pb tree is a at_owner = ap (λ n. slice_get (addresses rows) n) is.2 ∙ child_stands rows owner mode is.0 c tree is.1 a at_owner

-- a pin with a place has a number
pub place_stands : (rows : List Step) (pins : List PinAt) (owner mode : ℕ) (pin : LocalPin) → IsTree rows → HasPlace rows pins owner mode pin →
    (n : ℕ) × ((a : Address) → slice_get (addresses rows) owner ≡ Some a → Stands (addresses rows) pins n a mode pin)
place_stands rows pins owner mode pin tree place =
    let found = place.has_pin place.has_owner.0 place.has_owner.1 in
    (found.0, λ a at_owner. record { pb = place.has_owner.0; is_pin = found.1; is_instance = owner_stands rows owner mode pin.owner place.has_owner.0 tree place.has_owner.1 a at_owner })

pub child_is : (block : PbType) (h : Hop) (mode : Mode) (kid : PbType) → slice_get (modes_of block.kind) h.mode ≡ Some mode → slice_get (kids_of mode) h.child ≡ Some kid →
    h.instance < kid.count → child_at block h ≡ Some kid
child_is block h mode kid is_mode is_kid counted =
    let test : nat_lt h.instance kid.count ≡ true = grind (arith, nat_tests) in
    let outer = ap (option_and_then (λ (m : Mode). option_and_then (λ (k : PbType). if nat_lt h.instance k.count then Some k else None) (slice_get (kids_of m) h.child))) is_mode in
    let within = ap (option_and_then (λ (k : PbType). if nat_lt h.instance k.count then Some k else None)) is_kid in
    outer ∙ within ∙ ap (λ b. if b then Some kid else None) test

-- the instances and pins of a tree
abbrev pub parts_of : PbType → List Step → List PinAt → Graph
parts_of root rows pins = record { block = 0; root = root; instances = addresses rows; pins = pins; edges = [] }

module _ (root : PbType) (rows : List Step) (pins : List PinAt) (blocks : List PbType) (tree : IsTree rows) (numbering : IsNumbering root (addresses rows))
    (are_pins : pins ≡ pins_from root 0 (addresses rows)) (are : AreBlocks root (addresses rows) blocks) where
  -- a bit of a port of an instance has a number
  pin_number : (pb : ℕ) (a : Address) (block : PbType) (port bit : ℕ) → slice_get (addresses rows) pb ≡ Some a → at root a ≡ Some block → HasBit block.ports port bit →
      (n : ℕ) × (slice_get pins n ≡ Some (pin_at pb port bit))
  pin_number pb a block port bit at_pb is_block has =
      let ports : ports_at root a ≡ block.ports = ap (λ o. option_map_or (λ (b : PbType). b.ports) o []) is_block in
      let is_pin : IsPin (parts_of root rows pins) pb port bit =
      record { address = a; is_instance = at_pb; is = has.0; is_port = ap (λ ps. slice_get ps port) ports ∙ has.1; is_bit = has.2 } in
      at_has pins (pin_at pb port bit) (((pins_numbered (parts_of root rows pins) are_pins).exact pb port bit).1 is_pin)

  pin_has_place : (n m : ℕ) (block : PbType) (mode : Mode) (a : Address) (owner : Option ChildAt) (port bit : ℕ) → slice_get (addresses rows) n ≡ Some a →
      at root a ≡ Some block → slice_get (modes_of block.kind) m ≡ Some mode → IsThereAt block mode owner port bit → HasPlace rows pins n m (record { owner = owner; port = port; bit = bit })
  pin_has_place n m block mode a None port bit at_n is_block is_mode there = record {
    has_owner = (n, refl);
    has_pin = λ pb is. pin_number pb a block port bit (ap (λ k. slice_get (addresses rows) k) is ∙ at_n) is_block there;
  }
  pin_has_place n m block mode a (Some c) port bit at_n is_block is_mode there =
      let h = hop m c.child c.instance in
      let child = child_is block h mode there.0 is_mode there.1 there.2 in
      let is_kid : at root (step_to a m c.child c.instance) ≡ Some there.0 = at_step root a h ∙ ap (option_and_then (λ b. child_at b h)) is_block ∙ child in
      let has : Has (addresses rows) (step_to a m c.child c.instance) =
      (numbering.exact (step_to a m c.child c.instance)).1 (subst (λ o. IsSome o) (sym is_kid) refl) in
      let place = at_has (addresses rows) (step_to a m c.child c.instance) has in
      let row = row_below root rows n m c.child c.instance place.0 a tree numbering at_n place.1 in
      record {
        has_owner = (row.0 + 1, (row.0, row.2, refl));
        has_pin = λ pb is. pin_number pb (step_to a m c.child c.instance) there.0 port bit (owner_stands rows n m (Some c) pb tree is a at_n) is_kid there.3;
      }

  -- the pins of the edges of each mode have places
  pub have_places : (n m : ℕ) (block : PbType) (mode : Mode) (local : List LocalEdge) → slice_get blocks n ≡ Some block → slice_get (modes_of block.kind) m ≡ Some mode →
      AreEdges block mode local → HavePlaces rows pins n m local
  have_places n m block mode local at_n is_mode edges =
      let inside : n < length (addresses rows) = omega (arith, slice_get_within blocks n block at_n, are.all) in
      let address = element (addresses rows) n inside in
      let here = are.each n address.0 address.1 in
      let same : here.0 ≡ block = cc (here.2, at_n) in
      let is_block : at root address.0 ≡ Some block = here.1 ∙ ap Some same in
      record {
        src = λ k l at_k.
            pin_has_place n m block mode address.0 l.src.owner l.src.port l.src.bit address.1 is_block is_mode
            (edge_there block mode l.inter l.src l.dst (edges.each l (has_at local k l at_k))).0;
        dst = λ k l at_k.
            pin_has_place n m block mode address.0 l.dst.owner l.dst.port l.dst.bit address.1 is_block is_mode
            (edge_there block mode l.inter l.src l.dst (edges.each l (has_at local k l at_k))).1;
      }
