-- Pins of a mode by number, and the interconnect of an edge.
use Rattle.std.proofs.Common.{◌≡◌, ◌<◌, ℕ, Option, Some, None, MatchOption, length, slice_get, sym, ap, ◌∙◌, subst}
use Rattle.std.specs.Option.{option_and_then}
use Rattle.arch_types.specs.declared.block.PbType.{PbType}
use Rattle.arch_types.specs.declared.block.Mode.{Mode}
use Rattle.arch_types.specs.declared.block.Inter.{Inter}
use Rattle.arch_types.specs.Tree.{modes_of, inters_of}
use Rattle.arch_types.specs.Address.{Address, at}
use Rattle.mode_edges.specs.declared.pin.LocalPin.{LocalPin}
use Rattle.pb_expand.specs.declared.number.Edge.{Edge}
use Rattle.pb_expand.specs.declared.number.PinIx.{PinIx}
use Rattle.pb_expand.specs.Graph.{Graph, pin_at, block_at}
use Rattle.pb_expand.specs.Expansion.{IsExpansion, IsPin, IsEdgeOf, IsLocalPin, owner_address}
use Rattle.pb_expand.proofs.Lists.{element, has_at}

-- the pin of the instance that has the local pin is that local pin
pub local_pin : (g : Graph) (owner mode pb : ℕ) (pin : LocalPin) (r : Option PinIx) → IsExpansion g → owner < length g.instances →
    ((a : Address) → slice_get g.instances owner ≡ Some a → slice_get g.instances pb ≡ Some (owner_address a mode pin.owner)) →
    MatchOption r (IsPin g pb pin.port pin.bit → ⊥) (λ n. slice_get g.pins n.0 ≡ Some (pin_at pb pin.port pin.bit)) →
    MatchOption r ((n : ℕ) → IsLocalPin g owner mode pin n → ⊥) (λ n. IsLocalPin g owner mode pin n.0)
local_pin g owner mode pb pin None law inside there none = λ n is. none (is_pin n is)
  where
    is_pin : (n : ℕ) → IsLocalPin g owner mode pin n → IsPin g pb pin.port pin.bit
    is_pin n is =
        let stands = is.2 in
        let same : stands.pb ≡ pb = law.numbering.once stands.pb pb (owner_address is.0 mode pin.owner) stands.is_instance (there is.0 is.1) in
        subst (λ k. IsPin g k pin.port pin.bit) same ((law.has_pins.exact stands.pb pin.port pin.bit).0 (has_at g.pins n (pin_at stands.pb pin.port pin.bit) stands.is_pin))
local_pin g owner mode pb pin (Some n) law inside there found =
    let a = element g.instances owner inside in
    (a.0, a.1, record { pb = pb; is_pin = found; is_instance = there a.0 a.1 })

-- the mode and the interconnect that give an edge
pub record HasInter (block : PbType) (mode inter : ℕ) : Type 0 where
  pub in_mode : Mode
  pub is_mode : slice_get (modes_of block.kind) mode ≡ Some in_mode
  pub given : Inter
  pub is_given : slice_get (inters_of in_mode) inter ≡ Some given

pub has_inter : (g : Graph) (e : Edge) (block : PbType) → IsEdgeOf g e → block_at g e.owner.0 ≡ Some block → HasInter block e.mode e.inter
has_inter g e block is is_block =
    let here : Some is.block ≡ Some block = sym is.is_block ∙ sym (ap (option_and_then (λ a. at g.root a)) is.is_owner) ∙ is_block in
    let same : is.block ≡ block = cc in
    record {
      in_mode = is.mode;
      is_mode = ap (λ (b : PbType). slice_get (modes_of b.kind) e.mode) (sym same) ∙ is.is_mode;
      given = is.edge.gives.1.here;
      is_given = is.edge.gives.1.is;
    }

pub inter_there : (block : PbType) (mode inter : ℕ) (h : HasInter block mode inter) →
    option_and_then (λ m. slice_get (inters_of m) inter) (slice_get (modes_of block.kind) mode) ≡ Some h.given
inter_there block mode inter h = ap (option_and_then (λ m. slice_get (inters_of m) inter)) h.is_mode ∙ h.is_given
