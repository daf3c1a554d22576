-- An instance, its parent, its pins and its modes are there.
use Rattle.std.proofs.Common.{◌≡◌, ◌<◌, ℕ, [], length, Option, Some, None, refl, sym, ap, ◌∙◌, subst}
use Rattle.std.specs.Prelude.{slice_get, IsSome}
use Rattle.std.specs.Option.{option_map_or, option_and_then}
use Rattle.std.proofs.lemmas.Option.{slice_get_within}
use Rattle.arch_types.specs.declared.block.PbType.{PbType}
use Rattle.arch_types.specs.declared.block.Port.{Port}
use Rattle.arch_types.specs.declared.block.Mode.{Mode}
use Rattle.arch_types.specs.Tree.{modes_of}
use Rattle.arch_types.specs.Address.{Address, at}
use Rattle.pb_expand.specs.declared.number.Step.{Step}
use Rattle.pb_expand.specs.declared.number.PinAt.{PinAt}
use Rattle.pb_expand.specs.Graph.{Graph, LeadsTo, hop_of, block_at, mode_at}
use Rattle.pb_expand.specs.Expansion.{IsExpansion, IsPin}
use Rattle.pb_expand.proofs.Lists.{has_at}
use Rattle.pb_expand.proofs.Blocks.{Takes, takes, mode_is, has_block, child_there, block_below}
use Rattle.prog_map.specs.Leaves.{port_at}

pub some_of : {X : Type 0} (o : Option X) → IsSome o → (x : X) × (o ≡ Some x)
some_of None is = cc
some_of (Some x) is = (x, refl)

-- the pb_types of an instance and its parent, and what the step takes of them
pub record Down (g : Graph) (s : Step) (n : ℕ) : Type 0 where
  pub parent : PbType
  pub is_parent : block_at g s.parent.0 ≡ Some parent
  pub takes : Takes parent (hop_of s)
  pub is_kid : block_at g n ≡ Some takes.kid

pub down : (g : Graph) (s : Step) (n : ℕ) → IsExpansion g → LeadsTo g.instances s n → Down g s n
down g s n law to =
    let above = some_of (block_at g s.parent.0) (has_block g s.parent.0 to.parent law.numbering to.is_parent) in
    let t : Takes above.0 (hop_of s) = takes above.0 (hop_of s) (child_there g s n above.0 law.numbering to above.1) in
    record {
      parent = above.0;
      is_parent = above.1;
      takes = t;
      is_kid = block_below g s n above.0 to above.1 ∙ t.is;
    }

pub mode_there : (g : Graph) (s : Step) (n : ℕ) → IsExpansion g → LeadsTo g.instances s n → IsSome (mode_at g s.parent.0 s.mode)
mode_there g s n law to =
    let d = down g s n law to in
    let is : mode_at g s.parent.0 s.mode ≡ Some d.takes.mode =
    mode_is g s.parent.0 s.mode d.parent (modes_of d.parent.kind) d.is_parent refl ∙ d.takes.is_mode in
    subst (λ o. IsSome o) (sym is) refl

-- the port of a pin is there
pub port_there : (g : Graph) (n : ℕ) (pin : PinAt) → IsExpansion g → slice_get g.pins n ≡ Some pin → IsSome (port_at g pin)
port_there g n pin law is_at =
    let is : IsPin g pin.pb.0 pin.port pin.bit = (law.has_pins.exact pin.pb.0 pin.port pin.bit).0 (has_at g.pins n pin is_at) in
    by_block (at g.root is.address) is.is
    (ap (option_and_then (λ (a : Address). at g.root a)) is.is_instance) is.is_port
  where
    by_block : (o : Option PbType) (port : Port) → block_at g pin.pb.0 ≡ o →
        slice_get (option_map_or (λ (block : PbType). block.ports) o []) pin.port ≡ Some port → IsSome (port_at g pin)
    by_block None port e is = cc
    by_block (Some block) port e is =
        let there : port_at g pin ≡ Some port = ap (option_and_then (λ (b : PbType). slice_get b.ports pin.port)) e ∙ is in
        subst (λ o. IsSome o) (sym there) refl

-- the instance of a mode, and the mode
pub record ModeIs (g : Graph) (pb mode : ℕ) : Type 0 where
  pub inside : pb < length g.instances
  pub address : Address
  pub is_instance : slice_get g.instances pb ≡ Some address
  pub block : PbType
  pub is_block : at g.root address ≡ Some block
  pub is : Mode
  pub there : slice_get (modes_of block.kind) mode ≡ Some is
  pub mode_there : mode_at g pb mode ≡ Some is

pub mode_is_there : (g : Graph) (pb mode : ℕ) → IsSome (mode_at g pb mode) → ModeIs g pb mode
mode_is_there g pb mode some = by_instance (slice_get g.instances pb) refl some
  where
    by_mode : (address : Address) → slice_get g.instances pb ≡ Some address → (block : PbType) → at g.root address ≡ Some block →
        (o : Option Mode) → slice_get (modes_of block.kind) mode ≡ o → IsSome o → ModeIs g pb mode
    by_mode address is block is_block None e some = absurd (cc)
    by_mode address is block is_block (Some m) e some = record {
      inside = slice_get_within g.instances pb address is;
      address = address;
      is_instance = is;
      block = block;
      is_block = is_block;
      is = m;
      there = e;
      mode_there =
          ap (λ o. option_and_then (λ (b : PbType). slice_get (modes_of b.kind) mode) (option_and_then (λ (a : Address). at g.root a) o)) is
          ∙ ap (option_and_then (λ (b : PbType). slice_get (modes_of b.kind) mode)) is_block ∙ e;
    }

    by_block : (address : Address) → slice_get g.instances pb ≡ Some address → (o : Option PbType) → at g.root address ≡ o →
        IsSome (option_and_then (λ (b : PbType). slice_get (modes_of b.kind) mode) o) → ModeIs g pb mode
    by_block address is None e some = absurd (cc)
    by_block address is (Some block) e some = by_mode address is block e (slice_get (modes_of block.kind) mode) refl some

    by_instance : (o : Option Address) → slice_get g.instances pb ≡ o →
        IsSome (option_and_then (λ (b : PbType). slice_get (modes_of b.kind) mode) (option_and_then (λ (a : Address). at g.root a) o)) → ModeIs g pb mode
    by_instance None e some = absurd (cc)
    by_instance (Some address) e some = by_block address e (at g.root address) refl some
