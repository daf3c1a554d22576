-- What a pin is written as.
use Rattle.std.proofs.Common.{◌≡◌, ◌<◌, ℕ, [], ◌∷◌, ◌++◌, Option, Some, None, length, slice_get, refl, ap, ◌∙◌}
use Rattle.std.specs.Option.{option_map_or, option_and_then}
use Rattle.std.proofs.lemmas.Option.{slice_get_within}
use Rattle.list_laws.proofs.Members.{has_at}
use Rattle.list_laws.proofs.Places.{element}
use Rattle.arch_types.specs.declared.block.PbType.{PbType}
use Rattle.arch_types.specs.declared.block.Port.{Port}
use Rattle.arch_types.specs.Address.{Address, at}
use Rattle.pb_expand.specs.declared.number.PinAt.{PinAt}
use Rattle.pb_expand.specs.Graph.{Graph, block_at}
use Rattle.pb_expand.specs.Expansion.{IsExpansion, IsPin}
use Rattle.prog_map.specs.Leaves.{port_at}
use Rattle.prog_text.specs.Names.{index_text, instance_name, port_text, pin_text, pin_name}

pub record PinIs (g : Graph) (n : ℕ) : Type 0 where
  pub pin : PinAt
  pub there : slice_get g.pins n ≡ Some pin
  pub inside : pin.pb.0 < length g.instances
  pub address : Address
  pub is_instance : slice_get g.instances pin.pb.0 ≡ Some address
  pub block : PbType
  pub is_block : at g.root address ≡ Some block
  pub port : Port
  pub is_port : slice_get block.ports pin.port ≡ Some port
  pub named : port_text g pin ≡ port.name
  pub is_bit : pin.bit < port.width

pub pin_is : (g : Graph) (n : ℕ) → IsExpansion g → n < length g.pins → PinIs g n
pin_is g n law inside =
    let p = element g.pins n inside in
    let is : IsPin g p.0.pb.0 p.0.port p.0.bit = (law.has_pins.exact p.0.pb.0 p.0.port p.0.bit).0 (has_at g.pins n p.0 p.1) in
    by p.0 p.1 is (at g.root is.address) refl is.is_port
  where
    by : (pin : PinAt) → slice_get g.pins n ≡ Some pin → (is : IsPin g pin.pb.0 pin.port pin.bit) → (o : Option PbType) → at g.root is.address ≡ o →
        slice_get (option_map_or (λ (block : PbType). block.ports) o []) pin.port ≡ Some is.is → PinIs g n
    by pin there is None e port = absurd (cc)
    by pin there is (Some block) e port =
        let is_block : block_at g pin.pb.0 ≡ Some block = ap (option_and_then (λ (a : Address). at g.root a)) is.is_instance ∙ e in
        let port_is : port_at g pin ≡ Some is.is = ap (option_and_then (λ (b : PbType). slice_get b.ports pin.port)) is_block ∙ port in
        record {
          pin = pin;
          there = there;
          inside = slice_get_within g.instances pin.pb.0 is.address is.is_instance;
          address = is.address;
          is_instance = is.is_instance;
          block = block;
          is_block = e;
          port = is.is;
          is_port = port;
          named = ap (λ o. option_map_or (λ (p : Port). p.name) o []) port_is;
          is_bit = is.is_bit;
        }

pub pin_name_is : (g : Graph) (n : ℕ) (p : PinIs g n) → pin_name g n ≡ instance_name g p.pin.pb.0 ++ 46 ∷ (p.port.name ++ index_text p.pin.bit)
pin_name_is g n p =
    ap (λ o. option_map_or (pin_text g) o []) p.there ∙ ap (λ t. instance_name g p.pin.pb.0 ++ 46 ∷ (t ++ index_text p.pin.bit)) p.named
