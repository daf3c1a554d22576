-- Pins and edges of a graph name instances and pins that are there.
use Rattle.std.proofs.Common.{◌≡◌, ◌<◌, ◌==◌, ◌&&◌, ℕ, true, Some, length, slice_get, arith}
use Rattle.std.proofs.lemmas.Option.{slice_get_within}
use Rattle.std.proofs.lemmas.Bool.Decides.{nat_tests}
use Rattle.pb_expand.specs.declared.number.Edge.{Edge}
use Rattle.pb_expand.specs.declared.number.PinAt.{PinAt}
use Rattle.pb_expand.specs.Graph.{Graph, pin_at}
use Rattle.pb_expand.specs.Expansion.{HasPins, HasEdges, IsPin}
use Rattle.pb_expand.proofs.Lists.{has_at, at_has}

pub pin_pb : (g : Graph) (k : ℕ) (p : PinAt) → HasPins g → slice_get g.pins k ≡ Some p → p.pb.0 < length g.instances
pin_pb g k p pins e =
    let is : IsPin g p.pb.0 p.port p.bit = (pins.exact p.pb.0 p.port p.bit).0 (has_at g.pins k p e) in
    slice_get_within g.instances p.pb.0 is.address is.is_instance

-- a pin that is there has a place
pub pin_place : (g : Graph) (pb port bit : ℕ) → HasPins g → IsPin g pb port bit → (k : ℕ) × (slice_get g.pins k ≡ Some (pin_at pb port bit))
pin_place g pb port bit pins is = at_has g.pins (pin_at pb port bit) ((pins.exact pb port bit).1 is)

pub edge_src : (g : Graph) (k : ℕ) (e : Edge) → HasEdges g → slice_get g.edges k ≡ Some e → e.src.0 < length g.pins
edge_src g k e edges at =
    let is = edges.each e (has_at g.edges k e at) in
    slice_get_within g.pins e.src.0 (pin_at is.is_src.pb is.src.port is.src.bit) is.is_src.is_pin

pub edge_dst : (g : Graph) (k : ℕ) (e : Edge) → HasEdges g → slice_get g.edges k ≡ Some e → e.dst.0 < length g.pins
edge_dst g k e edges at =
    let is = edges.each e (has_at g.edges k e at) in
    slice_get_within g.pins e.dst.0 (pin_at is.is_dst.pb is.dst.port is.dst.bit) is.is_dst.is_pin

pub edge_owner : (g : Graph) (k : ℕ) (e : Edge) → HasEdges g → slice_get g.edges k ≡ Some e → e.owner.0 < length g.instances
edge_owner g k e edges at =
    let is = edges.each e (has_at g.edges k e at) in
    slice_get_within g.instances e.owner.0 is.address is.is_owner

-- equal pins are one
pub one_pin : (p q : PinAt) → ((p.pb.0 == q.pb.0) && ((p.port == q.port) && (p.bit == q.bit))) ≡ true → q ≡ p
one_pin p q e =
    let pbs : q.pb.0 ≡ p.pb.0 = grind (arith, nat_tests) in
    let ports : q.port ≡ p.port = grind (arith, nat_tests) in
    let bits : q.bit ≡ p.bit = grind (arith, nat_tests) in
    let same : pin_at q.pb.0 q.port q.bit ≡ pin_at p.pb.0 p.port p.bit = cc in
    same

pub pin_itself : (p : PinAt) → ((p.pb.0 == p.pb.0) && ((p.port == p.port) && (p.bit == p.bit))) ≡ true
pin_itself p = grind (arith, nat_tests)
