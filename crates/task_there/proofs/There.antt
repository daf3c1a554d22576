-- What a valid task speaks of is there.
use Rattle.std.proofs.Common.{◌≡◌, ◌<◌, ◌-◌, ◌^◌, inl, inr, ℕ, zero, suc, List, [], ◌∷◌, length, map, refl, sym, subst, arith, Option, Some, None}
use Rattle.std.specs.Prelude.{slice_get, MatchOption}
use Rattle.std.specs.Option.{option_and_then}
use Rattle.std.proofs.lemmas.List.{length-map}
use Rattle.std.proofs.lemmas.Option.{slice_get_within}
use Rattle.list_laws.specs.Orders.{Ordered}
use Rattle.list_laws.proofs.Members.{has_at, has_map}
use Rattle.list_laws.proofs.Places.{element, get_either}
use Rattle.arch_types.specs.Address.{Address, at}
use Rattle.arch_types.specs.declared.block.PbType.{PbType}
use Rattle.arch_types.specs.declared.block.AtomKind.{AtomKind}
use Rattle.arch_types.specs.declared.block.AtomKind.TheVariants as kind
use Rattle.net_types.specs.declared.atom.Conn.{Conn}
use Rattle.net_types.specs.WellFormed.{HaveNets}
use Rattle.pb_expand.specs.Graph.{Graph, block_at}
use Rattle.task_types.specs.declared.task.Task.{Task}
use Rattle.task_types.specs.declared.task.TaskNet.{TaskNet}
use Rattle.task_types.specs.declared.task.Need.{Need}
use Rattle.task_types.specs.declared.task.Need.TheVariants as need
use Rattle.task_types.specs.declared.task.Entry.{Entry}
use Rattle.task_types.specs.Nets.{NetSaid}
use Rattle.task_types.specs.Ends.{net_of}
use Rattle.task_types.specs.Tasks.{HasNetsOnce, HasHomesInOrder}
use Rattle.task_rules.specs.Joined.{IsMakerAt, numbers_of}
use Rattle.task_rules.specs.Needs.{Spot, Asks, IsAsked, AreAsked, IsLeave, AreLeaves}
use Rattle.task_rules.specs.Valid.{IsValid}
use Rattle.task_reach.specs.Valid.{IsNeedOf, IsTaskOf}
use Rattle.task_there.proofs.Few.{few_nets}

option_there : {A B : Type 0} (f : A → Option B) (o : Option A) (b : B) → option_and_then f o ≡ Some b → (a : A) × (o ≡ Some a)
option_there f None b is = cc
option_there f (Some a) b is = (a, refl)

instance_there : (g : Graph) (leaf : ℕ) (block : PbType) → block_at g leaf ≡ Some block → leaf < length g.instances
instance_there g leaf block is =
    let found = option_there (λ (address : Address). at g.root address) (slice_get g.instances leaf) block is in
    slice_get_within g.instances leaf found.0 found.1

ascend : (es : List Entry) → Ordered ◌<◌ (map (λ (e : Entry). e.pin.0) es) → (i j : ℕ) (e f : Entry) → i < j → slice_get es i ≡ Some e → slice_get es j ≡ Some f → e.pin.0 < f.pin.0
ascend [] order i j e f less at_i at_j = cc
ascend (x ∷ es) order i zero e f less at_i at_j = absurd (omega (arith, less))
ascend (x ∷ es) order zero (suc j) e f less at_i at_j =
    let first : x ≡ e = cc in
    subst (λ (y : Entry). y.pin.0 < f.pin.0) first (order.0 f.pin.0 (has_map (λ (e : Entry). e.pin.0) es f (has_at es j f at_j)))
ascend (x ∷ es) order (suc i) (suc j) e f less at_i at_j = ascend es order.1 i j e f (omega (arith, less)) at_i at_j

-- the need is one of an atom and a net of the task
asked_of : (g : Graph) (t : Task) (kind : AtomKind) (conns : List Conn) (spot : Spot) (number net : ℕ) (asked : Need) → spot.place < length t.atoms → net < length t.nets →
    Asks kind conns spot number net asked → IsNeedOf g t asked
asked_of g t kind.Lut conns spot number net asked place low is = subst (IsNeedOf g t) (sym is.1) (place, low)
asked_of g t kind.InPad conns spot number net asked place low is = subst (IsNeedOf g t) (sym is) (place, low)
asked_of g t kind.OutPad conns spot number net asked place low is = subst (IsNeedOf g t) (sym is) (place, low)
asked_of g t kind.Latch conns spot number net asked place low is = subst (IsNeedOf g t) (sym is) (place, low)
asked_of g t (kind.Cell model) conns spot number net asked place low is = subst (IsNeedOf g t) (sym is) (place, low)

asked_there : (g : Graph) (n : NetSaid) (t : Task) (spot : Spot) (asked : Need) → IsAsked n t.atoms (numbers_of t.nets) spot asked → IsNeedOf g t asked
asked_there g n t spot asked is =
    asked_of g t is.atom.kind is.atom.ins spot is.conn.net is.net asked (slice_get_within t.atoms spot.place is.listed.number is.listed.listed)
    (let low = slice_get_within (numbers_of t.nets) is.net is.conn.net is.is_net in omega (arith, low, length-map t.nets (λ (of : TaskNet). of.net))) is.asks

in_there : (g : Graph) (n : NetSaid) (t : Task) (ins : List Need) (k : ℕ) (asked : Need) → AreAsked n t.atoms (numbers_of t.nets) (λ spot. Unit {0}) ins →
    slice_get ins k ≡ Some asked → IsNeedOf g t asked
in_there g n t ins k asked are there =
    let within = slice_get_within ins k asked there in
    let spot = element are.spots k (omega (arith, within, are.long)) in
    asked_there g n t spot.0 asked (are.each k spot.0 asked spot.1 there)

leave_of : (g : Graph) (t : Task) (asked : Need) → net_of asked < length t.nets → IsLeave g asked → IsNeedOf g t asked
leave_of g t (need.Leave net) low is = low
leave_of g t (need.LeaveAt net pin) low is = (low, slice_get_within g.pins pin.0 is.at is.is)
leave_of g t (need.Input atom conn net) low is = absurd is
leave_of g t (need.LutNet atom net) low is = absurd is

out_there : (g : Graph) (t : Task) (outs : List Need) (k : ℕ) (asked : Need) → AreLeaves g t.nets outs → slice_get outs k ≡ Some asked → IsNeedOf g t asked
out_there g t outs k asked are there =
    let has = has_at outs k asked there in
    let made = are.made (net_of asked) (has_map net_of outs asked has) in
    leave_of g t asked (slice_get_within t.nets (net_of asked) made.of made.is) (are.each asked has)

pub task_there : (nets : ℕ) (g : Graph) (n : NetSaid) (t : Task) → nets < 2 ^ 32 - 1 → HaveNets nets n → HasNetsOnce t → HasHomesInOrder t → IsValid g n t → IsTaskOf g t
task_there nets g n t few have once order valid = record {
  few_atoms = let low = valid.few in omega (arith, low);
  few_nets = let low = few_nets nets n t.atoms t.nets have valid.nets in omega (arith, low, few);
  nets = once;
  homes = order;
  leaves = λ place leaves leaf there has.
      let within = slice_get_within t.homes place leaves there in
      let atom = element t.atoms place (omega (arith, within, valid.homes.each)) in
      let held = (valid.homes.fit atom.0 leaf.0 leaves (record { place = place; listed = atom.1; is = there }) has).held in
      instance_there g leaf.0 held.block held.is_block;
  makers = λ number place net there made.
      let of = valid.nets.each net (has_at t.nets number net there) in
      let maker : IsMakerAt n t.atoms net.net place =
      subst (λ (o : Option ℕ). MatchOption o ((p : ℕ) → IsMakerAt n t.atoms net.net p → ⊥) (IsMakerAt n t.atoms net.net)) made of.maker in
      slice_get_within t.atoms place maker.number maker.listed;
  needs = λ number asked there.
      elim (get_either valid.needs.ins valid.needs.outs number asked (subst (λ all. slice_get all number ≡ Some asked) valid.needs.are there)) [
        | inl front ↦ in_there g n t valid.needs.ins number asked valid.needs.asked front
        | inr behind ↦ out_there g t valid.needs.outs behind.0 asked valid.needs.leave behind.2
      ];
  fixed = λ es are. record { each = λ i j e f less at_i at_j. ascend es (valid.entries es are).ascend i j e f less at_i at_j };
}
