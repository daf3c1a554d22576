-- The parts of a task make the task of a list.
use Rattle.std.proofs.Common.{◌≡◌, ◌<◌, ◌≤◌, ◌^◌, ◌⊎◌, ℕ, List, length, sym, ap, ◌∙◌, subst, inl, inr, arith}
use Rattle.std.specs.Prelude.{◌↔◌}
use Rattle.std.proofs.lemmas.List.{length-map}
use Rattle.std.proofs.lemmas.Option.{slice_get_within}
use Rattle.vtr_base.specs.Lists.{Has}
use Rattle.list_laws.specs.Orders.{Ordered}
use Rattle.list_laws.proofs.Members.{at_has, has_either}
use Rattle.list_laws.proofs.Places.{element}
use Rattle.arch_types.specs.declared.block.AtomKind.{AtomKind}
use Rattle.arch_types.specs.declared.block.AtomKind.TheVariants as kind
use Rattle.net_types.specs.declared.atom.Conn.{Conn}
use Rattle.pb_expand.specs.declared.number.PinIx.{PinIx}
use Rattle.pb_expand.specs.Graph.{Graph}
use Rattle.task_types.specs.declared.task.Task.{Task}
use Rattle.task_types.specs.declared.task.TaskNet.{TaskNet}
use Rattle.task_types.specs.declared.task.Need.{Need}
use Rattle.task_types.specs.declared.task.Need.TheVariants as need
use Rattle.task_types.specs.declared.task.Entries.TheVariants.{Free, Fixed}
use Rattle.task_types.specs.Nets.{NetSaid}
use Rattle.task_rules.specs.Joined.{IsJoined, IsNetOf, AreNetsOf, numbers_of}
use Rattle.task_rules.specs.Needs.{Spot, Asks, AreAsked, AreLeaves, IsLeave, HasNeeds}
use Rattle.task_rules.specs.Valid.{HasHomes, IsTaskOf}
use Rattle.task_needs.specs.Plain.{IsPlainLeave, ArePlainLeaves, AreNeeds}
use Rattle.task_homes.specs.Homes.{AreHomes}
use Rattle.task_make.specs.Lists.{AreAtoms}

pub nets_made : (n : NetSaid) (atoms numbers : List ℕ) (nets : List TaskNet) → Ordered ◌<◌ numbers → ((k : ℕ) → Has numbers k ↔ IsJoined n atoms k) → numbers_of nets ≡ numbers →
    ((of : TaskNet) → Has nets of → IsNetOf n atoms of) → AreNetsOf n atoms nets
nets_made n atoms numbers nets order joined same each = record {
  ascend = subst (λ (l : List ℕ). Ordered ◌<◌ l) (sym same) order;
  joined = λ k. (λ has. (joined k).0 (subst (λ (l : List ℕ). Has l k) same has), λ h. subst (λ (l : List ℕ). Has l k) (sym same) ((joined k).1 h));
  each = each;
}

pub few_nets : (nets : List TaskNet) (numbers : List ℕ) → numbers_of nets ≡ numbers → length numbers < 2 ^ 32 → length nets < 2 ^ 32
few_nets nets numbers same few = let e = ap length same in omega (arith, few, e, length-map nets (λ (of : TaskNet). of.net))

-- needs

leave_made : (g : Graph) (nets : List TaskNet) (outs : List Need) → ArePlainLeaves nets outs → AreLeaves g nets outs
leave_made g nets outs plain = record { ascend = plain.ascend; each = λ asked has. by asked (plain.each asked has); made = plain.made; all = plain.all }
  where
    by : (asked : Need) → IsPlainLeave asked → IsLeave g asked
    by (need.Leave net) is = tt
    by (need.LeaveAt net pin) is = absurd is
    by (need.Input atom conn net) is = absurd is
    by (need.LutNet atom net) is = absurd is

needs_made : (g : Graph) (n : NetSaid) (t : Task) (numbers : List ℕ) → numbers_of t.nets ≡ numbers → AreNeeds n t.atoms numbers t.nets t.needs → HasNeeds g n t
needs_made g n t numbers same are = record {
  ins = are.ins;
  outs = are.outs;
  are = are.are;
  asked = subst (λ (l : List ℕ). AreAsked n t.atoms l (λ spot. Unit {0}) are.ins) (sym same) are.asked;
  leave = leave_made g t.nets are.outs are.leave;
}

no_pin_asked : (k : AtomKind) (conns : List Conn) (spot : Spot) (number net at : ℕ) (pin : PinIx) → Asks k conns spot number net (need.LeaveAt at pin) → ⊥
no_pin_asked kind.Lut conns spot number net at pin asks = let e = asks.1 in cc e
no_pin_asked kind.InPad conns spot number net at pin asks = cc asks
no_pin_asked kind.OutPad conns spot number net at pin asks = cc asks
no_pin_asked kind.Latch conns spot number net at pin asks = cc asks
no_pin_asked (kind.Cell model) conns spot number net at pin asks = cc asks

no_pins : (n : NetSaid) (atoms numbers : List ℕ) (nets : List TaskNet) (needs : List Need) → AreNeeds n atoms numbers nets needs → (net : ℕ) (pin : PinIx) → Has needs (need.LeaveAt net pin) → ⊥
no_pins n atoms numbers nets needs are net pin has = by (has_either are.ins are.outs (need.LeaveAt net pin) (subst (λ (l : List Need). Has l (need.LeaveAt net pin)) are.are has))
  where
    by : Has are.ins (need.LeaveAt net pin) ⊎ Has are.outs (need.LeaveAt net pin) → ⊥
    by (inl asked) =
        let k = at_has are.ins (need.LeaveAt net pin) asked in
        let low = slice_get_within are.ins k.0 (need.LeaveAt net pin) k.1 in
        let spot = element are.asked.spots k.0 (omega (arith, low, are.asked.long)) in
        let is = are.asked.each k.0 spot.0 (need.LeaveAt net pin) spot.1 k.1 in
        no_pin_asked is.atom.kind is.atom.ins spot.0 is.conn.net is.net net pin is.asks
    by (inr out) = are.leave.each (need.LeaveAt net pin) out

-- homes

homes_made : (g : Graph) (n : NetSaid) (t : Task) → AreHomes g n t.atoms t.homes → HasHomes g n t
homes_made g n t are = record {
  each = are.long;
  order = record {
    each = λ place leaves at.
        (let low = slice_get_within t.homes place leaves at in
        let number = element t.atoms place (omega (arith, low, are.long)) in
        (are.each place number.0 leaves number.1 at).ascend);
  };
  fit = λ number leaf leaves is has. ((are.each is.place number leaves is.listed is.is).each leaf).0 has;
}

pub task_made : (g : Graph) (n : NetSaid) (atoms numbers : List ℕ) (t : Task) → t.block ≡ g.block → t.atoms ≡ atoms → length atoms ≤ 4096 → AreAtoms n atoms → AreNetsOf n atoms t.nets →
    numbers_of t.nets ≡ numbers → AreNeeds n atoms numbers t.nets t.needs → AreHomes g n atoms t.homes → t.entries ≡ Free → IsTaskOf g n atoms t
task_made g n atoms numbers t block same few fine nets numbered needs homes free = record {
  valid = record {
    block = block;
    few = subst (λ (l : List ℕ). length l ≤ 4096) (sym same) few;
    once = (subst (λ (l : List ℕ). AreAtoms n l) (sym same) fine).once;
    there = (subst (λ (l : List ℕ). AreAtoms n l) (sym same) fine).there;
    nets = subst (λ (l : List ℕ). AreNetsOf n l t.nets) (sym same) nets;
    homes = homes_made g n t own_homes;
    needs = needs_made g n t numbers numbered (subst (λ (l : List ℕ). AreNeeds n l numbers t.nets t.needs) (sym same) needs);
    entries = λ entries fixed. absurd (let e : Free ≡ Fixed entries = sym free ∙ fixed in let bad : ⊥ = cc e in bad);
  };
  listed = same;
  homes = λ number leaf leaves is can. ((own_homes.each is.place number leaves is.listed is.is).each leaf).1 can;
  no_pins = no_pins n atoms numbers t.nets t.needs needs;
  free = free;
}
  where
    own_homes : AreHomes g n t.atoms t.homes
    own_homes = subst (λ (l : List ℕ). AreHomes g n l t.homes) (sym same) homes
