use Rattle.std.proofs.Common.{map, refl, ap, ◌∙◌, [], ◌∷◌, ℕ, Bool, inr}
use Rattle.std.proofs.lemmas.List.{map-append}
use Rattle.rr_items.specs.Switches.{SaysSwitch}
use Rattle.rr_places.specs.Switches.{switches_of, id_of, IsBadSwitch}
use Rattle.rr_places.proofs.Reading.{now_at, read_next, refused_here}
use Rattle.rr_places.proofs.Listing.{seen, unseen}
use Rattle.rr_places.proofs.switches.list_switches.Goals as goal

pub returns-in_default-clause-refused : goal.returns-in_default-clause-refused
returns-in_default-clause-refused c =
    let at = now_at c.args.elems.now c.loop-elem.elem-index c.elem-item.result c.loop-elem-test.true c.elem-item.is in
    let entries = c.loop-elem.by_id.entries in
    inr (refused_here SaysSwitch id_of (map (λ e. e.now) c.args.elems.now) c.loop-elem.elem-index (switches_of entries) c.loop-elem.invariant
    IsBadSwitch c.elem-item.result.now _ at
    (record { told = refl; bad = λ s says. (let h = c.in_default.ensures s says in seen entries s.id h.0 h.1) }))

pub loop-elem-preserved : goal.loop-elem-preserved
loop-elem-preserved c =
    let at = now_at c.args.elems.now c.loop-elem.elem-index c.elem-item.result c.loop-elem-test.true c.elem-item.is in
    let entries = c.loop-elem.by_id.entries in
    let switch = c.in-Some.switch in
    read_next SaysSwitch id_of (map (λ e. e.now) c.args.elems.now) c.loop-elem.elem-index (switches_of entries) c.loop-elem.invariant
    c.elem-item.result.now switch (switches_of c.add.new.map.entries) at c.in-Some.ensures.0
    (unseen entries switch.id c.in-Some.ensures.1)
    (ap switches_of c.in_ok-add.ensures ∙ map-append (λ (e : ℕ × Bool). record { id = e.0; two_way = e.1 }) entries ((switch.id, switch.two_way) ∷ []))
