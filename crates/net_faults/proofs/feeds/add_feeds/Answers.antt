use Rattle.std.proofs.Common.{◌++◌, ◌∷◌, [], List, sym, ap, ◌∙◌, subst, ◌<◌, length, take}
use Rattle.std.proofs.lemmas.List.{take_more}
use Rattle.net_types.specs.declared.atom.Conn.{Conn}
use Rattle.net_faults.specs.Steps.{AddsFeeds}
use Rattle.net_faults.proofs.Feeding.{adds_other, adds_lut}
use Rattle.net_faults.proofs.feeds.add_feeds.Goals as goal
use Rattle.net_faults.proofs.feeds.add_feeds.Goals.{in-Some+in_ok-push, in_default}

pub loop-conn-preserved : goal.loop-conn-preserved
loop-conn-preserved c =
    let ins = c.args.ins.now in
    let at = c.loop-conn.conn-index in
    let conn = c.conn-item.result in
    let old = c.args.edges.now.items in
    let front = take_more ins at conn c.loop-conn-test.true ∙ ap (λ (x : Conn). take at ins ++ x ∷ []) (sym c.conn-item.is) in
    let low = subst (λ (x : Conn). x.net < length c.args.makers.now) (sym c.conn-item.is) (c.requires.within at conn c.loop-conn-test.true) in
    subst (λ (l : List Conn). AddsFeeds c.args.atoms.now c.args.taker l old c.match-lut_maker.edges.items) (sym front)
    (elim c.match-lut_maker.branch [
      | in-Some+in_ok-push w ↦ rw w.edges-is (rw w.in_ok-push.ensures.items
          (adds_lut c.args.atoms.now c.args.taker (take at ins) conn old c.loop-conn.edges.items c.loop-conn.invariant w.in-Some.maker (c.requires.made conn.net low) w.in-Some.ensures))
      | in_default w ↦ rw w.edges-is
          (adds_other c.args.atoms.now c.args.taker (take at ins) conn old c.loop-conn.edges.items c.loop-conn.invariant w.in_default.ensures)
    ])
