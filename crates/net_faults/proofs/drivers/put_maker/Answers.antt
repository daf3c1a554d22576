use Rattle.std.proofs.Common.{◌++◌, ◌∷◌, [], List, Some, slice_set, sym, ap, ◌∙◌, subst, ◌<◌, length, take}
use Rattle.std.proofs.lemmas.List.{take_more}
use Rattle.net_types.specs.declared.atom.Conn.{Conn}
use Rattle.net_faults.specs.Steps.{PutsMaker}
use Rattle.net_faults.proofs.Making.{puts_step}
use Rattle.net_faults.proofs.drivers.put_maker.Goals as goal

pub loop-conn-preserved : goal.loop-conn-preserved
loop-conn-preserved c =
    let conns = c.args.conns.now in
    let at = c.loop-conn.conn-index in
    let conn = c.conn-item.result in
    let front = take_more conns at conn c.loop-conn-test.true ∙ ap (λ (x : Conn). take at conns ++ x ∷ []) (sym c.conn-item.is) in
    let low = subst (λ (x : Conn). x.net < length c.args.makers.now) (sym c.conn-item.is) (c.requires at conn c.loop-conn-test.true) in
    subst (λ (l : List Conn). PutsMaker l c.args.number c.args.makers.now (slice_set c.loop-conn.makers conn.net (Some c.args.number))) (sym front)
    (puts_step (take at conns) conn c.args.number c.args.makers.now c.loop-conn.makers low c.loop-conn.invariant)
