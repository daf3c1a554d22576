use Rattle.std.proofs.Common.{◌≡◌, refl, arith}
use Rattle.net_types.specs.declared.atom.Conn.{Conn}
use Rattle.atom_homes.proofs.Scans.{has_item, none_more, none_all}
use Rattle.atom_homes.proofs.Different.{conn_has, no_conn}
use Rattle.atom_homes.proofs.lut.has_net.Goals as goal

pub loop-conn-init : goal.loop-conn-init
loop-conn-init c = λ x has is. has

pub loop-conn-preserved : goal.loop-conn-preserved
loop-conn-preserved c =
    none_more (λ (k : Conn). k.net ≡ c.args.net) c.args.conns.now c.loop-conn.conn-index c.conn-item.result c.loop-conn-test.true c.conn-item.is c.loop-conn.invariant c.if-conn-net.false

pub returns-then-conn-net : goal.returns-then-conn-net
returns-then-conn-net c =
    (λ t. conn_has c.args.conns.now c.conn-item.result c.args.net (has_item c.args.conns.now c.loop-conn.conn-index c.conn-item.result c.loop-conn-test.true c.conn-item.is) c.if-conn-net.true, λ h. refl)

pub returns : goal.returns
returns c =
    let none = none_all (λ (k : Conn). k.net ≡ c.args.net) c.args.conns.now c.loop-conn.conn-index c.loop-conn-test.false c.loop-conn.invariant in
    (λ t. absurd (grind arith), λ h. absurd (no_conn c.args.conns.now c.args.net none h))
