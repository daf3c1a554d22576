use Rattle.std.proofs.Common.{refl, sym, ◌∙◌, arith}
use Rattle.std.proofs.lemmas.Bool.{false≢true}
use Rattle.atom_homes.specs.Homes.{IsWide}
use Rattle.atom_homes.proofs.Scans.{has_item, none_more, none_all}
use Rattle.atom_homes.proofs.Different.{no_lut}
use Rattle.atom_homes.proofs.lut.fits_lut.Goals as goal

pub loop-port-init : goal.loop-port-init
loop-port-init c = λ x has is. has

pub loop-port-preserved : goal.loop-port-preserved
loop-port-preserved c =
    none_more (IsWide c.different-nets.result) c.args.ports.now c.loop-port.port-index c.port-item.result c.loop-port-test.true c.port-item.is c.loop-port.invariant
    (λ at. false≢true (sym c.if-is_wide.false ∙ c.is_wide.ensures.1 at))

pub returns-then-is_wide : goal.returns-then-is_wide
returns-then-is_wide c = (
  λ t. record {
    count = c.different-nets.result;
    different = c.different-nets.ensures;
    port = c.port-item.result;
    there = has_item c.args.ports.now c.loop-port.port-index c.port-item.result c.loop-port-test.true c.port-item.is;
    wide = c.is_wide.ensures.0 c.if-is_wide.true;
  },
  λ h. refl,
)

pub returns : goal.returns
returns c =
    let none = none_all (IsWide c.different-nets.result) c.args.ports.now c.loop-port.port-index c.loop-port-test.false c.loop-port.invariant in
    (λ t. absurd (grind arith), λ h. absurd (no_lut c.args.conns.now c.args.ports.now c.different-nets.result c.different-nets.ensures none h))
