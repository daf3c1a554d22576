use Rattle.std.proofs.Common.{refl, sym, subst}
use Rattle.vtr_base.specs.Lists.{IsFirstPlace}
use Rattle.arch_types.specs.Blocks.{port_names}
use Rattle.rr_places.proofs.Cutting.{no_cut, same_cut}
use Rattle.rr_places.proofs.PinReading.{same_bit}
use Rattle.rr_places.proofs.pin_text.named_bit.Goals as goal

pub returns-in_default : goal.returns-in_default
returns-in_default c = λ named h. no_cut 91 _ _ _ c.in_default.ensures h.cut

pub returns-in_default-find_port : goal.returns-in_default-find_port
returns-in_default-find_port c = λ named h.
    (let k = same_cut 91 _ _ _ _ _ c.in-Some.ensures h.cut in
    c.in_default-find_port.ensures named.pin.port (subst (λ n. IsFirstPlace (port_names c.args.tile.now.ports) n named.pin.port) (sym k.0) h.place))

pub returns-in_default-index_below : goal.returns-in_default-index_below
returns-in_default-index_below c = λ named h.
    (let found = c.in-Some-find_port.ensures in
    c.in_default-index_below.ensures named.pin.bit
    (same_bit c.args.tile.now.ports c.args.text.now c.in-Some.name.now c.in-Some.index.now c.in-Some-find_port.place c.in-Some-find_port.port.now c.in-Some.ensures
    found.0 found.1 named h))

pub returns : goal.returns
returns c = (
  record {
    name = c.in-Some.name.now;
    index = c.in-Some.index.now;
    cut = c.in-Some.ensures;
    place = c.in-Some-find_port.ensures.0;
    port = c.in-Some-find_port.port.now;
    there = c.in-Some-find_port.ensures.1;
    bit = c.in-Some-index_below.ensures;
    side = c.leads_out.ensures;
  },
  refl,
)
