use Rattle.std.proofs.Common.{sym, subst}
use Rattle.rr_places.specs.PinTexts.{NamesSub}
use Rattle.rr_places.proofs.Cutting.{no_cut, same_cut}
use Rattle.rr_places.proofs.PinReading.{whole}
use Rattle.rr_places.proofs.pin_text.pin_of_tile.Goals as goal

pub returns-in_default : goal.returns-in_default
returns-in_default c = λ named h. no_cut 46 _ _ _ c.in_default.ensures h.cut

pub returns-in_default-sub_of : goal.returns-in_default-sub_of
returns-in_default-sub_of c = λ named h.
    (let k = same_cut 46 _ _ _ _ _ c.in-Some.ensures h.cut in
    c.in_default-sub_of.ensures named.pin.sub
    (subst (λ t. NamesSub t c.in-Some.owner.now named.pin.sub) (sym c.tile.ensures)
    (subst (λ o. NamesSub c.args.tile.now o named.pin.sub) (sym k.0) h.sub)))

pub returns : goal.returns
returns c =
    whole c.args.tile.now c.args.text.now c.in-Some.owner.now c.in-Some.rest.now c.in-Some-sub_of.sub c.named_bit.result c.in-Some.ensures
    (subst (λ t. NamesSub t c.in-Some.owner.now c.in-Some-sub_of.sub) c.tile.ensures c.in-Some-sub_of.ensures) c.named_bit.ensures
