use Rattle.std.proofs.Common.{◌∙◌, ap, length, subst, sym}
use Rattle.std.proofs.lemmas.List.{length-map}
use Rattle.rr_grid.specs.Firsts.{AreFirsts}
use Rattle.rr_grid.specs.Gathering.{AreRight}
use Rattle.rr_grid.specs.Saying.{SaysGrid}
use Rattle.rr_grid.proofs.Lent.{lent}
use Rattle.rr_grid.proofs.Whole.{said_grid, fit_together}
use Rattle.rr_grid.proofs.reading.read_grid.Goals as goal

pub right_places-requires : goal.right_places-requires
right_places-requires g c =
    subst (λ l. AreFirsts (lent l) (length l) c.in_ok-firsts.firsts) (c.as_slice.ensures.value ∙ sym c.as_slice-2.ensures.value) c.in_ok-firsts.ensures

pub of_places-requires : goal.of_places-requires
of_places-requires g c =
    let items = c.as_slice-2.result.now in
    let known = g.T.BlockTypeIds.known c.args.ids.now in
    let long = sym (length-map items (λ e. e.now)) in
    let firsts = subst (λ l. AreFirsts (lent l) (length l) c.in_ok-firsts.firsts) (c.as_slice.ensures.value ∙ sym c.as_slice-2.ensures.value) c.in_ok-firsts.ensures in
    fit_together c.one_item.ensures.place known (lent items) c.in_ok-places.places.items
    (subst (λ n. AreRight known (lent items) n c.in_ok-places.places.items) long c.in_ok-places.ensures) c.in_ok-firsts.firsts
    (subst (λ n. AreFirsts (lent items) n c.in_ok-firsts.firsts) long firsts)

pub returns : goal.returns
returns g c =
    let items = c.as_slice-2.result.now in
    let known = g.T.BlockTypeIds.known c.args.ids.now in
    let long = sym (length-map items (λ e. e.now)) in
    rw c.of_places.ensures
    (subst (λ es. SaysGrid known es c.in_ok-places.places.items) (ap lent c.as_slice-2.ensures.value ∙ c.in_ok-elems.ensures)
    (said_grid c.one_item.ensures.place known (lent items) c.in_ok-places.places.items
    (subst (λ n. AreRight known (lent items) n c.in_ok-places.places.items) long c.in_ok-places.ensures)))
