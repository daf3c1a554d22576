use Rattle.std.proofs.Common.{◌≤◌, length, sym, subst, arith}
use Rattle.std.proofs.lemmas.Option.{slice_get_within}
use Rattle.rr_locs.specs.Listing.{loc_of}
use Rattle.rr_tables.specs.Layouts.{HasSub}
use Rattle.rr_tables.specs.Looks.{LayoutParts}
use Rattle.rr_tables.proofs.Locating.{no_first, sub_there, sub_is}
use Rattle.rr_tables.proofs.layout.Layout.loc_of.Goals as goal

pub returns-in_err-first : goal.returns-in_err-first
returns-in_err-first c =
    let has = subst (λ (l : LayoutParts). HasSub l.locs c.args.x c.args.y c.args.sub) (sym c.self.view_is) c.requires.sub in
    absurd (no_first c.self.inside.locs c.args.x c.args.y c.args.sub has c.in_err-first.ensures)

pub overflow_add-result : goal.overflow_add-result
overflow_add-result c =
    let has = subst (λ (l : LayoutParts). HasSub l.locs c.args.x c.args.y c.args.sub) (sym c.self.view_is) c.requires.sub in
    let few = subst (λ (l : LayoutParts). length l.locs ≤ 1048576) (sym c.self.view_is) c.requires.few in
    let there = sub_there c.self.inside.locs c.args.x c.args.y c.args.sub has c.subs_follow.ensures c.in_ok-first.first c.in_ok-first.ensures in
    omega (arith, few, slice_get_within c.self.inside.locs _ (loc_of has.root c.args.sub) there)

pub returns : goal.returns
returns c =
    let has = subst (λ (l : LayoutParts). HasSub l.locs c.args.x c.args.y c.args.sub) (sym c.self.view_is) c.requires.sub in
    rw (← c.self.view_is) (sym (sub_is c.self.inside.locs c.args.x c.args.y c.args.sub has c.subs_follow.ensures c.in_ok-first.first c.in_ok-first.ensures))
