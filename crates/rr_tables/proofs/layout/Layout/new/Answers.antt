use Rattle.std.proofs.Common.{sym, ap, subst, ◌∙◌}
use Rattle.rr_locs.specs.Places.{AreApart}
use Rattle.rr_tables.specs.Roots.{roots_of}
use Rattle.rr_tables.proofs.Rooting.{apart}
use Rattle.rr_tables.proofs.layout.Layout.new.Goals as goal

pub of_roots-requires : goal.of_roots-requires
of_roots-requires c =
    subst AreApart (sym (c.as_slice.ensures.value ∙ c.in_ok-roots.ensures ∙ ap (roots_of c.args.tiles.now c.args.types) c.places.ensures))
    (apart c.args.tiles.now c.args.types c.args.grid c.law.ensures.once)
