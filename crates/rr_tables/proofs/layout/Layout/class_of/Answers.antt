use Rattle.rr_tables.proofs.Locating.{no_class, class_there}
use Rattle.rr_tables.specs.Looks.{LayoutParts}
use Rattle.rr_tables.proofs.layout.Layout.class_of.Goals as goal

pub returns-in_err-block_type : goal.returns-in_err-block_type
returns-in_err-block_type c =
    let l : LayoutParts = record { types = c.self.inside.types; places = c.self.inside.grid; locs = c.self.inside.locs } in
    rw (c.from_residual-in_err-block_type.ensures, ← c.self.view_is)
    (no_class l c.self.invariant c.args.loc c.args.port c.args.bit c.in_ok-root.root c.in_ok-root.ensures c.in_err-block_type.ensures)

pub returns : goal.returns
returns c =
    let l : LayoutParts = record { types = c.self.inside.types; places = c.self.inside.grid; locs = c.self.inside.locs } in
    rw (← c.self.view_is)
    (class_there l c.self.invariant c.args.loc c.args.port c.args.bit c.in_ok-root.root c.in_ok-root.ensures c.in_ok-block_type.field-0.now c.in_ok-block_type.ensures
    c.class_of.result c.class_of.ensures)
