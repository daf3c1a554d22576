use Rattle.std.proofs.Common.{◌≡◌, Some, None, sym, subst}
use Rattle.rr_tables.specs.Looks.{LayoutParts, loc_at}
use Rattle.rr_tables.proofs.Locating.{no_place, no_type, no_pin, no_loc, on_some_loc, has_sub}
use Rattle.rr_tables.proofs.layout.LayoutPinTable.pin_at.Goals as goal

pub returns-in_err-root : goal.returns-in_err-root
returns-in_err-root c =
    let l : LayoutParts = record { types = c.self.inside.types; places = c.self.inside.grid; locs = c.self.inside.locs } in
    rw (c.from_residual.ensures, ← c.self.view_is) (sym (no_place l c.args.x c.args.y c.args.ptc c.in_err-root.ensures))

pub returns-in_err-block_type : goal.returns-in_err-block_type
returns-in_err-block_type c =
    let l : LayoutParts = record { types = c.self.inside.types; places = c.self.inside.grid; locs = c.self.inside.locs } in
    rw (c.from_residual-in_err-block_type.ensures, ← c.self.view_is)
    (sym (no_type l c.self.invariant c.args.x c.args.y c.args.ptc c.in_ok-root.root c.in_ok-root.ensures c.in_err-block_type.ensures))

pub returns-in_err-pin : goal.returns-in_err-pin
returns-in_err-pin c =
    let l : LayoutParts = record { types = c.self.inside.types; places = c.self.inside.grid; locs = c.self.inside.locs } in
    rw (c.from_residual-in_err-pin.ensures, ← c.self.view_is)
    (sym (no_pin l c.self.invariant c.args.x c.args.y c.args.ptc c.in_ok-root.root c.in_ok-root.ensures c.in_ok-block_type.field-0.now c.in_ok-block_type.ensures c.in_err-pin.ensures))

pub loc_of-requires-clause-sub : goal.loc_of-requires-clause-sub
loc_of-requires-clause-sub c =
    let l : LayoutParts = record { types = c.self.inside.types; places = c.self.inside.grid; locs = c.self.inside.locs } in
    rw (← c.self.view_is)
    (has_sub l c.self.invariant c.args.x c.args.y c.args.ptc c.in_ok-root.root c.in_ok-root.ensures c.in_ok-block_type.field-0.now c.in_ok-block_type.ensures
    c.in_ok-pin.pin c.in_ok-pin.ensures)

pub returns-in_err-loc : goal.returns-in_err-loc
returns-in_err-loc c =
    let l : LayoutParts = record { types = c.self.inside.types; places = c.self.inside.grid; locs = c.self.inside.locs } in
    let none = subst (λ (v : LayoutParts). None ≡ loc_at v.locs c.in_ok-root.root.x c.in_ok-root.root.y c.in_ok-pin.pin.pin.sub) (sym c.self.view_is) c.in_err-loc.ensures in
    rw (c.from_residual-in_err-loc.ensures, ← c.self.view_is)
    (no_loc l c.self.invariant c.args.x c.args.y c.args.ptc c.in_ok-root.root c.in_ok-root.ensures c.in_ok-block_type.field-0.now c.in_ok-block_type.ensures
    c.in_ok-pin.pin c.in_ok-pin.ensures none)

pub returns : goal.returns
returns c =
    let l : LayoutParts = record { types = c.self.inside.types; places = c.self.inside.grid; locs = c.self.inside.locs } in
    let some = subst (λ (v : LayoutParts). Some c.in_ok-loc.loc ≡ loc_at v.locs c.in_ok-root.root.x c.in_ok-root.root.y c.in_ok-pin.pin.pin.sub) (sym c.self.view_is)
    c.in_ok-loc.ensures in
    rw (← c.self.view_is)
    (on_some_loc l c.self.invariant c.args.x c.args.y c.args.ptc c.in_ok-root.root c.in_ok-root.ensures c.in_ok-block_type.field-0.now c.in_ok-block_type.ensures
    c.in_ok-pin.pin c.in_ok-pin.ensures c.in_ok-loc.loc some c.pin_on.result c.pin_on.ensures.loc c.pin_on.ensures.port c.pin_on.ensures.bit c.pin_on.ensures.side)
