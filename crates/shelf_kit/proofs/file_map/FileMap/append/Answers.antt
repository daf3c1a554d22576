use Rattle.std.proofs.Common.{◌≡◌, Some, None, ap, sym, ◌∙◌, option_map, vec_items, rules}
use Rattle.vtr_base.specs.Outside.{file}
use Rattle.shelf_kit.specs.MapFiles.{files_of}
use Rattle.shelf_kit.proofs.Files.{file_held, held_updated, appended_or_same}
use Rattle.shelf_kit.proofs.file_map.FileMap.append.Goals as goal

pub unreachable-requires : goal.unreachable-requires
unreachable-requires c =
    let none : file (files_of c.self.inside.by_name) c.args.name.now ≡ None = file_held c.self.inside.by_name c.args.name.now ∙ ap (option_map vec_items) (sym c.in-None.ensures.value) in
    let there = rw (← c.self.view_is, none) at c.requires in
    cc

pub returns : goal.returns
returns c =
    let bytes : file (files_of c.self.inside.by_name) c.args.name.now ≡ Some c.in-Some.bytes.now.items = file_held c.self.inside.by_name c.args.name.now ∙ ap (option_map vec_items) (sym c.in-Some.ensures.value) in
    let updated = held_updated c.args.name.now c.self.inside.by_name (c.get_mut.follows.lender c.extend_from_slice.new.self) c.extend_from_slice.new.self ((c.get_mut.follows.holds c.extend_from_slice.new.self).3 (search rules)) in
    let both = appended_or_same c.extend_from_slice.result _ _ c.args.name.now c.in-Some.bytes.now.items c.args.piece.now c.extend_from_slice.new.self.items bytes updated c.extend_from_slice.ensures.items in
    rw (← c.self.view_is) (record { ok = both.0; memory = both.1 })
