use Rattle.std.proofs.Common.{◌≡◌, ap, ◌∙◌, string_bytes}
use Rattle.std.proofs.lemmas.Result.{IfOk-at_ok}
use Rattle.vtr_base.specs.Outside.{with_file}
use Rattle.shelf_kit.specs.MapFiles.{files_of}
use Rattle.shelf_kit.proofs.Files.{held_updated}
use Rattle.shelf_kit.proofs.file_map.FileMap.begin.Goals as goal

pub returns-clause-ok : goal.returns-clause-ok
returns-clause-ok c =
    let key_is_name = IfOk-at_ok (λ s. string_bytes s ≡ c.args.name.now) c.in_ok-key.was c.from_str.ensures.ok in
    let updated = held_updated (string_bytes c.in_ok-key.key) c.self.inside.by_name c.insert.new.self c.new.result c.in_ok-insert.ensures.updates in
    rw (← c.self.view_is) ((rw key_is_name at updated) ∙ ap (with_file (files_of c.self.inside.by_name) c.args.name.now) c.new.ensures.items)
