use Rattle.std.proofs.Common.{Some, ap, ◌∙◌, option_map, vec_items}
use Rattle.shelf_kit.proofs.Files.{file_held}
use Rattle.shelf_kit.proofs.file_map.FileMap.get.Goals as goal

pub returns-in-Some : goal.returns-in-Some
returns-in-Some c = rw (← c.self.view_is, file_held) (ap Some c.as_slice.ensures.value ∙ ap (option_map vec_items) c.in-Some.ensures.value)

pub returns-in-None : goal.returns-in-None
returns-in-None c = rw (← c.self.view_is, file_held) (ap (option_map vec_items) c.in-None.ensures.value)
