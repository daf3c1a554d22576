use Rattle.std.proofs.Common.{cond, Some, ap, ◌∙◌, arith}
use Rattle.std.specs.Str.{bytes_eq}
use Rattle.prog_text.specs.Table.{numbered}
use Rattle.prog_text.proofs.Tables.{numbered_put}
use Rattle.prog_text.proofs.table.NameTable.put.Goals as goal

pub returns : goal.returns
returns c = λ text.
    numbered_put c.args.self.now.numbers c.insert.new.self _ _ c.in_ok-insert.ensures.updates text
    ∙ ap (λ key. cond (bytes_eq key text) (Some c.in-Ok.number) (numbered c.args.self.now.numbers text)) c.in_ok-from_slice.ensures.items
    ∙ ap (λ number. cond (bytes_eq c.args.name.now text) (Some number) (numbered c.args.self.now.numbers text)) (omega (arith, c.in-Ok.ensures))
