use Rattle.std.proofs.Common.{◌≡◌, ◌≤◌, length, subst, rules}
use Rattle.run_words.specs.declared.error.WordsError.TheVariants.{Wrong}
use Rattle.run_words.specs.Commands.{IsNoCommand}
use Rattle.vtr_top.proofs.Rows.{fits_words, place_within}
use Rattle.vtr_top.proofs.Completed.{none_wrong, ends_here}
use Rattle.vtr_top.proofs.command.answer_of.Goals as goal

pub task_of-requires : goal.task_of-requires
task_of-requires g c = fits_words _ _ _ _ _ _ _ c.as_slice.ensures.value c.table-table.ensures c.in-Ok.ensures.read

pub words_line-requires : goal.words_line-requires
words_line-requires g c =
    let a = c.in-Err-Wrong.field-0-is in
    let b = c.in-Err-Wrong.place-is in
    let d = c.in-Err-Wrong.is in
    let is : c.in-Err-Wrong.field-0 ≡ Wrong c.in-Err-Wrong.place = cc in
    let within : c.in-Err-Wrong.place ≤ length c.args.words.now =
    place_within _ _ _ c.in-Err-Wrong.place (subst (IsNoCommand _ _) is c.in-Err-Wrong.ensures.refused) in
    search rules

pub returns-in-Ok-clause-complete : goal.returns-in-Ok-clause-complete
returns-in-Ok-clause-complete g c valid =
    ends_here _ _ _ _ _ _ _ _ _ _ c.do_task.result valid c.as_slice.ensures.value c.table-table.ensures c.in-Ok.ensures.read c.task_of.ensures
    c.do_task.ensures.complete

pub returns-in_ok-text-in-Err-Wrong-clause-complete : goal.returns-in_ok-text-in-Err-Wrong-clause-complete
returns-in_ok-text-in-Err-Wrong-clause-complete g c valid =
    let a = c.in-Err-Wrong.field-0-is in
    let b = c.in-Err-Wrong.place-is in
    let d = c.in-Err-Wrong.is in
    let is : c.in-Err-Wrong.field-0 ≡ Wrong c.in-Err-Wrong.place = cc in
    absurd (none_wrong _ _ c.in-Err-Wrong.place valid.task c.table-table.ensures valid.are (subst (IsNoCommand _ _) is c.in-Err-Wrong.ensures.refused))
