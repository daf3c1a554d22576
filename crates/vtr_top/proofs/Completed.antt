-- What a run at valid inputs says.
use Rattle.std.proofs.Common.{◌≡◌, ◌⊎◌, inl, inr, ℕ, zero, List, [], ◌∷◌, length, map, take, sym, ap, ◌∙◌, subst, arith}
use Rattle.std.specs.Prelude.{Result, Ok, Err, IfOk, IfErr}
use Rattle.std.proofs.lemmas.Option.{slice_get_within}
use Rattle.run_base.specs.declared.answer.Answer.{Answer}
use Rattle.run_base.specs.declared.status.Status.{Status}
use Rattle.run_base.specs.declared.status.Status.TheVariants as status
use Rattle.run_base.specs.declared.stop.Stop.{Stop}
use Rattle.run_base.specs.declared.stop.Stop.TheVariants as stop
use Rattle.run_base.specs.Statuses.{status_of}
use Rattle.run_base.specs.Worlds.{World, Shown}
use Rattle.run_base.specs.Prints.{Puts, IsSaidOf}
use Rattle.run_words.specs.declared.shape.Shape.{Shape}
use Rattle.run_words.specs.Words.{parts_of}
use Rattle.run_words.specs.Commands.{IsRow, IsShort, IsCommand, IsFirstWrong, IsWrongAt, IsMissingAt}
use Rattle.tree_verdict.specs.declared.verdict.Verdict.{Verdict}
use Rattle.tree_verdict.specs.declared.verdict.Verdict.TheVariants.{Refutes, Partial, Wrong}
use Rattle.run_tasks.specs.Words.{WordsSaid, words_said}
use Rattle.cmd_refute.specs.Lines.{verdict_status}
use Rattle.cmd_refute.specs.Refute.{AnswersRefute}
use Rattle.cmd_refute.specs.Valid as refute
use Rattle.vtr_top.specs.declared.table.Task.{Task}
use Rattle.vtr_top.specs.declared.table.Task.TheVariants.{Trace, Refute}
use Rattle.vtr_top.specs.Table.{Row, IsTable, IsTaskOf, AreWordsOf, words_of}
use Rattle.vtr_top.specs.Valid.{IsValidRun, IsValidTask, IsEndOf, EndsOrMemory, Completes}
use Rattle.vtr_top.proofs.Rows.{one_row, stands_alike}

-- what is said of a command that stops for want of memory alone
pub ends_or_memory : {E : Type 0} (Answered : Status → List ℕ → Type 0) (Ends : Status → Type 0) (outcome : Result Answer Stop) (r : Result Answer E) →
    ((s : Status) (text : List ℕ) → Answered s text → Ends s) → IfOk outcome (λ a. Answered a.status a.text.items) → IfErr outcome (λ s. s ≡ stop.Memory) →
    IfOk r (IsSaidOf outcome) → IfOk r (λ a. Ends a.status ⊎ (a.status ≡ status.Memory))
ends_or_memory Answered Ends (Ok a) (Ok b) ends answers stops is = inl (subst Ends (sym is.0) (ends a.status a.text.items answers))
ends_or_memory Answered Ends (Err e) (Ok b) ends answers stops is = inr (is.0 ∙ ap status_of stops)
ends_or_memory Answered Ends outcome (Err e) ends answers stops is = tt

-- the words of a task have no word that can't stand, and lack none
pub none_wrong : (table : List Shape) (words : List (List ℕ)) (place : ℕ) (task : Task) → IsTable table → AreWordsOf words task → IsFirstWrong table words place → ⊥
none_wrong table words place task is_table are wrong = by_cause wrong.wrong
  where
    short : IsShort table (are.command.name ∷ are.command.rest) → ⊥
    short missing =
        let alike = one_row are.table table are.command.name are.row missing.0 are.command.shape missing.1 are.is_table is_table are.command.is_row missing.2 in
        let kinds : length are.command.shape.words.now ≡ length missing.1.words.now = ap (λ (r : Row). length r.kinds) alike.1 in
        omega (arith, missing.3, kinds, are.command.all, ap length are.command.plain_are)

    by_cause : IsWrongAt table words place ⊎ IsMissingAt table words place → ⊥
    by_cause (inl at) =
        at.wrong (stands_alike are.table table (take place words) at.word are.is_table is_table
        (are.command.each place at.word (slice_get_within words place at.word at.there) at.there))
    by_cause (inr missing) = short (subst (IsShort table) are.command.are missing.short)

-- tasks of the same words: what is valid for the one is for the other, and they end with the same statuses
pub record AreAlike (known task : Task) : Type 0 where
  pub valid : (w : World) → IsValidTask known w → IsValidTask task w
  pub ends : (s : Status) → IsEndOf task s → IsEndOf known s

-- with which statuses `refute` answers
pub refute_ends : (w : World) (words : WordsSaid) (tree : List ℕ) (s : Status) (text : List ℕ) → AnswersRefute w words tree s text →
    (s ≡ status.Done) ⊎ ((s ≡ status.Undecided) ⊎ (s ≡ status.Wrong))
refute_ends w words tree s text answers = by_verdict answers.verdict answers.is
  where
    by_verdict : (v : Verdict) → s ≡ verdict_status v → (s ≡ status.Done) ⊎ ((s ≡ status.Undecided) ⊎ (s ≡ status.Wrong))
    by_verdict Refutes is = inl is
    by_verdict (Partial branches loose) is = inr (inl is)
    by_verdict (Wrong node) is = inr (inr is)

alike : (row : ℕ) (plain : List (List ℕ)) (known task : Task) → IsTaskOf row plain known → IsTaskOf row plain task → AreAlike known task
alike row plain (Trace arch block prog) (Trace arch' block' prog') was is =
    let three : arch.now ∷ (block.now ∷ (prog.now ∷ [])) ≡ arch'.now ∷ (block'.now ∷ (prog'.now ∷ [])) = sym was.1 ∙ is.1 in
    let first : arch.now ≡ arch'.now = cc in
    let second : block.now ≡ block'.now = cc in
    let third : prog.now ≡ prog'.now = cc in
    record { valid = λ w valid. rw (sym first, sym second, sym third) valid; ends = λ s ends. ends }
alike row plain (Refute of tree) (Refute of' tree') was is = record {
  valid = λ w valid. subst (λ t. refute.IsValid w (words_said of') t) second (subst (λ s. refute.IsValid w s tree.now) first valid);
  ends = λ s ends. ends;
}
  where
    five : words_of (words_said of) tree.now ≡ words_of (words_said of') tree'.now
    five = sym was.1 ∙ is.1

    first : words_said of ≡ words_said of'
    first = cc

    second : tree.now ≡ tree'.now
    second = cc
alike row plain (Trace arch block prog) (Refute of tree) was is = absurd (no_row (sym was.0 ∙ is.0))
  where
    no_row : zero ≡ 1 → ⊥
    no_row e = cc
alike row plain (Refute of tree) (Trace arch block prog) was is = absurd (no_row (sym was.0 ∙ is.0))
  where
    no_row : 1 ≡ zero → ⊥
    no_row e = cc

-- words are those of one task
one_task : (table : List Shape) (words : List (List ℕ)) (row : ℕ) (options plain : List (List ℕ)) (known task : Task) → IsTable table →
    IsCommand table words row options plain → IsTaskOf row plain task → AreWordsOf words known → AreAlike known task
one_task table words row options plain known task is_table command is are =
    alike row plain known task (subst (λ r. IsTaskOf r plain known) same_row (subst (λ p. IsTaskOf are.row p known) same are.is)) is
  where
    same_words : are.command.name ∷ are.command.rest ≡ command.name ∷ command.rest
    same_words = sym are.command.are ∙ command.are

    same_rest : are.command.rest ≡ command.rest
    same_rest = cc

    same_name : are.command.name ≡ command.name
    same_name = cc

    same : are.plain ≡ plain
    same = are.command.plain_are ∙ (ap (λ (rest : List (List ℕ)). (parts_of rest).plain) same_rest ∙ sym command.plain_are)

    same_row : are.row ≡ row
    same_row =
        (one_row are.table table command.name are.row row are.command.shape command.shape are.is_table is_table
        (subst (λ n. IsRow are.table n are.row are.command.shape) same_name are.command.is_row) command.is_row).0

result_alike : {A E : Type 0} (status_in : A → Status) (known task : Task) (r : Result A E) → AreAlike known task →
    IfOk r (λ a. EndsOrMemory task (status_in a)) → IfOk r (λ a. EndsOrMemory known (status_in a))
result_alike status_in known task (Ok a) are (inl ends) = inl (are.ends (status_in a) ends)
result_alike status_in known task (Ok a) are (inr memory) = inr memory
result_alike status_in known task (Err e) are ends = tt

-- what a run at valid inputs ends with, from what its task does
pub ends_here : {A E X : Type 0} (status_in : A → Status) (f : X → List ℕ) (items read : List X) (table : List Shape) (words : List (List ℕ)) (row : ℕ)
    (options : List (List ℕ)) (task : Task) (w : World) (r : Result A E) (run : IsValidRun words w) → read ≡ items → IsTable table →
    IsCommand table words row options (map f items) → IsTaskOf row (map f read) task →
    (IsValidTask task w → IfOk r (λ a. EndsOrMemory task (status_in a))) → IfOk r (λ a. EndsOrMemory run.task (status_in a))
ends_here status_in f items read table words row options task w r run same is_table command is complete =
    let here : IsTaskOf row (map f items) task = subst (λ l. IsTaskOf row (map f l) task) same is in
    let are = one_task table words row options (map f items) run.task task is_table command here run.are in
    result_alike status_in run.task task r are (complete (are.valid w run.valid))

-- what the put of such a status answers
pub put_of_done : (task : Task) (shown : Shown) (text : List ℕ) (s result : Status) → EndsOrMemory task s → Puts shown text s result → Completes task shown result
put_of_done task shown text s result done (inl whole) = inl (subst (EndsOrMemory task) (sym whole.0) done)
put_of_done task shown text s result done (inr part) = inr (part.0, part.1)
