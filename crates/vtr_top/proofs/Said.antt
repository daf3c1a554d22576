-- What a run says, from what its words are, what its command does and what the sink answers.
use Rattle.std.proofs.Common.{◌≡◌, inl, inr, ℕ, List, refl, sym, subst}
use Rattle.std.specs.Prelude.{Result, Ok, Err, IfOk, IfErr}
use Rattle.run_base.specs.declared.status.Status.{Status}
use Rattle.run_base.specs.declared.status.Status.TheVariants as status
use Rattle.run_base.specs.Worlds.{World, Shown}
use Rattle.run_base.specs.declared.answer.Answer.{Answer}
use Rattle.run_base.specs.declared.stop.Stop.{Stop}
use Rattle.run_base.specs.Prints.{Puts, memory_text, SaysOf, IsSaidOf}
use Rattle.run_words.specs.declared.shape.Shape.{Shape}
use Rattle.run_words.specs.Commands.{IsCommand}
use Rattle.vtr_top.specs.declared.table.Task.{Task}
use Rattle.vtr_top.specs.Table.{IsTable, IsTaskOf}
use Rattle.vtr_top.specs.Says.{Says, SaysTask, Answers}

pub says_task : {A E : Type 0} (status_in : A → Status) (text_in : A → List ℕ) (words : List (List ℕ)) (w : World) (task : Task) (table : List Shape) (row : ℕ)
    (options plain : List (List ℕ)) (r : Result A E) → IsTable table → IsCommand table words row options plain → IsTaskOf row plain task →
    IfOk r (λ a. SaysTask task w (status_in a) (text_in a)) → IfOk r (λ a. Says words w (status_in a) (text_in a))
says_task status_in text_in words w task table row options plain (Ok a) is_table command is says = inl (record {
  task = task;
  are = record { table = table; is_table = is_table; row = row; options = options; plain = plain; command = command; is = is };
  says = says;
})
says_task status_in text_in words w task table row options plain (Err e) is_table command is says = tt

pub answered : (words : List (List ℕ)) (w : World) (shown : Shown) (s : Status) (text : List ℕ) (result : Status) → Says words w s text →
    Puts shown text s result → Answers words w shown result
answered words w shown s text result says (inl whole) =
    inl (record { text = text; says = subst (λ t. Says words w t text) (sym whole.0) says; got = whole.1 })
answered words w shown s text result says (inr part) =
    inr (record { outside = part.0; failed = part.1; meant = s; text = text; says = says; got = part.2 })

pub answered_by : (words : List (List ℕ)) (w : World) (shown : Shown) (s : Status) (text put : List ℕ) (result : Status) → put ≡ text → Says words w s text →
    Puts shown put s result → Answers words w shown result
answered_by words w shown s text put result same says puts = answered words w shown s text result says (subst (λ (t : List ℕ). Puts shown t s result) same puts)

pub answered_memory : (words : List (List ℕ)) (w : World) (shown : Shown) (text : List ℕ) (result : Status) → text ≡ memory_text →
    Puts shown text status.Memory result → Answers words w shown result
answered_memory words w shown text result is puts = answered words w shown status.Memory text result (inr (inr (record { is = refl; line = is }))) puts

-- what is said of an outcome with these causes
pub said_of : {E : Type 0} (Answered : Status → List ℕ → Type 0) (Stops : Stop → Type 0) (outcome : Result Answer Stop) (r : Result Answer E) →
    IfOk outcome (λ a. Answered a.status a.text.items) → IfErr outcome Stops → IfOk r (IsSaidOf outcome) →
    IfOk r (λ a. SaysOf Answered Stops a.status a.text.items)
said_of Answered Stops (Ok a) (Ok b) answers stops is =
    inl (subst (λ s. Answered s b.text.items) (sym is.0) (subst (λ t. Answered a.status t) (sym is.1) answers))
said_of Answered Stops (Err e) (Ok b) answers stops is = inr (record { why = e; cause = stops; is = is.0; line = is.1 })
said_of Answered Stops outcome (Err e) answers stops is = tt
