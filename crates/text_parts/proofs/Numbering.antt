-- Digits read one by one, up to a limit.
use Rattle.std.proofs.Common.{◌≡◌, ◌+◌, ◌*◌, ◌<◌, ◌≤◌, ℕ, List, [], ◌∷◌, Option, Some, None, MatchOption, length, drop, get_or, refl, sym, subst, arith}
use Rattle.std.specs.Char.{digit_value}
use Rattle.std.specs.Option.{SomeIff}
use Rattle.std.specs.Str.Parse.{AllDigits, digits_value, digits_value_after}
use Rattle.std.proofs.lemmas.List.{drop_more}

-- what the digits so far say, seen from what is left of the text
abbrev pub SaysSoFar : ℕ → List ℕ → List ℕ → Option ℕ → Type 0
SaysSoFar most text rest None = most < digits_value 10 text
SaysSoFar most text rest (Some v) = (digits_value_after 10 v rest ≡ digits_value 10 text) × (v ≤ most)

pub record IsReading (most : ℕ) (text rest : List ℕ) (value : Option ℕ) : Type 0 where
  pub on : AllDigits 10 rest → AllDigits 10 text
  pub back : AllDigits 10 text → AllDigits 10 rest
  pub says : SaysSoFar most text rest value

pub reading_starts : (most : ℕ) (text : List ℕ) → IsReading most text text (Some 0)
reading_starts most text = record { on = λ all. all; back = λ all. all; says = (refl, omega arith) }

value_grows : (value : ℕ) (ds : List ℕ) → value ≤ digits_value_after 10 value ds
value_grows value [] = omega arith
value_grows value (d ∷ ds) = omega (arith, value_grows (value * 10 + digit_value d) ds)

says_more : (most : ℕ) (text rest : List ℕ) (b digit : ℕ) (value next : Option ℕ) → digit ≡ digit_value b → SaysSoFar most text (b ∷ rest) value →
    MatchOption value (next ≡ None) (λ v. SomeIff next (v * 10 + digit ≤ most) (v * 10 + digit)) → SaysSoFar most text rest next
says_more most text rest b digit None next is so_far step = subst (SaysSoFar most text rest) (sym step) so_far
says_more most text rest b digit (Some v) None is so_far step =
    omega (arith, step, so_far.0, is, value_grows (v * 10 + digit_value b) rest)
says_more most text rest b digit (Some v) (Some n) is so_far step =
    let same : v * 10 + digit_value b ≡ n = omega (arith, step.1, is) in
    (subst (λ m. digits_value_after 10 m rest ≡ digits_value 10 text) same so_far.0, omega (arith, step.0, step.1))

pub reading_more : (most : ℕ) (text : List ℕ) (k digit : ℕ) (value next : Option ℕ) → k < length text → digit ≡ digit_value (get_or text k 0) → digit < 10 →
    MatchOption value (next ≡ None) (λ v. SomeIff next (v * 10 + digit ≤ most) (v * 10 + digit)) → IsReading most text (drop k text) value →
    IsReading most text (drop (k + 1) text) next
reading_more most text k digit value next within is low step r =
    let cut = drop_more text k 0 within in
    let b = get_or text k 0 in
    let was : IsReading most text (b ∷ drop (k + 1) text) value = subst (λ rest. IsReading most text rest value) cut r in
    record {
      on = λ all. was.on (omega (arith, is, low), all);
      back = λ all. (was.back all).1;
      says = says_more most text (drop (k + 1) text) b digit value next is was.says step;
    }
