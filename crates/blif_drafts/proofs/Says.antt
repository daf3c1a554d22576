-- What is known of a value, by what it is.
use Rattle.std.proofs.Common.{◌≡◌, Option, Some, None, MatchOption, subst}

pub some_says : {A : Type 0} (o : Option A) (x : A) (N : Type 0) (P : A → Type 0) → o ≡ Some x → MatchOption o N P → P x
some_says o x N P is says = subst (λ r. MatchOption r N P) is says

pub none_says : {A : Type 0} (o : Option A) (N : Type 0) (P : A → Type 0) → o ≡ None → MatchOption o N P → N
none_says o N P is says = subst (λ r. MatchOption r N P) is says
