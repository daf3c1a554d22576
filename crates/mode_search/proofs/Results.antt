-- What holds of a value that is answered.
use Rattle.std.proofs.Common.{◌≡◌, subst, Result, Ok, Err, Option, Some, None, IfOk}
use Rattle.std.specs.Prelude.{IfSome}

pub ok_then : {T E : Type 0} (P Q : T → Type 0) (r : Result T E) → ((x : T) → P x → Q x) → IfOk r P → IfOk r Q
ok_then P Q (Ok x) f h = f x h
ok_then P Q (Err e) f h = tt

some_same : {X : Type 0} {x y : X} → Some x ≡ Some y → x ≡ y
some_same e = cc

pub some_at : {T : Type 0} (P : T → Type 0) (o : Option T) (x : T) → o ≡ Some x → IfSome o P → P x
some_at P (Some y) x is h = subst P (some_same is) h
some_at P None x is h = let bad : ⊥ = cc is in absurd bad
