-- What stands together, by places.
use Rattle.std.proofs.Common.{◌≡◌, ◌<◌, inl, inr, ℕ, zero, suc, List, [], ◌∷◌, Some, subst, sym, arith}
use Rattle.std.specs.Prelude.{slice_get}
use Rattle.vtr_base.specs.Lists.{Has}
use Rattle.pb_expand.specs.Graph.{Graph}
use Rattle.pb_expand.specs.Expansion.{IsExpansion}
use Rattle.prog_map.specs.Levels.{level_order}
use Rattle.prog_map.specs.Above.{needs_of, StandTogether}
use Rattle.prog_map.proofs.InOrder.{order_together}
use Rattle.prog_map.proofs.Joined.{AllBetween, AreTogether}

has_get : {A : Type 0} (xs : List A) (k : ℕ) (x : A) → slice_get xs k ≡ Some x → Has xs x
has_get [] k x is = absurd (cc)
has_get (y ∷ xs) zero x is = inl (cc)
has_get (y ∷ xs) (suc k) x is = inr (has_get xs k x is)

between_at : {A N : Type 0} (over : A → List N) (x : A) (ys : List A) → AllBetween over x ys → (j k : ℕ) (y z : A) (n : N) → j < k → slice_get ys j ≡ Some y → slice_get ys k ≡ Some z →
    Has (over x) n → Has (over z) n → Has (over y) n
between_at over x [] all j k y z n low at_j at_k up_x up_z = absurd (cc)
between_at over x (w ∷ ys) all zero zero y z n low at_j at_k up_x up_z = absurd (omega arith)
between_at over x (w ∷ ys) all zero (suc k) y z n low at_j at_k up_x up_z =
    let same : w ≡ y = cc in
    subst (λ v. Has (over v) n) same (all.0 z n (has_get ys k z at_k) up_x up_z)
between_at over x (w ∷ ys) all (suc j) zero y z n low at_j at_k up_x up_z = absurd (omega arith)
between_at over x (w ∷ ys) all (suc j) (suc k) y z n low at_j at_k up_x up_z = between_at over x ys all.1 j k y z n (omega arith) at_j at_k up_x up_z

pub together_at : {A N : Type 0} (over : A → List N) (xs : List A) → AreTogether over xs → (i j k : ℕ) (x y z : A) (n : N) → i < j → j < k →
    slice_get xs i ≡ Some x → slice_get xs j ≡ Some y → slice_get xs k ≡ Some z → Has (over x) n → Has (over z) n → Has (over y) n
together_at over [] all i j k x y z n low high at_i at_j at_k up_x up_z = absurd (cc)
together_at over (w ∷ xs) all zero zero k x y z n low high at_i at_j at_k up_x up_z = absurd (omega arith)
together_at over (w ∷ xs) all zero (suc j) zero x y z n low high at_i at_j at_k up_x up_z = absurd (omega arith)
together_at over (w ∷ xs) all zero (suc j) (suc k) x y z n low high at_i at_j at_k up_x up_z =
    let same : w ≡ x = cc in
    between_at over w xs all.0 j k y z n (omega arith) at_j at_k (subst (λ v. Has (over v) n) (sym same) up_x) up_z
together_at over (w ∷ xs) all (suc i) zero k x y z n low high at_i at_j at_k up_x up_z = absurd (omega arith)
together_at over (w ∷ xs) all (suc i) (suc j) zero x y z n low high at_i at_j at_k up_x up_z = absurd (omega arith)
together_at over (w ∷ xs) all (suc i) (suc j) (suc k) x y z n low high at_i at_j at_k up_x up_z =
    together_at over xs all.1 i j k x y z n (omega arith) (omega arith) at_i at_j at_k up_x up_z

pub order_stands : (g : Graph) → IsExpansion g → StandTogether g (level_order g)
order_stands g law = record { each = λ i j k x y z n low high at_i at_j at_k. together_at (needs_of g) (level_order g) (order_together g law) i j k x y z n low high at_i at_j at_k }
