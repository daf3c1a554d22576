-- The size of a grid with one place more.
use Rattle.std.proofs.Common.{◌<◌, ◌+◌, ℕ, List, [], ◌∷◌, ◌++◌, length, take, get_or, sym, ap, subst, inl, inr, arith}
use Rattle.std.proofs.lemmas.List.{take_more}
use Rattle.std.proofs.lemmas.Option.{slice_get-get_or}
use Rattle.vtr_base.specs.Lists.{Has}
use Rattle.list_laws.proofs.Members.{has_at, has_left, has_last, has_pushed}
use Rattle.rr_items.specs.declared.grid.GridPlace.{GridPlace}
use Rattle.rr_grid.specs.Sizes.{IsSize, AddsPlace}

pushed : (places : List GridPlace) (size new : ℕ × ℕ) (place : GridPlace) → IsSize places size → AddsPlace size place new → IsSize (places ++ place ∷ []) new
pushed places size new place is adds = record {
  columns = λ p has. elim (has_pushed places place p has) [
    | inl before ↦ omega (arith, is.columns p before, adds.columns)
    | inr last ↦ omega (arith, ap (λ q. q.x) last, adds.columns)
  ];
  rows = λ p has. elim (has_pushed places place p has) [
    | inl before ↦ omega (arith, is.rows p before, adds.rows)
    | inr last ↦ omega (arith, ap (λ q. q.y) last, adds.rows)
  ];
  least_columns = λ n above. omega (arith, adds.columns, is.least_columns n (λ p has. above p (has_left places (place ∷ []) p has)), above place (has_last places place));
  least_rows = λ n above. omega (arith, adds.rows, is.least_rows n (λ p has. above p (has_left places (place ∷ []) p has)), above place (has_last places place));
}

pub has_place : (places : List GridPlace) (k : ℕ) (d : GridPlace) → k < length places → Has places (get_or places k d)
has_place places k d low = has_at places k (get_or places k d) (slice_get-get_or places k d low)

pub sized_more : (places : List GridPlace) (k : ℕ) (d : GridPlace) (size new : ℕ × ℕ) → k < length places → IsSize (take k places) size →
    AddsPlace size (get_or places k d) new → IsSize (take (k + 1) places) new
sized_more places k d size new low is adds =
    subst (λ l. IsSize l new) (sym (take_more places k d low)) (pushed (take k places) size new (get_or places k d) is adds)
