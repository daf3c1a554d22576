-- The graphs of all block types, one by one.
use Rattle.std.proofs.Common.{◌≡◌, ◌+◌, ◌<◌, ◌≤◌, ◌⊎◌, ℕ, zero, suc, List, [], ◌∷◌, Some, length, slice_get, sym, ap, ◌∙◌, subst, inl, inr, arith, length-append, eq-or-lt_of_le}
use Rattle.std.proofs.lemmas.Option.{slice_get_within}
use Rattle.arch_types.specs.declared.block.PbType.{PbType}
use Rattle.pb_expand.specs.Graph.{Graph}
use Rattle.pb_expand.specs.Expansion.{IsExpansion}
use Rattle.pb_expand.specs.Types.{modes_in_tree}
use Rattle.pb_expand.specs.Refusals.{AreSound, IsTooLarge}
use Rattle.pb_expand.specs.All.{AddsGraph}
use Rattle.pb_expand.proofs.Lists.{get_either}

-- the graph of number n, where it is that of a block type
pub record IsGraphOf (blocks : List PbType) (n : ℕ) (g : Graph) : Type 0 where
  pub number : g.block ≡ n
  pub root : slice_get blocks n ≡ Some g.root
  pub expansion : IsExpansion g

-- the first n block types have graphs
pub record AreMade (blocks : List PbType) (n : ℕ) (graphs : List Graph) : Type 0 where
  pub all : length graphs ≡ n
  pub each : (k : ℕ) (g : Graph) → slice_get graphs k ≡ Some g → IsGraphOf blocks k g
  pub sound : (k : ℕ) (before : PbType) → k < n → slice_get blocks k ≡ Some before → AreSound (modes_in_tree before)
  pub fits : (k : ℕ) (before : PbType) → k < n → slice_get blocks k ≡ Some before → IsTooLarge before → ⊥

pub none_made : (blocks : List PbType) (graphs : List Graph) → graphs ≡ [] → AreMade blocks 0 graphs
none_made blocks graphs e = record {
  all = ap length e;
  each = λ k g at. let none = subst (λ l. slice_get l k ≡ Some g) e at in absurd (cc);
  sound = λ k before low at. absurd (omega arith);
  fits = λ k before low at large. omega arith;
}

pub one_made : (blocks : List PbType) (n : ℕ) (root : PbType) (old new : List Graph) → slice_get blocks n ≡ Some root → AreMade blocks n old → AddsGraph root n old new →
    AreMade blocks (n + 1) new
one_made blocks n root old new at_n made adds = record {
  all = ap length adds.is ∙ length-append old (adds.graph ∷ []) ∙ omega (arith, made.all);
  each = λ k g at. each k g (get_either old (adds.graph ∷ []) k g (subst (λ l. slice_get l k ≡ Some g) adds.is at));
  sound = λ k before low at. sound k before at (eq-or-lt_of_le (at_most k low));
  fits = λ k before low at. fits k before at (eq-or-lt_of_le (at_most k low));
}
  where
    at_most : (k : ℕ) → k < n + 1 → k ≤ n
    at_most k low = omega arith

    same_root : (k : ℕ) (before : PbType) → slice_get blocks k ≡ Some before → k ≡ n → root ≡ before
    same_root k before at same = let read : Some root ≡ Some before = sym at_n ∙ ap (λ m. slice_get blocks m) (sym same) ∙ at in cc

    sound : (k : ℕ) (before : PbType) → slice_get blocks k ≡ Some before → (k ≡ n) ⊎ (k < n) → AreSound (modes_in_tree before)
    sound k before at (inl same) = subst (λ b. AreSound (modes_in_tree b)) (same_root k before at same) adds.sound
    sound k before at (inr less) = made.sound k before less at

    fits : (k : ℕ) (before : PbType) → slice_get blocks k ≡ Some before → (k ≡ n) ⊎ (k < n) → IsTooLarge before → ⊥
    fits k before at (inl same) large = adds.fits (subst IsTooLarge (sym (same_root k before at same)) large)
    fits k before at (inr less) large = made.fits k before less at large

    here : IsGraphOf blocks n adds.graph
    here = record { number = adds.number; root = at_n ∙ ap Some (sym adds.is_root); expansion = adds.expansion }

    last : (k : ℕ) (g : Graph) (j : ℕ) → k ≡ length old + j → slice_get (adds.graph ∷ []) j ≡ Some g → IsGraphOf blocks k g
    last k g zero place at =
        let one : adds.graph ≡ g = cc in
        let number : k ≡ n = omega (arith, made.all) in
        subst (λ m. IsGraphOf blocks m g) (sym number) (subst (IsGraphOf blocks n) one here)
    last k g (suc j) place at = absurd (cc)

    each : (k : ℕ) (g : Graph) → (slice_get old k ≡ Some g) ⊎ ((j : ℕ) × (k ≡ length old + j) × (slice_get (adds.graph ∷ []) j ≡ Some g)) → IsGraphOf blocks k g
    each k g (inl was) = made.each k g was
    each k g (inr new') = last k g new'.0 new'.1 new'.2

pub root_is_sound : (blocks : List PbType) (n : ℕ) (graphs : List Graph) → AreMade blocks n graphs → (k : ℕ) (g : Graph) → slice_get graphs k ≡ Some g →
    AreSound (modes_in_tree g.root)
root_is_sound blocks n graphs made k g at =
    let low = slice_get_within graphs k g at in
    made.sound k g.root (omega (arith, low, made.all)) (made.each k g at).root

pub root_fits : (blocks : List PbType) (n : ℕ) (graphs : List Graph) → AreMade blocks n graphs → (k : ℕ) (g : Graph) → slice_get graphs k ≡ Some g →
    IsTooLarge g.root → ⊥
root_fits blocks n graphs made k g at =
    let low = slice_get_within graphs k g at in
    made.fits k g.root (omega (arith, low, made.all)) (made.each k g at).root
