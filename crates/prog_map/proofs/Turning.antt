-- Nodes get their ends, node by node.
use Rattle.std.proofs.Common.{◌≡◌, ◌≢◌, ◌⊎◌, ◌<◌, ◌+◌, ◌≤◌, inl, inr, ℕ, suc, List, [], ◌∷◌, ◌++◌, Some, length, get_or, set, take, refl, sym, ap, ◌∙◌, subst, arith}
use Rattle.std.specs.Prelude.{slice_get}
use Rattle.std.proofs.Math.ListN.{length-set}
use Rattle.std.proofs.lemmas.Bool.{cases_eq}
use Rattle.std.proofs.lemmas.List.{take_more}
use Rattle.std.proofs.lemmas.Option.{slice_get-get_or, slice_get_within}
use Rattle.vtr_base.specs.Lists.{Has}
use Rattle.list_laws.specs.Orders.{Once}
use Rattle.list_laws.proofs.Members.{has_at, has_left, has_last, has_pushed}
use Rattle.list_laws.proofs.Onces.{once_at}
use Rattle.prog_map.specs.Ends.{GetEnd, Turns}
use Rattle.prog_map.proofs.Climbs.{some_injective}
use Rattle.prog_map.proofs.Walking.{at_set, off_set}

pub gets_first : (last : List ℕ) (end : ℕ) → GetEnd last last end []
gets_first last end = record { all = refl; each = λ node has. absurd has; kept = λ node off. refl }

pub gets_next : (old mid : List ℕ) (end : ℕ) (nodes : List ℕ) (k node : ℕ) → k < length nodes → node ≡ get_or nodes k 0 → node < length old →
    GetEnd old mid end (take k nodes) → GetEnd old (set mid node end) end (take (k + 1) nodes)
gets_next old mid end nodes k node inside read low gets = subst (GetEnd old (set mid node end) end) (sym longer) (record {
  all = length-set mid node end ∙ gets.all;
  each = λ z has. each z (has_pushed (take k nodes) node z has) (cases_eq z node);
  kept = λ z off. off_set mid node end z (λ same. off (subst (Has (take k nodes ++ node ∷ [])) (sym same) (has_last (take k nodes) node))) ∙ gets.kept z (λ has. off (has_left (take k nodes) (node ∷ []) z has));
})
  where
    longer : take (k + 1) nodes ≡ take k nodes ++ node ∷ []
    longer = take_more nodes k 0 inside ∙ ap (λ y. take k nodes ++ y ∷ []) (sym read)

    each : (z : ℕ) → Has (take k nodes) z ⊎ (z ≡ node) → (z ≡ node) ⊎ (z ≢ node) → slice_get (set mid node end) z ≡ Some end
    each z has (inl same) = ap (λ i. slice_get (set mid node end) i) same ∙ at_set mid node end (omega (arith, low, gets.all))
    each z (inl has) (inr other) = off_set mid node end z other ∙ gets.each z has
    each z (inr same) (inr other) = absurd (other same)

-- so many nodes have the one before them
pub record IsTurning (old new : List ℕ) (end before : ℕ) (nodes : List ℕ) (count : ℕ) : Type 0 where
  pub all : length new ≡ length old
  pub is_before : slice_get (end ∷ nodes) count ≡ Some before
  pub each : (k node ahead : ℕ) → k < count → slice_get nodes k ≡ Some node → slice_get (end ∷ nodes) k ≡ Some ahead → slice_get new node ≡ Some ahead
  pub kept : (node : ℕ) → (Has nodes node → ⊥) → slice_get new node ≡ slice_get old node

pub turning_next : (old mid : List ℕ) (end before : ℕ) (nodes : List ℕ) (count node : ℕ) → Once nodes → count < length nodes → node ≡ get_or nodes count 0 → node < length old →
    IsTurning old mid end before nodes count → IsTurning old (set mid node before) end node nodes (count + 1)
turning_next old mid end before nodes count node once inside read low t = record {
  all = length-set mid node before ∙ t.all;
  is_before = ap (λ k. slice_get (end ∷ nodes) k) next ∙ here;
  each = λ k z ahead below at is. each k z ahead below at is (cases_eq k count);
  kept = λ z off. off_set mid node before z (λ same. off (subst (Has nodes) (sym same) (has_at nodes count node here))) ∙ t.kept z off;
}
  where
    next : count + 1 ≡ suc count
    next = omega arith

    here : slice_get nodes count ≡ Some node
    here = slice_get-get_or nodes count 0 inside ∙ ap Some (sym read)

    each : (k z ahead : ℕ) → k < count + 1 → slice_get nodes k ≡ Some z → slice_get (end ∷ nodes) k ≡ Some ahead → (k ≡ count) ⊎ (k ≢ count) → slice_get (set mid node before) z ≡ Some ahead
    each k z ahead below at is (inl same) =
        let nodes_same : node ≡ z = some_injective (sym here ∙ ap (λ i. slice_get nodes i) (sym same) ∙ at) in
        let ahead_is : before ≡ ahead = some_injective (sym t.is_before ∙ ap (λ i. slice_get (end ∷ nodes) i) (sym same) ∙ is) in
        ap (λ i. slice_get (set mid node before) i) (sym nodes_same) ∙ at_set mid node before (omega (arith, low, t.all)) ∙ ap Some ahead_is
    each k z ahead below at is (inr other) =
        off_set mid node before z (λ same. other (once_at nodes once k count node (at ∙ ap Some same) here)) ∙ t.each k z ahead (omega (arith, below, other)) at is

pub turned_all : (old new : List ℕ) (end before : ℕ) (nodes : List ℕ) (count : ℕ) → length nodes ≤ count → IsTurning old new end before nodes count → Turns old new end nodes
turned_all old new end before nodes count whole t = record {
  all = t.all;
  each = λ k node ahead at is. let inside = slice_get_within nodes k node at in t.each k node ahead (omega (arith, inside, whole)) at is;
  kept = t.kept;
}
