-- A `BTreeMap` seen as a finite map.
use Rattle.std.proofs.Common.{◌≡◌, ◌||◌, ℕ, Bool, true, false, cond, List, [], ◌∷◌, Option, Some, None, refl, sym, ap, ◌∙◌}
use Rattle.std.specs.declared.cmp.Ordering.{Ordering}
use Rattle.std.specs.Ordering.{nat_cmp, eq_by_cmp, is_eq}
use Rattle.std.specs.Cmp.{IsTotalOrder, eq_by_cmp_equiv, nat_cmp_total, then_total, on_total}
use Rattle.std.specs.FinMap as map
use Rattle.std.specs.FinSet as set
use Rattle.std.specs.FinMap.{get-empty, get-from_entries, get-insert, same_map, IsAntisymmetric, nat_cmp-IsAntisymmetric}
use Rattle.std.specs.BTreeMap as tree
use Rattle.std.specs.BTreeMap.{BTreeMap, is_at}
use Rattle.std.specs.BTreeSet as sorted
use Rattle.std.specs.BTreeSet.{BTreeSet}
use Rattle.std.specs.Map.{lookup}
use Rattle.std.proofs.lemmas.Map.Lookups.{exact_pairs}
use Rattle.pb_expand.specs.Graph.{Graph}
use Rattle.prog_map.specs.Choices.{Choices, site_cmp, no_choices, mode_of, pick_of, is_used, lut_of, IsProgOf}

none_some : {X : Type 0} {x : X} → None ≡ Some x → ⊥
none_some e = cc

module _ {K X : Type 0} {R : K → K → Ordering} (o : IsTotalOrder R) where
  pub found : (q : K) (es : List (K × X)) → lookup (is_at (R q)) es ≡ map.find R q es
  found q [] = refl
  found q (e ∷ es) = ap (cond (is_eq (R q e.0)) (Some e.1)) (found q es)

  -- what the tree holds at a key
  pub looked_up : (m : BTreeMap K X) (q : K) → map.get (map.from_entries {R = R} m.entries) q ≡ tree.get R m q
  looked_up m q = get-from_entries o m.entries q ∙ sym (found q m.entries)

  -- the tree after one key was set
  pub set_at : IsAntisymmetric R → (m n : BTreeMap K X) (k : K) (v : X) →
      ((q : K) → tree.get R n q ≡ cond (is_at (R k) q) (Some v) (tree.get R m q)) →
      map.from_entries {R = R} n.entries ≡ map.insert (map.from_entries m.entries) k v
  set_at same m n k v updates =
      same_map o same _ _ (λ q.
      looked_up n q ∙ updates q
      ∙ ap (λ b. cond b (Some v) (tree.get R m q)) ((eq_by_cmp_equiv o).symm k q)
      ∙ ap (cond (eq_by_cmp R q k) (Some v)) (sym (looked_up m q))
      ∙ sym (get-insert o (map.from_entries m.entries) k v q))

pub sites_total : IsTotalOrder site_cmp
sites_total = then_total (on_total (λ (x : ℕ × ℕ). x.0) nat_cmp_total) (on_total (λ (x : ℕ × ℕ). x.1) nat_cmp_total)

pub sites_apart : IsAntisymmetric site_cmp
sites_apart = exact_pairs nat_cmp nat_cmp nat_cmp-IsAntisymmetric nat_cmp-IsAntisymmetric

-- the set after one more member
pub member_added : (m n : BTreeSet ℕ) (k : ℕ) → ((q : ℕ) → sorted.contains nat_cmp n q ≡ cond (is_at (nat_cmp k) q) true (sorted.contains nat_cmp m q)) →
    set.from_list {R = nat_cmp} n.keys ≡ set.insert (set.from_list m.keys) k
member_added m n k updates =
    set.same_set nat_cmp_total nat_cmp-IsAntisymmetric _ _ (λ q.
    set.contains-from_list nat_cmp_total n.keys q ∙ updates q
    ∙ either (is_at (nat_cmp k) q) (sorted.contains nat_cmp m q)
    ∙ ap (λ b. b || sorted.contains nat_cmp m q) ((eq_by_cmp_equiv nat_cmp_total).symm k q)
    ∙ ap (λ b. eq_by_cmp nat_cmp q k || b) (sym (set.contains-from_list nat_cmp_total m.keys q))
    ∙ sym (set.contains-insert nat_cmp_total (set.from_list m.keys) k q))
  where
    either : (a b : Bool) → cond a true b ≡ (a || b)
    either true b = refl
    either false b = refl

-- where every site is off, each choice is one of its site
pub none_is_prog : (g : Graph) (c : Choices) → c ≡ no_choices → IsProgOf g c
none_is_prog g c is = record {
  modes = λ pb mode chosen. absurd (none_some (sym (get-empty nat_cmp pb) ∙ sym (ap (λ x. mode_of x pb) is) ∙ chosen));
  picks = λ pin mode number chosen. absurd (none_some (sym (get-empty site_cmp (pin, mode)) ∙ sym (ap (λ x. pick_of x pin mode) is) ∙ chosen));
  leaves = λ pb chosen. absurd (off_on (sym (set.contains-empty nat_cmp pb) ∙ sym (ap (λ x. is_used x pb) is) ∙ chosen));
  luts = λ pb choice chosen. absurd (none_some (sym (get-empty nat_cmp pb) ∙ sym (ap (λ x. lut_of x pb) is) ∙ chosen));
}
  where
    off_on : false ≡ true → ⊥
    off_on e = cc

-- what a programming says of a pin in a mode, from the tree of its edges
pub pick_is : (p : BTreeMap (ℕ × ℕ) ℕ) (c : Choices) (pin mode : ℕ) (r : Option ℕ) → c.picks ≡ map.from_entries p.entries →
    r ≡ tree.get site_cmp p (pin, mode) → r ≡ pick_of c pin mode
pick_is p c pin mode r view at =
    at ∙ sym (looked_up sites_total p (pin, mode)) ∙ ap (λ m. map.get m (pin, mode)) (sym view)
