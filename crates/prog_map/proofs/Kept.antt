-- A programming of a graph stays one when a site is set to a choice of its own.
use Rattle.std.proofs.Common.{◌≡◌, ◌||◌, ℕ, Bool, true, false, cond, Some, refl, sym, ◌∙◌, subst}
use Rattle.std.specs.declared.cmp.Ordering.{Ordering}
use Rattle.std.specs.declared.cmp.Ordering.TheVariants.{Less, Equal, Greater}
use Rattle.std.specs.Ordering.{nat_cmp, eq_by_cmp, is_eq}
use Rattle.std.specs.Cmp.{nat_cmp_total}
use Rattle.std.specs.FinMap.{get-insert, IsAntisymmetric, nat_cmp-IsAntisymmetric}
use Rattle.pb_expand.specs.Graph.{Graph}
use Rattle.std.specs.FinSet.{contains-insert}
use Rattle.prog_map.specs.declared.choice.LutChoice.{LutChoice}
use Rattle.prog_map.specs.Leaves.{IsLeaf}
use Rattle.prog_map.specs.Choices.{Choices, site_cmp, mode_of, pick_of, is_used, lut_of, with_mode, with_pick, with_used, with_lut, IsModeOf, IsEdgeInto, IsLutChoice, IsProgOf}
use Rattle.prog_map.proofs.Maps.{sites_total, sites_apart}
use Rattle.prog_map.proofs.Climbs.{some_injective}

equal_order : (o : Ordering) → is_eq o ≡ true → o ≡ Equal
equal_order Less e = cc
equal_order Equal e = refl
equal_order Greater e = cc

pub same_key : {K : Type 0} (R : K → K → Ordering) → IsAntisymmetric R → (x y : K) → eq_by_cmp R x y ≡ true → x ≡ y
same_key R apart x y e = apart x y (equal_order (R x y) e)

pub mode_kept : (g : Graph) (c : Choices) (pb mode : ℕ) → IsProgOf g c → IsModeOf g pb mode → IsProgOf g (with_mode c pb mode)
mode_kept g c pb mode of there = record {
  modes = λ q m chosen. by_test q m (eq_by_cmp nat_cmp q pb) refl (sym (get-insert nat_cmp_total c.modes pb mode q) ∙ chosen);
  picks = of.picks;
  leaves = of.leaves;
  luts = of.luts;
}
  where
    by_test : (q m : ℕ) (b : Bool) → eq_by_cmp nat_cmp q pb ≡ b → cond b (Some mode) (mode_of c q) ≡ Some m → IsModeOf g q m
    by_test q m true same is =
        subst (λ k. IsModeOf g k m) (sym (same_key nat_cmp nat_cmp-IsAntisymmetric q pb same))
        (subst (λ k. IsModeOf g pb k) (some_injective is) there)
    by_test q m false other is = of.modes q m is

pub pick_kept : (g : Graph) (c : Choices) (pin mode number : ℕ) → IsProgOf g c → IsEdgeInto g pin mode number → IsProgOf g (with_pick c pin mode number)
pick_kept g c pin mode number of there = record {
  modes = of.modes;
  picks = λ p m n chosen. by_test p m n (eq_by_cmp site_cmp (p, m) (pin, mode)) refl (sym (get-insert sites_total c.picks (pin, mode) number (p, m)) ∙ chosen);
  leaves = of.leaves;
  luts = of.luts;
}
  where
    by_test : (p m n : ℕ) (b : Bool) → eq_by_cmp site_cmp (p, m) (pin, mode) ≡ b → cond b (Some number) (pick_of c p m) ≡ Some n → IsEdgeInto g p m n
    by_test p m n true same is =
        let key : ◌≡◌ {A = ℕ × ℕ} (p, m) (pin, mode) = same_key site_cmp sites_apart (p, m) (pin, mode) same in
        subst (λ k. IsEdgeInto g p m k) (some_injective is)
        (subst (λ (k : ℕ × ℕ). IsEdgeInto g k.0 k.1 number) (sym key) there)
    by_test p m n false other is = of.picks p m n is

pub used_kept : (g : Graph) (c : Choices) (pb : ℕ) → IsProgOf g c → IsLeaf g pb → IsProgOf g (with_used c pb)
used_kept g c pb of there = record {
  modes = of.modes;
  picks = of.picks;
  leaves = λ q chosen. by_test q (eq_by_cmp nat_cmp q pb) refl (sym (contains-insert nat_cmp_total c.leaves pb q) ∙ chosen);
  luts = of.luts;
}
  where
    by_test : (q : ℕ) (b : Bool) → eq_by_cmp nat_cmp q pb ≡ b → (b || is_used c q) ≡ true → IsLeaf g q
    by_test q true same is = subst (λ k. IsLeaf g k) (sym (same_key nat_cmp nat_cmp-IsAntisymmetric q pb same)) there
    by_test q false other is = of.leaves q is

pub lut_kept : (g : Graph) (c : Choices) (pb : ℕ) (choice : LutChoice) → IsProgOf g c → IsLutChoice g pb choice → IsProgOf g (with_lut c pb choice)
lut_kept g c pb choice of there = record {
  modes = of.modes;
  picks = of.picks;
  leaves = of.leaves;
  luts = λ q held chosen. by_test q held (eq_by_cmp nat_cmp q pb) refl (sym (get-insert nat_cmp_total c.luts pb choice q) ∙ chosen);
}
  where
    by_test : (q : ℕ) (held : LutChoice) (b : Bool) → eq_by_cmp nat_cmp q pb ≡ b → cond b (Some choice) (lut_of c q) ≡ Some held → IsLutChoice g q held
    by_test q held true same is =
        subst (λ k. IsLutChoice g k held) (sym (same_key nat_cmp nat_cmp-IsAntisymmetric q pb same))
        (subst (λ k. IsLutChoice g pb k) (some_injective is) there)
    by_test q held false other is = of.luts q held is
