-- What the look-ups give after a site was set.
use Rattle.std.proofs.Common.{◌≡◌, ◌||◌, ℕ, Bool, true, false, cond, Some, refl, ap, ◌∙◌}
use Rattle.std.specs.declared.cmp.Ordering.{Ordering}
use Rattle.std.specs.Ordering.{nat_cmp, eq_by_cmp}
use Rattle.std.specs.Cmp.{IsTotalOrder, eq_by_cmp_equiv, nat_cmp_total}
use Rattle.std.specs.FinMap as map
use Rattle.std.specs.FinMap.{get-insert, IsAntisymmetric, nat_cmp-IsAntisymmetric}
use Rattle.std.specs.FinSet as set
use Rattle.std.specs.FinSet.{contains-insert}
use Rattle.prog_map.specs.declared.choice.LutChoice.{LutChoice}
use Rattle.prog_map.specs.Choices.{Choices, with_mode, with_pick, with_used, with_lut}
use Rattle.prog_map.specs.Settings.{SetsMode, SetsPick, SetsUsed, SetsLut}
use Rattle.prog_map.proofs.Kept.{same_key}
use Rattle.prog_map.proofs.Maps.{sites_total, sites_apart}

module _ {K X : Type 0} {R : K → K → Ordering} (o : IsTotalOrder R) (apart : IsAntisymmetric R) (m : map.FinMap R X) (k : K) (v : X) where
  get_here : map.get (map.insert m k v) k ≡ Some v
  get_here = get-insert o m k v k ∙ ap (λ b. cond b (Some v) (map.get m k)) ((eq_by_cmp_equiv o).refl k)

  get_other : (q : K) → (q ≡ k → ⊥) → map.get (map.insert m k v) q ≡ map.get m q
  get_other q other = by (eq_by_cmp R q k) refl
    where
      by : (b : Bool) → eq_by_cmp R q k ≡ b → map.get (map.insert m k v) q ≡ map.get m q
      by true same = absurd (other (same_key R apart q k same))
      by false differs = get-insert o m k v q ∙ ap (λ b. cond b (Some v) (map.get m q)) differs

used_here : (m : set.FinSet nat_cmp) (k : ℕ) → set.contains (set.insert m k) k ≡ true
used_here m k = contains-insert nat_cmp_total m k k ∙ ap (λ b. b || set.contains m k) ((eq_by_cmp_equiv nat_cmp_total).refl k)

used_other : (m : set.FinSet nat_cmp) (k q : ℕ) → (q ≡ k → ⊥) → set.contains (set.insert m k) q ≡ set.contains m q
used_other m k q other = by (eq_by_cmp nat_cmp q k) refl
  where
    by : (b : Bool) → eq_by_cmp nat_cmp q k ≡ b → set.contains (set.insert m k) q ≡ set.contains m q
    by true same = absurd (other (same_key nat_cmp nat_cmp-IsAntisymmetric q k same))
    by false apart = contains-insert nat_cmp_total m k q ∙ ap (λ b. b || set.contains m q) apart

pub sets_mode : (c : Choices) (pb mode : ℕ) → SetsMode c (with_mode c pb mode) pb mode
sets_mode c pb mode = record {
  here = get_here nat_cmp_total nat_cmp-IsAntisymmetric c.modes pb mode;
  modes = λ q other. get_other nat_cmp_total nat_cmp-IsAntisymmetric c.modes pb mode q other;
  picks = λ p m. refl;
  uses = λ q. refl;
  luts = λ q. refl;
}

pub sets_pick : (c : Choices) (pin mode edge : ℕ) → SetsPick c (with_pick c pin mode edge) pin mode edge
sets_pick c pin mode edge = record {
  here = get_here sites_total sites_apart c.picks (pin, mode) edge;
  picks = λ p m other. get_other sites_total sites_apart c.picks (pin, mode) edge (p, m) (λ same. other (ap (λ (x : ℕ × ℕ). x.0) same, ap (λ (x : ℕ × ℕ). x.1) same));
  modes = λ q. refl;
  uses = λ q. refl;
  luts = λ q. refl;
}

pub sets_used : (c : Choices) (pb : ℕ) → SetsUsed c (with_used c pb) pb
sets_used c pb = record {
  here = used_here c.leaves pb;
  uses = λ q other. used_other c.leaves pb q other;
  modes = λ q. refl;
  picks = λ p m. refl;
  luts = λ q. refl;
}

pub sets_lut : (c : Choices) (pb : ℕ) (choice : LutChoice) → SetsLut c (with_lut c pb choice) pb choice
sets_lut c pb choice = record {
  here = get_here nat_cmp_total nat_cmp-IsAntisymmetric c.luts pb choice;
  luts = λ q other. get_other nat_cmp_total nat_cmp-IsAntisymmetric c.luts pb choice q other;
  modes = λ q. refl;
  picks = λ p m. refl;
  uses = λ q. refl;
}
