-- Walks along edges.
use Rattle.std.proofs.Common.{ℕ, zero, suc, refl, subst, sym}
use Rattle.least_cycle.specs.Walks.{Leads, Reaches}

module _ (E : ℕ → ℕ → Type 0) where
  pub reach_itself : (x : ℕ) → Reaches E x x
  reach_itself x = (0, refl)

  pub leads_on : (n : ℕ) (x y z : ℕ) → Leads E n x y → Reaches E y z → Reaches E x z
  leads_on zero x y z is more = subst (λ (w : ℕ). Reaches E w z) (sym is) more
  leads_on (suc n) x y z step more =
      let rest = leads_on n step.0 y z step.2 more in
      (suc rest.0, (step.0, step.1, rest.1))

  pub reach_on : (x y z : ℕ) → Reaches E x y → Reaches E y z → Reaches E x z
  reach_on x y z front back = leads_on front.0 x y z front.1 back

  pub reach_edge : (x y : ℕ) → E x y → Reaches E x y
  reach_edge x y edge = (1, (y, edge, refl))
