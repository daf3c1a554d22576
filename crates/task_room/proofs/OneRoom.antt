-- Two lists of the variables have one product.
use Rattle.std.proofs.Common.{◌≡◌, ◌*◌, ◌⊎◌, inl, inr, ℕ, suc, List, [], ◌∷◌, length, refl, sym, ap, ◌∙◌, subst, arith}
use Rattle.vtr_base.specs.Lists.{Has}
use Rattle.list_laws.specs.Orders.{Once, HaveSame}
use Rattle.pb_expand.specs.Graph.{Graph}
use Rattle.task_types.specs.declared.task.Task.{Task}
use Rattle.task_types.specs.declared.tree.Var.{Var}
use Rattle.task_room.specs.Room.{choices_of, product_of, IsRoom}

swapped : (a b c : ℕ) → a * (b * c) ≡ b * (a * c)
swapped a b c = grind arith

-- a list without one of its variables
record Without (g : Graph) (t : Task) (vars : List Var) (v : Var) : Type 0 where
  pub rest : List Var
  pub long : length vars ≡ suc (length rest)
  pub product : product_of g t vars ≡ choices_of g t v * product_of g t rest
  pub covers : (w : Var) → Has vars w → (w ≡ v) ⊎ Has rest w
  pub within : (w : Var) → Has rest w → Has vars w
  pub once : Once rest
  pub apart : Has rest v → ⊥

without : (g : Graph) (t : Task) (vars : List Var) (v : Var) → Has vars v → Once vars → Without g t vars v
without g t [] v has once = absurd has
without g t (w ∷ vars) v (inl is) once = record {
  rest = vars;
  long = refl;
  product = ap (λ x. choices_of g t x * product_of g t vars) (sym is);
  covers = λ x has. elim has [ inl same ↦ inl (same ∙ sym is) | inr later ↦ inr later ];
  within = λ x has. inr has;
  once = once.1;
  apart = λ has. once.0 (subst (Has vars) is has);
}
without g t (w ∷ vars) v (inr has) once =
    let r = without g t vars v has once.1 in
    record {
      rest = w ∷ r.rest;
      long = ap suc r.long;
      product = ap (λ p. choices_of g t w * p) r.product ∙ swapped (choices_of g t w) (choices_of g t v) (product_of g t r.rest);
      covers = λ x there. elim there [ inl same ↦ inr (inl same) | inr later ↦ elim (r.covers x later) [ inl is ↦ inl is | inr left ↦ inr (inr left) ] ];
      within = λ x there. elim there [ inl same ↦ inl same | inr later ↦ inr (r.within x later) ];
      once = (λ there. once.0 (r.within w there), r.once);
      apart = λ there. elim there [ inl same ↦ once.0 (subst (Has vars) same has) | inr later ↦ r.apart later ];
    }

same_product : (g : Graph) (t : Task) (xs ys : List Var) → Once xs → Once ys → HaveSame xs ys → (length xs ≡ length ys) × (product_of g t xs ≡ product_of g t ys)
same_product g t [] [] once_x once_y same = (refl, refl)
same_product g t [] (y ∷ ys) once_x once_y same = absurd (same.back y (inl refl))
same_product g t (x ∷ xs) ys once_x once_y same =
    let r = without g t ys x (same.forth x (inl refl)) once_y in
    let rest = same_product g t xs r.rest once_x.1 r.once (record {
      forth = λ z has. elim (r.covers z (same.forth z (inr has))) [ inl is ↦ absurd (once_x.0 (subst (Has xs) is has)) | inr left ↦ left ];
      back = λ z has. elim (same.back z (r.within z has)) [ inl is ↦ absurd (r.apart (subst (Has r.rest) is has)) | inr later ↦ later ];
    }) in
    (ap suc rest.0 ∙ sym r.long, ap (λ p. choices_of g t x * p) rest.1 ∙ sym r.product)

pub rooms_agree : (g : Graph) (t : Task) (a b : ℕ) → IsRoom g t a → IsRoom g t b → a ≡ b
rooms_agree g t a b x y =
    let same = same_product g t x.vars y.vars x.are.once y.are.once (record {
      forth = λ v has. (y.are.exact v).1 ((x.are.exact v).0 has);
      back = λ v has. (x.are.exact v).1 ((y.are.exact v).0 has);
    }) in
    x.is ∙ ap (λ n. n * product_of g t x.vars) same.0 ∙ ap (λ p. length y.vars * p) same.1 ∙ sym y.is
