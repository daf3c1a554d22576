-- Atoms that are listed one after the other, and leaves that are counted.
use Rattle.std.proofs.Common.{◌≡◌, ◌<◌, ◌+◌, inl, inr, ℕ, zero, suc, List, [], ◌∷◌, ◌++◌, Some, length, take, slice_get, sym, ap, ◌∙◌, subst, arith}
use Rattle.std.proofs.lemmas.Option.{slice_get_within}
use Rattle.vtr_base.specs.Lists.{Has}
use Rattle.list_laws.specs.Orders.{Once}
use Rattle.list_laws.proofs.Members.{has_at, at_has}
use Rattle.list_laws.proofs.Onces.{once_at}
use Rattle.list_laws.proofs.Counting.{no_longer}
use Rattle.pb_expand.specs.Graph.{Graph}
use Rattle.task_types.specs.declared.task.Task.{Task}
use Rattle.task_types.specs.declared.decision.Decision.{Decision}
use Rattle.task_types.specs.Open.{IsOpenTo}
use Rattle.task_types.specs.Nodes.{IsHomeless}
use Rattle.sparse_set.specs.Sets.{Held, held_on, Joins}
use Rattle.task_reach.specs.Gains.{Gains, FromFirst, FromItem}

-- one more is listed
pub listed_more : (xs : List ℕ) (n room x : ℕ) (old new : Held) → old ≡ held_on (take n xs) room → take (n + 1) xs ≡ take n xs ++ x ∷ [] → Joins old new x → new ≡ held_on (take (n + 1) xs) room
listed_more xs n room x old new is next joins =
    joins.is ∙ ap (λ (h : Held). held_on (h.items ++ x ∷ []) h.room) is ∙ ap (λ l. held_on l room) (sym next)

once_first : (xs : List ℕ) (n x : ℕ) → Once xs → slice_get xs n ≡ Some x → Has (take n xs) x → ⊥
once_first [] zero x once at has = has
once_first [] (suc n) x once at has = has
once_first (y ∷ xs) zero x once at has = has
once_first (y ∷ xs) (suc n) x once at (inl is) = once.0 (subst (λ z. Has xs z) is (has_at xs n x at))
once_first (y ∷ xs) (suc n) x once at (inr has) = once_first xs n x once.1 at has

-- one that is listed already stands twice
pub stands_twice : (xs : List ℕ) (n room x : ℕ) (old : Held) → old ≡ held_on (take n xs) room → slice_get xs n ≡ Some x → Has old.items x → Once xs → ⊥
stands_twice xs n room x old is at has once = once_first xs n x once at (subst (λ (h : Held). Has h.items x) is has)

module _ (g : Graph) (t : Task) (made : List Decision) (atoms leaves : List ℕ) (gains : Gains [] leaves (FromFirst (FromItem atoms (IsOpenTo g t made)) (length atoms))) where
  pub homeless_to : ((atom : ℕ) → Has atoms atom → atom < length t.atoms) → Once atoms → length leaves < length atoms → IsHomeless g t made atoms
  homeless_to inside once fewer = record {
    atoms_of = inside;
    once = once_at atoms once;
    leaves = leaves;
    all = λ atom leaf has opens.
        let k = at_has atoms atom has in
        gains.all leaf (record { place = k.0; before = slice_get_within atoms k.0 atom k.1; from = record { item = atom; is = k.1; from = opens } });
    fewer = fewer;
  }

  pub homeless_from : Once leaves → IsHomeless g t made atoms → length leaves < length atoms
  homeless_from once homeless =
      let few = no_longer leaves homeless.leaves once (λ leaf has.
      let from = gains.each leaf (subst (λ xs. Has xs leaf) gains.is has) in
      homeless.all from.from.item leaf (has_at atoms from.place from.from.item from.from.is) from.from.from) in
      omega (arith, few, homeless.fewer)
