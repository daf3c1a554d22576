-- Nodes beside the map of their places.
use Rattle.std.proofs.Common.{◌≡◌, ◌≤◌, ◌<◌, ◌+◌, ◌^◌, ◌⊎◌, ℕ, zero, suc, Bool, true, false, cond, nat_eq, List, [], ◌∷◌, ◌++◌, Option, Some, None, is_some, MatchBool, map, length, refl, sym, ap, ◌∙◌, subst, inl, inr, arith}
use Rattle.std.proofs.lemmas.Bool.Decides.{nat_tests}
use Rattle.std.specs.Map.{keys_of, lookup}
use Rattle.vtr_base.specs.Lists.{Has, up_from}
use Rattle.list_laws.specs.Orders.{Once}
use Rattle.list_laws.proofs.Counting.{no_longer}
use Rattle.list_laws.proofs.Members.{has_up, has_pushed, has_map}
use Rattle.rr_items.specs.declared.carriers.CarriedNode.{CarriedNode}
use Rattle.rr_nodes.specs.declared.placed.NodeAt.{NodeAt}
use Rattle.rr_nodes.specs.Gathering.{side_by_side}
use Rattle.rr_nodes.specs.Placing.{ids_of, HasNode, StandsAt}

abbrev pub ids : List CarriedNode → List ℕ
ids cs = map (λ c. c.id) cs

pub ids_kept : (cs : List CarriedNode) (es : List (ℕ × NodeAt)) → ids cs ≡ keys_of es → ids_of (side_by_side cs es) ≡ keys_of es
ids_kept [] es same = same
ids_kept (c ∷ cs) [] same = refl
ids_kept (c ∷ cs) (e ∷ es) same =
    let head : c.id ≡ e.0 = cc in
    let tail : ids cs ≡ keys_of es = cc in
    let rest = ids_kept cs es tail in cc

pub carried_kept : (cs : List CarriedNode) (es : List (ℕ × NodeAt)) → ids cs ≡ keys_of es → map (λ n. n.carried) (side_by_side cs es) ≡ cs
carried_kept [] es same = refl
carried_kept (c ∷ cs) [] same = absurd (cc)
carried_kept (c ∷ cs) (e ∷ es) same =
    let tail : ids cs ≡ keys_of es = cc in
    ap (λ l. c ∷ l) (carried_kept cs es tail)

pub length_kept : (cs : List CarriedNode) (es : List (ℕ × NodeAt)) → ids cs ≡ keys_of es → length (side_by_side cs es) ≡ length cs
length_kept [] es same = refl
length_kept (c ∷ cs) [] same = absurd (cc)
length_kept (c ∷ cs) (e ∷ es) same =
    let tail : ids cs ≡ keys_of es = cc in
    ap suc (length_kept cs es tail)

pub pushed_kept : (cs : List CarriedNode) (es : List (ℕ × NodeAt)) (c : CarriedNode) (k : ℕ) (at : NodeAt) → ids cs ≡ keys_of es →
    side_by_side (cs ++ c ∷ []) (es ++ (k, at) ∷ []) ≡ side_by_side cs es ++ record { carried = c; at = at } ∷ []
pushed_kept [] [] c k at same = refl
pushed_kept [] (e ∷ es) c k at same = absurd (cc)
pushed_kept (d ∷ cs) [] c k at same = absurd (cc)
pushed_kept (d ∷ cs) (e ∷ es) c k at same =
    let tail : ids cs ≡ keys_of es = cc in
    ap (λ l. record { carried = d; at = e.1 } ∷ l) (pushed_kept cs es c k at tail)

length_up : (n k : ℕ) → length (up_from n k) ≡ k
length_up n zero = refl
length_up n (suc k) = ap suc (length_up (n + 1) k)

pub few_ids : (limit : ℕ) (ks : List ℕ) → Once ks → ((id : ℕ) → Has ks id → id < limit) → length ks ≤ limit
few_ids limit ks once small =
    omega (
      arith,
      length_up 0 limit,
      no_longer ks (up_from 0 limit) once (λ id has. (let low = small id has in has_up 0 limit id (omega arith) (omega (arith, low)))),
    )

-- a look-up by id

nat_same : (m n : ℕ) → nat_eq m n ≡ true → m ≡ n
nat_same m n e = grind (arith, nat_tests)

nat_itself : (m n : ℕ) → m ≡ n → nat_eq m n ≡ true
nat_itself m n e = grind (arith, nat_tests)

pub lost_id : (es : List (ℕ × NodeAt)) (id : ℕ) → lookup (nat_eq id) es ≡ None → Has (keys_of es) id → ⊥
lost_id [] id none has = has
lost_id (e ∷ es) id none has = by (nat_eq id e.0) refl has (lost_id es id)
  where
    by : (b : Bool) → nat_eq id e.0 ≡ b → (id ≡ e.0) ⊎ Has (keys_of es) id →
        (lookup (nat_eq id) es ≡ None → Has (keys_of es) id → ⊥) → ⊥
    by true t has rest = (let one : Some e.1 ≡ None = sym (ap (λ b. cond b (Some e.1) (lookup (nat_eq id) es)) t) ∙ none in cc)
    by false f (inl is) rest = (let t = nat_itself id e.0 is in cc)
    by false f (inr later) rest = rest (sym (ap (λ b. cond b (Some e.1) (lookup (nat_eq id) es)) f) ∙ none) later

pub found_id : (cs : List CarriedNode) (es : List (ℕ × NodeAt)) → ids cs ≡ keys_of es → (id : ℕ) (at : NodeAt) → lookup (nat_eq id) es ≡ Some at →
    StandsAt (side_by_side cs es) id at
found_id cs [] same id at found = absurd (cc)
found_id [] (e ∷ es) same id at found = absurd (cc)
found_id (c ∷ cs) (e ∷ es) same id at found = by (nat_eq id e.0) refl (λ tail more. found_id cs es tail id at more)
  where
    by : (b : Bool) → nat_eq id e.0 ≡ b →
        (ids cs ≡ keys_of es → lookup (nat_eq id) es ≡ Some at → StandsAt (side_by_side cs es) id at) →
        StandsAt (side_by_side (c ∷ cs) (e ∷ es)) id at
    by true t more =
        let head : c.id ≡ e.0 = cc in
        let one : Some e.1 ≡ Some at = sym (ap (λ b. cond b (Some e.1) (lookup (nat_eq id) es)) t) ∙ found in
        let key = nat_same id e.0 t in
        record { node = record { carried = c; at = e.1 }; has = inl refl; named = head ∙ sym key; placed = cc }
    by false f more =
        let tail : ids cs ≡ keys_of es = cc in
        let rest = more tail (sym (ap (λ b. cond b (Some e.1) (lookup (nat_eq id) es)) f) ∙ found) in
        record { node = rest.node; has = inr rest.has; named = rest.named; placed = rest.placed }

-- a new key

pub new_id : (es : List (ℕ × NodeAt)) (id : ℕ) → (Has (keys_of es) id → ⊥) → lookup (nat_eq id) es ≡ None
new_id [] id fresh = refl
new_id (e ∷ es) id fresh = by (nat_eq id e.0) refl (new_id es id (λ later. fresh (inr later)))
  where
    by : (b : Bool) → nat_eq id e.0 ≡ b → lookup (nat_eq id) es ≡ None → lookup (nat_eq id) (e ∷ es) ≡ None
    by true t rest = absurd (fresh (inl (nat_same id e.0 t)))
    by false f rest = ap (λ b. cond b (Some e.1) (lookup (nat_eq id) es)) f ∙ rest

pub small_more : (ks : List ℕ) (id : ℕ) → ((k : ℕ) → Has ks k → k < 2 ^ 31) → id < 2 ^ 31 → (k : ℕ) → Has (ks ++ id ∷ []) k → k < 2 ^ 31
small_more ks id small low k has =
    elim (has_pushed ks id k has) [ inl before ↦ small k before | inr is ↦ omega (arith, is, low) ]

-- whether an id is there

pub told_there : (cs : List CarriedNode) (es : List (ℕ × NodeAt)) → ids cs ≡ keys_of es → (id : ℕ) (there : Bool) → there ≡ is_some (lookup (nat_eq id) es) →
    MatchBool there (HasNode (side_by_side cs es) id) (HasNode (side_by_side cs es) id → ⊥)
told_there cs es same id there is = by (lookup (nat_eq id) es) refl there is
  where
    by : (o : Option NodeAt) → lookup (nat_eq id) es ≡ o → (b : Bool) → b ≡ is_some o →
        MatchBool b (HasNode (side_by_side cs es) id) (HasNode (side_by_side cs es) id → ⊥)
    by None none b e = rw e (λ has. lost_id es id none (subst (λ l. Has l id) (ids_kept cs es same) has))
    by (Some at) found b e =
        let stands = found_id cs es same id at found in
        rw e (subst (Has (ids_of (side_by_side cs es))) stands.named (has_map (λ node. node.carried.id) (side_by_side cs es) stands.node stands.has))
