-- Names that are put into a set.
use Rattle.std.proofs.Common.{◌≡◌, ◌↔◌, ◌⊎◌, ℕ, Bool, true, false, cond, List, [], refl, sym, ◌∙◌, ap, inl, inr, Bor, Ordering}
use Rattle.std.specs.Prelude.{not}
use Rattle.std.specs.BTreeMap.{is_at}
use Rattle.std.specs.BTreeSet.{BTreeSet, contains, Updates}
use Rattle.std.specs.Cmp.Lexicographic.{slice_cmp}
use Rattle.std.specs.Ordering.{nat_cmp}
use Rattle.std.proofs.lemmas.Map.Text.{is_eq-slice_cmp}
use Rattle.std.proofs.lemmas.Slice.Eq.{bytes_eq-Decides}
use Rattle.arch_rules.specs.Taken.{HoldsName}

-- the order of a set of texts
abbrev pub by_text : Bor (List ℕ) → Bor (List ℕ) → Ordering
by_text x y = slice_cmp nat_cmp x.now y.now

same_text : (x y : Bor (List ℕ)) → x.now ≡ y.now → is_at (by_text x) y ≡ true
same_text x y same = is_eq-slice_cmp x.now y.now ∙ (bytes_eq-Decides x.now y.now).1 same

text_same : (x y : Bor (List ℕ)) → is_at (by_text x) y ≡ true → x.now ≡ y.now
text_same x y at = (bytes_eq-Decides x.now y.now).0 (sym (is_eq-slice_cmp x.now y.now) ∙ at)

is_or_not : (b : Bool) → (b ≡ true) ⊎ (b ≡ false)
is_or_not true = inl refl
is_or_not false = inr refl

pub empty_lacks : (seen : BTreeSet (Bor (List ℕ))) (name : List ℕ) → seen.keys ≡ [] → HoldsName seen name → ⊥
empty_lacks seen name none has = let e : HoldsName seen name ≡ (false ≡ true) = rw none refl in absurd (cc)

pub not_fresh : (b c : Bool) → b ≡ not c → b ≡ true → c ≡ true → ⊥
not_fresh b c is fresh has = cc

pub stale : (b c : Bool) → b ≡ not c → b ≡ false → c ≡ true
stale b true is old = refl
stale b false is old = absurd (cc)

module _ (seen after : BTreeSet (Bor (List ℕ))) (key : Bor (List ℕ)) (updates : Updates by_text seen after key true) where
  met_by : (q : Bor (List ℕ)) → HoldsName after q.now → HoldsName seen q.now ⊎ (q.now ≡ key.now)
  met_by q has = elim (is_or_not (is_at (by_text key) q)) [
    | inl at_key ↦ inr (sym (text_same key q at_key))
    | inr beside ↦ inl (sym (updates.2 q beside) ∙ has)
  ]

  stays : (q : Bor (List ℕ)) → HoldsName seen q.now → HoldsName after q.now
  stays q has = elim (is_or_not (is_at (by_text key) q)) [
    | inl at_key ↦ updates.0 q ∙ ap (λ b. cond b true (contains by_text seen q)) at_key
    | inr beside ↦ updates.2 q beside ∙ has
  ]

  comes : (q : Bor (List ℕ)) → q.now ≡ key.now → HoldsName after q.now
  comes q same = updates.0 q ∙ ap (λ b. cond b true (contains by_text seen q)) (same_text key q (sym same))

  pub met : (n : List ℕ) → HoldsName after n ↔ (HoldsName seen n ⊎ (n ≡ key.now))
  met n = (met_by (record key { now = n }), λ either. elim either [ inl has ↦ stays (record key { now = n }) has | inr same ↦ comes (record key { now = n }) same ])
