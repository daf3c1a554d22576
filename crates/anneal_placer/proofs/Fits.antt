-- Whether a block fits a site, by the pairs of kinds.
use Rattle.std.proofs.Common.{◌≡◌, ◌⊎◌, ◌<◌, ◌≤◌, ◌+◌, ◌∙◌, ◌&&◌, ◌||◌, ◌↔◌, ◌++◌, ◌∷◌, [], ℕ, Bool, true, false, List, length, take, get_or, eqb, ap, sym, subst, arith, inl, inr, refl, IsTrue}
use Rattle.std.specs.Bool.{Decides}
use Rattle.std.specs.Cmp.{IsEquivalence}
use Rattle.std.specs.List.{Contains, list_any}
use Rattle.indexmap.specs.IndexSet.{insert_key}
use Rattle.indexmap.proofs.CallerLemmas.{Contains-list_any}
use Rattle.std.proofs.lemmas.Bool.{cases_Bool}
use Rattle.std.proofs.lemmas.List.{get_or_default, get_or-map, length-map, take_all}
use Rattle.std.proofs.lemmas.List.Folds.{list_any-append}
use Rattle.std.proofs.lemmas.Map.Views.{list_any-from_Contains}
use Rattle.anneal_placer.specs.declared.task.AnnealTask.{AnnealTask}
use Rattle.anneal_placer.specs.declared.task.SiteAt.{SiteAt}
use Rattle.anneal_placer.specs.Board.{HaveSamePairs}
use Rattle.anneal_placer.specs.Task.{FitsAt, kinds_of}

abbrev pub same_pair : ℕ × ℕ → ℕ × ℕ → Bool
same_pair a b = eqb a.0 b.0 && eqb a.1 b.1

pair_decides : (a b : ℕ × ℕ) → Decides (same_pair a b) (a ≡ b)
pair_decides (a, b) (x, y) = grind arith

pair_is : (a b : ℕ × ℕ) → same_pair a b ≡ true → a ≡ b
pair_is a b same = (pair_decides a b).0 same

itself : (a : ℕ × ℕ) → same_pair a a ≡ true
itself a = (pair_decides a a).1 refl

pair_equiv : IsEquivalence same_pair
pair_equiv = record { refl = itself; symm = symm; congr = λ x y z same. ap (λ p. same_pair p z) (pair_is x y same) }
  where
    symm : (a b : ℕ × ℕ) → same_pair a b ≡ same_pair b a
    symm a b =
        elim (cases_Bool (same_pair a b)) [
          | inl yes' ↦ yes' ∙ sym (subst (λ p. same_pair p a ≡ true) (pair_is a b yes') (itself a))
          | inr no' ↦ elim (cases_Bool (same_pair b a)) [
            | inl back ↦ let also : same_pair a b ≡ true = subst (λ p. same_pair p b ≡ true) (pair_is b a back) (itself b) in absurd (cc (no', also))
            | inr also ↦ no' ∙ sym also
          ]
        ]

or_false : (b : Bool) → b ≡ (b || false)
or_false true = refl
or_false false = refl

last_alone : (pair x : ℕ × ℕ) (b : Bool) → same_pair pair x ≡ b → list_any (same_pair pair) (x ∷ []) ≡ b
last_alone pair x true is = rw is refl
last_alone pair x false is = rw is refl

inserted : (keys : List (ℕ × ℕ)) (pair x : ℕ × ℕ) → ((list_any (same_pair x) keys ≡ true) ⊎ (list_any (same_pair x) keys ≡ false)) →
    ((same_pair pair x ≡ true) ⊎ (same_pair pair x ≡ false)) →
    list_any (same_pair pair) (insert_key same_pair keys x) ≡ (list_any (same_pair pair) keys || list_any (same_pair pair) (x ∷ []))
inserted keys pair x (inr fresh) _ = rw fresh (list_any-append (same_pair pair) keys (x ∷ []))
inserted keys pair x (inl there) (inl same) =
    let known : list_any (same_pair pair) keys ≡ true = subst (λ p. list_any (same_pair p) keys ≡ true) (sym (pair_is pair x same)) there in
    rw there (known ∙ sym (ap (λ b. b || list_any (same_pair pair) (x ∷ [])) known))
inserted keys pair x (inl there) (inr other) =
    rw there (or_false (list_any (same_pair pair) keys) ∙ sym (ap (λ b. list_any (same_pair pair) keys || b) (last_alone pair x false other)))

-- one more pair
pub pairs_more : (fits keys new : List (ℕ × ℕ)) (count : ℕ) (x : ℕ × ℕ) → take (count + 1) fits ≡ take count fits ++ x ∷ [] →
    ((pair : ℕ × ℕ) → list_any (same_pair pair) keys ≡ list_any (same_pair pair) (take count fits)) →
    new ≡ insert_key same_pair keys x → (pair : ℕ × ℕ) → list_any (same_pair pair) new ≡ list_any (same_pair pair) (take (count + 1) fits)
pairs_more fits keys new count x further so_far is pair =
    ap (list_any (same_pair pair)) is ∙ inserted keys pair x (cases_Bool (list_any (same_pair x) keys)) (cases_Bool (same_pair pair x)) ∙
    ap (λ b. b || list_any (same_pair pair) (x ∷ [])) (so_far pair) ∙ sym (list_any-append (same_pair pair) (take count fits) (x ∷ [])) ∙ sym (ap (list_any (same_pair pair)) further)

-- all pairs
pub same_pairs : (fits keys : List (ℕ × ℕ)) (count : ℕ) → length fits ≤ count → ((pair : ℕ × ℕ) → list_any (same_pair pair) keys ≡ list_any (same_pair pair) (take count fits)) → HaveSamePairs fits keys
same_pairs fits keys count all same = λ pair.
    let whole = subst (λ l. list_any (same_pair pair) keys ≡ list_any (same_pair pair) l) (take_all count fits all) (same pair) in (
      λ there. Contains-list_any same_pair pair_is fits pair (sym whole ∙ list_any-from_Contains pair_equiv pair keys there),
      λ there. Contains-list_any same_pair pair_is keys pair (whole ∙ list_any-from_Contains pair_equiv pair fits there),
    )

same_parts : (a b x y : ℕ) → a ≡ b → x ≡ y → (let p : ℕ × ℕ = (a, x) in p) ≡ (b, y)
same_parts a b x y first second = cc

pub fit_decides : (task : AnnealTask) (block site kind : ℕ) (at : SiteAt) (keys : List (ℕ × ℕ)) (found : Bool) → block < length task.blocks.items → site < length task.sites.items →
    kind ≡ get_or task.blocks.items block kind → at ≡ get_or task.sites.items site at → HaveSamePairs task.fits.items keys → found ≡ list_any (same_pair (kind, at.kind)) keys →
    IsTrue found ↔ FitsAt task block site
fit_decides task block site kind at keys found block_in site_in kind_is at_is pairs found_is =
    let inside : site < length (kinds_of task.sites.items) = omega (arith, site_in, length-map task.sites.items (λ (s : SiteAt). s.kind)) in
    let block_kind : kind ≡ get_or task.blocks.items block 0 = kind_is ∙ get_or_default task.blocks.items block kind 0 block_in in
    let site_kind : at.kind ≡ get_or (kinds_of task.sites.items) site 0 = ap (λ (s : SiteAt). s.kind) at_is ∙ sym (get_or-map (λ (s : SiteAt). s.kind) task.sites.items site at 0 site_in) in
    let pair = same_parts kind (get_or task.blocks.items block 0) at.kind (get_or (kinds_of task.sites.items) site 0) block_kind site_kind in (
      λ yes'. (block_in, inside, subst (λ p. Contains {X = ℕ × ℕ} task.fits.items p) pair ((pairs (kind, at.kind)).0 (Contains-list_any same_pair pair_is keys (kind, at.kind) (sym found_is ∙ yes')))),
      λ fit. found_is ∙ list_any-from_Contains pair_equiv (kind, at.kind) keys ((pairs (kind, at.kind)).1 (subst (λ p. Contains {X = ℕ × ℕ} task.fits.items p) (sym pair) fit.2)),
    )
