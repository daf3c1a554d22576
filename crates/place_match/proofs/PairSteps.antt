-- Pairs of a row and the sites of a kind.
use Rattle.std.proofs.Common.{◌≡◌, ◌<◌, ◌+◌, inl, inr, ℕ, List, [], ◌∷◌, ◌++◌, length, get_or, sym, ◌∙◌, ap, subst, arith}
use Rattle.std.specs.List.{Contains}
use Rattle.std.proofs.lemmas.Bool.{cases_lt, cases_eq}
use Rattle.std.proofs.lemmas.List.Elements.{Contains-append_left, Contains-push, Contains-push_cases, Contains-get_or}
use Rattle.place_match.specs.Tables.{AddsSites, ArePairs, IsFirstOfKind}

-- nothing is added in front of the first site of the kind
pub adds_none : (kinds : List ℕ) (row kind at : ℕ) (old : List (ℕ × ℕ)) → IsFirstOfKind kinds kind 0 at → AddsSites kinds row kind at old old
adds_none kinds row kind at old first = record {
  kept = λ pair there. there;
  added = λ site before is. absurd (first.none site (omega arith) before is);
  only = λ pair there. inl there;
}

-- one more site is added, and none of the kind stands between it and the next
pub adds_more : (kinds : List ℕ) (row kind site next : ℕ) (old new : List (ℕ × ℕ)) → AddsSites kinds row kind site old new → site < length kinds → get_or kinds site 0 ≡ kind →
    IsFirstOfKind kinds (get_or kinds site 0) (site + 1) next → AddsSites kinds row kind next old (new ++ (row, site) ∷ [])
adds_more kinds row kind site next old new a inside is after = record {
  kept = λ pair there. Contains-append_left new ((row, site) ∷ []) pair (a.kept pair there);
  added = λ other before of_kind. elim (cases_lt other site) [
    | inl earlier ↦ Contains-append_left new ((row, site) ∷ []) (row, other) (a.added other earlier of_kind)
    | inr not_earlier ↦ elim (cases_eq other site) [
      | inl same ↦ rw same (Contains-push {X = ℕ × ℕ} new (row, site))
      | inr later ↦ absurd (after.none other (omega arith) before (of_kind ∙ sym is))
    ]
  ];
  only = λ pair there. elim (Contains-push_cases new (row, site) pair there) [
    | inl earlier ↦ a.only pair earlier
    | inr e ↦ (
        let first : row ≡ pair.0 = ap (λ (p : ℕ × ℕ). p.0) e in
        let second : site ≡ pair.1 = ap (λ (p : ℕ × ℕ). p.1) e in
        inr (sym first, subst (λ n. n < length kinds) second inside, ap (λ n. get_or kinds n 0) (sym second) ∙ is))
  ];
}

-- the pairs of one more link
pub pairs_more : (kinds : List ℕ) (links : List (ℕ × ℕ)) (count : ℕ) (old new : List (ℕ × ℕ)) (link : ℕ × ℕ) → ArePairs kinds links count old → count < length links →
    link ≡ get_or links count (0, 0) → AddsSites kinds link.0 link.1 (length kinds) old new → ArePairs kinds links (count + 1) new
pairs_more kinds links count old new link a inside is adds = record {
  all = λ k site h site_in of_kind. elim (cases_eq k count) [
    | inl e ↦ (
        let link_is : get_or links k (0, 0) ≡ link = ap (λ n. get_or links n (0, 0)) e ∙ sym is in
        let kind_is : get_or kinds site 0 ≡ link.1 = of_kind ∙ ap (λ (p : ℕ × ℕ). p.1) link_is in
        subst (λ n. Contains {X = ℕ × ℕ} new (n, site)) (ap (λ (p : ℕ × ℕ). p.0) (sym link_is)) (adds.added site site_in kind_is))
    | inr ne ↦ adds.kept ((get_or links k (0, 0)).0, site) (a.all k site (omega arith) site_in of_kind)
  ];
  only = λ pair there. elim (adds.only pair there) [
    | inl earlier ↦ a.only pair earlier
    | inr new_one ↦ (
        let link_there : Contains links link = subst (Contains links) (sym is) (Contains-get_or links count (0, 0) inside) in
        let pair_is : link ≡ (pair.0, get_or kinds pair.1 0) = ap (λ (m : ℕ). (m, link.1)) (sym new_one.0) ∙ ap (λ (n : ℕ). (pair.0, n)) (sym new_one.2) in
        (new_one.1, subst (Contains links) pair_is link_there))
  ];
}
