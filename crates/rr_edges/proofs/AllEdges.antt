-- A file's edges, one after the other.
use Rattle.std.proofs.Common.{◌≡◌, ◌<◌, ◌≤◌, ◌⊎◌, ℕ, zero, suc, List, [], ◌∷◌, ◌++◌, Option, Some, None, take, slice_get, refl, sym, ap, ◌∙◌, subst, inl, inr, arith}
use Rattle.std.specs.Option.{option_to_list}
use Rattle.std.proofs.lemmas.Bool.{cases_lt}
use Rattle.elem_text.specs.declared.elem.Elem.{Elem}
use Rattle.rr_edges.specs.declared.error.EdgeError.{EdgeError}
use Rattle.rr_edges.specs.declared.kept.FileEdge.{FileEdge}
use Rattle.rr_edges.specs.EdgeItems.{Says, Fails}
use Rattle.rr_edges.specs.FileEdges.{SaysEdges, none, over, kept, Refuses}
use Rattle.rr_edges.specs.Known.{Known}
use Rattle.rr_edges.proofs.EachEdge.{OneEnds, one_said, says_or_fails, one_failure}

-- one element more

pub more_said : (known : Known) (es : List Elem) (edges : List FileEdge) (e : Elem) (said : Option FileEdge) →
    SaysEdges known es edges → Says known e said → SaysEdges known (es ++ e ∷ []) (edges ++ option_to_list said)
more_said known _ _ e (Some edge) none says = kept e [] edge [] says none
more_said known _ _ e None none says = over e [] [] says none
more_said known _ _ e said (over d es edges first rest) says =
    over d (es ++ e ∷ []) (edges ++ option_to_list said) first (more_said known es edges e said rest says)
more_said known _ _ e said (kept d es edge edges first rest) says =
    kept d (es ++ e ∷ []) edge (edges ++ option_to_list said) first (more_said known es edges e said rest says)

-- each element says an edge
pub said_at : (known : Known) (es : List Elem) (edges : List FileEdge) → SaysEdges known es edges → (k : ℕ) (e : Elem) → slice_get es k ≡ Some e →
    (said : Option FileEdge) × Says known e said
said_at known _ _ none k e at = absurd (cc)
said_at known _ _ (over d es edges first rest) zero e at = let is : d ≡ e = cc in (None, subst (λ x. Says known x None) is first)
said_at known _ _ (kept d es edge edges first rest) zero e at = let is : d ≡ e = cc in (Some edge, subst (λ x. Says known x (Some edge)) is first)
said_at known _ _ (over d es edges first rest) (suc k) e at = said_at known es edges rest k e at
said_at known _ _ (kept d es edge edges first rest) (suc k) e at = said_at known es edges rest k e at

-- elements say one list of edges
pub one_list : OneEnds → (known : Known) (es : List Elem) (p q : List FileEdge) → SaysEdges known es p → SaysEdges known es q → p ≡ q
one_list one known _ _ _ none none = refl
one_list one known _ _ _ (over d es p first rest) (over _ _ q other left) = one_list one known es p q rest left
one_list one known _ _ _ (over d es p first rest) (kept _ _ y q other left) =
    let no : None ≡ Some y = one_said one known d None (Some y) first other in absurd (cc)
one_list one known _ _ _ (kept d es x p first rest) (over _ _ q other left) =
    let no : Some x ≡ None = one_said one known d (Some x) None first other in absurd (cc)
one_list one known _ _ _ (kept d es x p first rest) (kept _ _ y q other left) =
    let head : Some x ≡ Some y = one_said one known d (Some x) (Some y) first other in
    let tail : p ≡ q = one_list one known es p q rest left in
    cc

-- what stands in a front of the list
in_front : {X : Type 0} (xs : List X) (n k : ℕ) (x : X) → k < n → slice_get xs k ≡ Some x → slice_get (take n xs) k ≡ Some x
in_front [] n k x low at = absurd (cc)
in_front (y ∷ xs) zero k x low at = absurd (omega arith)
in_front (y ∷ xs) (suc n) zero x low at = at
in_front (y ∷ xs) (suc n) (suc k) x low at = in_front xs n k x (omega arith) at

-- one that fails stands behind all that say edges
not_before : OneEnds → (known : Known) (es : List Elem) (p q : EdgeError) (f : Refuses known es p) (g : Refuses known es q) → f.index < g.index → ⊥
not_before one known es p q f g low =
    let said = said_at known (take g.index es) g.before g.said f.index f.edge (in_front es g.index f.index f.edge low f.at) in
    says_or_fails one known f.index f.edge p said.0 said.1 f.fails

-- elements are refused in one way
pub one_refusal : OneEnds → (known : Known) (es : List Elem) (p q : EdgeError) → Refuses known es p → Refuses known es q → p ≡ q
one_refusal one known es p q f g = by (cases_lt f.index g.index) (cases_lt g.index f.index)
  where
    at_one : f.index ≡ g.index → p ≡ q
    at_one same =
        let both : Some f.edge ≡ Some g.edge = sym f.at ∙ ap (λ i. slice_get es i) same ∙ g.at in
        let edge : f.edge ≡ g.edge = cc in
        one_failure one known g.index g.edge p q (subst (λ x. Fails known g.index x p) edge (subst (λ i. Fails known i f.edge p) same f.fails)) g.fails

    by : (f.index < g.index) ⊎ (g.index ≤ f.index) → (g.index < f.index) ⊎ (f.index ≤ g.index) → p ≡ q
    by (inl less) other = absurd (not_before one known es p q f g less)
    by (inr more) (inl less) = absurd (not_before one known es q p g f less)
    by (inr more) (inr fewer) = at_one (omega arith)

-- and not where they say edges
pub said_or_refused : OneEnds → (known : Known) (es : List Elem) (p : List FileEdge) (error : EdgeError) → SaysEdges known es p → Refuses known es error → ⊥
said_or_refused one known es p error says f =
    let said = said_at known es p says f.index f.edge f.at in says_or_fails one known f.index f.edge error said.0 said.1 f.fails
