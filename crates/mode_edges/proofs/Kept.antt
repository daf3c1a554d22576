-- Of edges that are given in order, those that are kept: of each pair of pins the first.
use Rattle.std.proofs.Common.{◌≡◌, ◌⊎◌, inl, inr, ℕ, zero, suc, Some, slice_get, true, false, ◌&&◌, List, [], ◌∷◌, ◌++◌, map, append_assoc, append-nil, refl, sym, ◌∙◌, ap, subst}
use Rattle.std.proofs.lemmas.Bool.{and_parts, and_from, or_cases, or_left, or_right, cases_Bool, both_ways, cond-true, cond-false}
use Rattle.std.proofs.lemmas.List.{map-append}
use Rattle.vtr_base.specs.Lists.{Has}
use Rattle.mode_edges.specs.declared.pin.LocalPin.{LocalPin}
use Rattle.mode_edges.specs.declared.pin.LocalEdge.{LocalEdge}
use Rattle.mode_edges.specs.Edges.{EdgePlace, IsBefore}
use Rattle.mode_edges.specs.Pairs.{same_pin, joined, with_edge, with_edges}
use Rattle.mode_edges.proofs.OneList.{not_both_before}
use Rattle.mode_edges.proofs.PairKeys.{pin_same, pin_itself}

-- an edge with the places of the input pins and of the output pins at which it is given
pub record Given : Type 0 where
  pub edge : LocalEdge
  pub source : ℕ
  pub end : ℕ

abbrev pub at : Given → EdgePlace
at g = record { inter = g.edge.inter; source = g.source; end = g.end }

abbrev pub edges_at : List Given → List LocalEdge
edges_at gs = map (λ (g : Given). g.edge) gs

-- h isn't given before g
abbrev pub NotAfter : Given → Given → Type 0
NotAfter g h = IsBefore (at h) (at g) → ⊥

abbrev pub SamePins : LocalEdge → LocalEdge → Type 0
SamePins e f = (e.src ≡ f.src) × (e.dst ≡ f.dst)

abbrev pub InOrder : List Given → Type 0
InOrder [] = Unit {0}
InOrder (g ∷ gs) = ((h : Given) → Has gs h → IsBefore (at g) (at h)) × InOrder gs

-- no two of them join the same pins
abbrev pub Apart : List Given → Type 0
Apart [] = Unit {0}
Apart (g ∷ gs) = ((h : Given) → Has gs h → SamePins g.edge h.edge → ⊥) × Apart gs

pub has_left : {X : Type 0} (xs ys : List X) (x : X) → Has xs x → Has (xs ++ ys) x
has_left [] ys x h = absurd h
has_left (y ∷ xs) ys x (inl e) = inl e
has_left (y ∷ xs) ys x (inr h) = inr (has_left xs ys x h)

pub has_right : {X : Type 0} (xs ys : List X) (x : X) → Has ys x → Has (xs ++ ys) x
has_right [] ys x h = h
has_right (y ∷ xs) ys x h = inr (has_right xs ys x h)

pub has_split : {X : Type 0} (xs ys : List X) (x : X) → Has (xs ++ ys) x → Has xs x ⊎ Has ys x
has_split [] ys x h = inr h
has_split (y ∷ xs) ys x (inl e) = inl (inl e)
has_split (y ∷ xs) ys x (inr h) = elim (has_split xs ys x h) [ inl a ↦ inl (inr a) | inr b ↦ inr b ]

pub has_at : {X : Type 0} (xs : List X) (n : ℕ) (x : X) → slice_get xs n ≡ Some x → Has xs x
has_at [] n x at = cc
has_at (y ∷ xs) zero x at = inl (cc)
has_at (y ∷ xs) (suc n) x at = inr (has_at xs n x at)

pub in_order_both : (xs ys : List Given) → InOrder xs → InOrder ys → ((x y : Given) → Has xs x → Has ys y → IsBefore (at x) (at y)) → InOrder (xs ++ ys)
in_order_both [] ys a b across = b
in_order_both (x ∷ xs) ys a b across = (
  λ h there. elim (has_split xs ys h there) [ inl first ↦ a.0 h first | inr second ↦ across x h (inl refl) second ],
  in_order_both xs ys a.1 b (λ g h in_xs in_ys. across g h (inr in_xs) in_ys),
)

apart_last : (xs : List Given) (y : Given) → Apart xs → ((x : Given) → Has xs x → SamePins x.edge y.edge → ⊥) → Apart (xs ++ y ∷ [])
apart_last [] y a other = (λ h none. absurd none, tt)
apart_last (x ∷ xs) y a other = (
  λ h there same. elim (has_split xs (y ∷ []) h there) [ inl first ↦ a.0 h first same | inr last ↦ clash h last same ],
  apart_last xs y a.1 (λ g h. other g (inr h)),
)
  where
    clash : (h : Given) → Has (y ∷ []) h → SamePins x.edge h.edge → ⊥
    clash h (inl is) same = other x (inl refl) (same.0 ∙ ap (λ (g : Given). g.edge.src) is, same.1 ∙ ap (λ (g : Given). g.edge.dst) is)
    clash h (inr none) same = none

pub has_edge : (gs : List Given) (g : Given) → Has gs g → Has (edges_at gs) g.edge
has_edge [] g h = absurd h
has_edge (x ∷ gs) g (inl is) = inl (ap (λ (y : Given). y.edge) is)
has_edge (x ∷ gs) g (inr h) = inr (has_edge gs g h)

pub edge_from : (gs : List Given) (e : LocalEdge) → Has (edges_at gs) e → (g : Given) × Has gs g × (e ≡ g.edge)
edge_from [] e h = absurd h
edge_from (x ∷ gs) e (inl is) = (x, inl refl, is)
edge_from (x ∷ gs) e (inr h) = let more = edge_from gs e h in (more.0, inr more.1, more.2)

joined_by : (es : List LocalEdge) (e : LocalEdge) → joined es e ≡ true → (f : LocalEdge) × Has es f × SamePins f e
joined_by [] e j = cc
joined_by (x ∷ xs) e j =
    elim (or_cases (same_pin e.src x.src && same_pin e.dst x.dst) (joined xs e) j) [
      | inl here ↦
          let k = and_parts (same_pin e.src x.src) (same_pin e.dst x.dst) here in
          (x, inl refl, (sym (pin_same e.src x.src k.0), sym (pin_same e.dst x.dst k.1)))
      | inr there ↦ let more = joined_by xs e there in (more.0, inr more.1, more.2)
    ]

same_test : (x y : LocalPin) → y ≡ x → same_pin x y ≡ true
same_test x y is = subst (λ (p : LocalPin). same_pin x p ≡ true) (sym is) (pin_itself x)

joins : (es : List LocalEdge) (e f : LocalEdge) → Has es f → SamePins f e → joined es e ≡ true
joins [] e f h same = absurd h
joins (x ∷ xs) e f (inl is) same =
    or_left (same_pin e.src x.src && same_pin e.dst x.dst) (joined xs e)
    (and_from (same_pin e.src x.src) (same_pin e.dst x.dst)
    (same_test e.src x.src (sym (ap (λ (y : LocalEdge). y.src) is) ∙ same.0))
    (same_test e.dst x.dst (sym (ap (λ (y : LocalEdge). y.dst) is) ∙ same.1)))
joins (x ∷ xs) e f (inr h) same = or_right (same_pin e.src x.src && same_pin e.dst x.dst) (joined xs e) (joins xs e f h same)

-- the edges that are kept of those that were seen
pub record IsKept (seen : List Given) (edges : List LocalEdge) : Type 0 where
  pub kept : List Given
  pub is : edges ≡ edges_at kept
  pub from : (g : Given) → Has kept g → Has seen g
  pub covers : (h : Given) → Has seen h → (g : Given) × Has kept g × SamePins g.edge h.edge × NotAfter g h
  pub sorted : InOrder kept
  pub apart : Apart kept

pub kept_none : IsKept [] []
kept_none = record { kept = []; is = refl; from = λ g h. h; covers = λ h none. absurd none; sorted = tt; apart = tt }

not_after_itself : (g h : Given) → h ≡ g → NotAfter g h
not_after_itself g h is before =
    let self = subst (λ (x : Given). IsBefore (at x) (at g)) is before in
    not_both_before (at g) (at g) self self

kept_known : (seen : List Given) (edges : List LocalEdge) (g : Given) → IsKept seen edges → ((h : Given) → Has seen h → IsBefore (at h) (at g)) → joined edges g.edge ≡ true →
    IsKept (seen ++ g ∷ []) edges
kept_known seen edges g k after known =
    let by = joined_by edges g.edge known in
    let first = edge_from k.kept by.0 (subst (λ (l : List LocalEdge). Has l by.0) k.is by.1) in
    let same : SamePins first.0.edge g.edge =
    (sym (ap (λ (e : LocalEdge). e.src) first.2) ∙ by.2.0, sym (ap (λ (e : LocalEdge). e.dst) first.2) ∙ by.2.1) in
    record {
      kept = k.kept;
      is = k.is;
      from = λ x h. has_left seen (g ∷ []) x (k.from x h);
      covers = λ x h. elim (has_split seen (g ∷ []) x h) [
        | inl there ↦ k.covers x there
        | inr last ↦ elim last [
          | inl is ↦ (first.0, first.1, at_same first.0 x is same, subst (NotAfter first.0) (sym is) (not_both_before (at first.0) (at g) (after first.0 (k.from first.0 first.1))))
          | inr none ↦ absurd none
        ]
      ];
      sorted = k.sorted;
      apart = k.apart;
    }
  where
    at_same : (f x : Given) → x ≡ g → SamePins f.edge g.edge → SamePins f.edge x.edge
    at_same f x is same = subst (λ (y : Given). SamePins f.edge y.edge) (sym is) same

kept_new : (seen : List Given) (edges : List LocalEdge) (g : Given) → IsKept seen edges → ((h : Given) → Has seen h → IsBefore (at h) (at g)) → joined edges g.edge ≡ false →
    IsKept (seen ++ g ∷ []) (edges ++ g.edge ∷ [])
kept_new seen edges g k after unknown = record {
  kept = k.kept ++ g ∷ [];
  is = ap (λ (l : List LocalEdge). l ++ g.edge ∷ []) k.is ∙ sym (map-append (λ (x : Given). x.edge) k.kept (g ∷ []));
  from = λ x h. elim (has_split k.kept (g ∷ []) x h) [
    | inl there ↦ has_left seen (g ∷ []) x (k.from x there)
    | inr last ↦ has_right seen (g ∷ []) x last
  ];
  covers = λ x h. elim (has_split seen (g ∷ []) x h) [
    | inl there ↦ let c = k.covers x there in (c.0, has_left k.kept (g ∷ []) c.0 c.1, c.2, c.3)
    | inr last ↦ elim last [
      | inl is ↦ (g, has_right k.kept (g ∷ []) g (inl refl), at_same x is, not_after_itself g x is)
      | inr none ↦ absurd none
    ]
  ];
  sorted = in_order_both k.kept (g ∷ []) k.sorted (λ h none. absurd none, tt) (λ x y in_kept last. elim last [
    | inl is ↦ subst (λ (y : Given). IsBefore (at x) (at y)) (sym is) (after x (k.from x in_kept))
    | inr none ↦ absurd none
  ]);
  apart = apart_last k.kept g k.apart (λ x h same.
      both_ways (joined edges g.edge) unknown (joins edges g.edge x.edge (subst (λ (l : List LocalEdge). Has l x.edge) (sym k.is) (has_edge k.kept x h)) same));
}
  where
    at_same : (x : Given) → x ≡ g → SamePins g.edge x.edge
    at_same x is = subst (λ (y : Given). SamePins g.edge y.edge) (sym is) (refl, refl)

kept_one : (seen : List Given) (edges : List LocalEdge) (g : Given) → IsKept seen edges → ((h : Given) → Has seen h → IsBefore (at h) (at g)) →
    IsKept (seen ++ g ∷ []) (with_edge edges g.edge)
kept_one seen edges g k after =
    elim (cases_Bool (joined edges g.edge)) [
      | inl t ↦ subst (IsKept (seen ++ g ∷ [])) (sym (cond-true (joined edges g.edge) edges (edges ++ g.edge ∷ []) t)) (kept_known seen edges g k after t)
      | inr f ↦ subst (IsKept (seen ++ g ∷ [])) (sym (cond-false (joined edges g.edge) edges (edges ++ g.edge ∷ []) f)) (kept_new seen edges g k after f)
    ]

pub kept_all : (seen : List Given) (edges : List LocalEdge) (gs : List Given) → IsKept seen edges → InOrder gs →
    ((h g : Given) → Has seen h → Has gs g → IsBefore (at h) (at g)) → IsKept (seen ++ gs) (with_edges edges (edges_at gs))
kept_all seen edges [] k order after = subst (λ (l : List Given). IsKept l edges) (sym (append-nil seen)) k
kept_all seen edges (g ∷ gs) k order after =
    subst (λ (l : List Given). IsKept l (with_edges (with_edge edges g.edge) (edges_at gs))) (append_assoc seen (g ∷ []) gs)
    (kept_all (seen ++ g ∷ []) (with_edge edges g.edge) gs (kept_one seen edges g k (λ h there. after h g there (inl refl))) order.1
    (λ h x there in_gs. elim (has_split seen (g ∷ []) h there) [
      | inl before ↦ after h x before (inr in_gs)
      | inr last ↦ elim last [ inl is ↦ subst (λ (y : Given). IsBefore (at y) (at x)) (sym is) (order.0 x in_gs) | inr none ↦ absurd none ]
    ]))

-- of two that are kept and join the same pins, one is the other
pub one_kept : (gs : List Given) (g h : Given) → Apart gs → Has gs g → Has gs h → SamePins g.edge h.edge → g ≡ h
one_kept [] g h a in_g in_h same = absurd in_g
one_kept (x ∷ gs) g h a (inl is_g) (inl is_h) same = is_g ∙ sym is_h
one_kept (x ∷ gs) g h a (inl is_g) (inr in_h) same =
    absurd (a.0 h in_h (sym (ap (λ (y : Given). y.edge.src) is_g) ∙ same.0, sym (ap (λ (y : Given). y.edge.dst) is_g) ∙ same.1))
one_kept (x ∷ gs) g h a (inr in_g) (inl is_h) same =
    absurd (a.0 g in_g (sym (ap (λ (y : Given). y.edge.src) is_h) ∙ sym same.0, sym (ap (λ (y : Given). y.edge.dst) is_h) ∙ sym same.1))
one_kept (x ∷ gs) g h a (inr in_g) (inr in_h) same = one_kept gs g h a.1 in_g in_h same
