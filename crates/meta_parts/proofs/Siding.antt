-- The two sides of a line are found in one way.
use Rattle.std.proofs.Common.{◌≡◌, ◌==◌, ◌<◌, ◌+◌, ◌⊎◌, inl, inr, ℕ, Bool, true, false, List, [], ◌∷◌, ◌++◌, length, take, drop, get_or, append_assoc, append-nil, refl, sym, ap, ◌∙◌, subst, arith, if◌then◌else◌}
use Rattle.std.proofs.lemmas.List.{same_from_push, take_more}
use Rattle.vtr_base.specs.Spans.{Lacks, IsCut}
use Rattle.meta_parts.specs.Divisions.{inside_from, is_inside, IsColonCut, HasSides}
use Rattle.meta_parts.proofs.Cuts.{not_cut, same_cut, untrue}

-- of two texts with a colon in them that are one, the left sides are one or one goes on behind a
-- colon at the end of the other
compare : (a x b y : List ℕ) → a ++ 58 ∷ x ≡ b ++ 58 ∷ y →
    ((a ≡ b) × (x ≡ y)) ⊎ (((rest : List ℕ) × (b ≡ a ++ 58 ∷ rest)) ⊎ ((rest : List ℕ) × (a ≡ b ++ 58 ∷ rest)))
compare [] x [] y e = inl (refl, cc)
compare [] x (b ∷ bs) y e = inr (inl (bs, cc))
compare (a ∷ as') x [] y e = inr (inr (as', cc))
compare (a ∷ as') x (b ∷ bs) y e =
    let rest : as' ++ 58 ∷ x ≡ bs ++ 58 ∷ y = cc in
    let head : a ≡ b = cc in
    more (compare as' x bs y rest) head
  where
    more : ((as' ≡ bs) × (x ≡ y)) ⊎ (((rest : List ℕ) × (bs ≡ as' ++ 58 ∷ rest)) ⊎ ((rest : List ℕ) × (as' ≡ bs ++ 58 ∷ rest))) → a ≡ b →
        ((a ∷ as' ≡ b ∷ bs) × (x ≡ y)) ⊎ (((rest : List ℕ) × (b ∷ bs ≡ (a ∷ as') ++ 58 ∷ rest)) ⊎ ((rest : List ℕ) × (a ∷ as' ≡ (b ∷ bs) ++ 58 ∷ rest)))
    more (inl same) h = inl (cc, same.1)
    more (inr (inl on)) h = inr (inl (on.0, cc))
    more (inr (inr on)) h = inr (inr (on.0, cc))

one_colon : (text l r m s : List ℕ) → IsColonCut text l r → IsColonCut text m s → (l ≡ m) × (r ≡ s)
one_colon text l r m s a b = by (compare l r m s (sym a.spelled ∙ b.spelled))
  where
    by : ((l ≡ m) × (r ≡ s)) ⊎ (((rest : List ℕ) × (m ≡ l ++ 58 ∷ rest)) ⊎ ((rest : List ℕ) × (l ≡ m ++ 58 ∷ rest))) → (l ≡ m) × (r ≡ s)
    by (inl same) = same
    by (inr (inl on)) = absurd (untrue (is_inside l) a.outside (b.first l on.0 on.1))
    by (inr (inr on)) = absurd (untrue (is_inside m) b.outside (a.first m on.0 on.1))

pub one_pair : (text l r m s : List ℕ) → HasSides text l r → HasSides text m s → (l ≡ m) × (r ≡ s)
one_pair text l r m s (inl a) (inl b) = same_cut 61 text l r m s a b
one_pair text l r m s (inl a) (inr b) = absurd (not_cut 61 text l r b.0 a)
one_pair text l r m s (inr a) (inl b) = absurd (not_cut 61 text m s a.0 b)
one_pair text l r m s (inr a) (inr b) = one_colon text l r m s a.1 b.1

pub no_sides : (text : List ℕ) → Lacks text 61 → ((l r : List ℕ) → IsColonCut text l r → ⊥) → (l r : List ℕ) → HasSides text l r → ⊥
no_sides text lacks none l r (inl a) = not_cut 61 text l r lacks a
no_sides text lacks none l r (inr a) = none l r a.1

-- the bytes that were passed have no colon outside brackets
pub record IsPassed (done : List ℕ) (inside : Bool) : Type 0 where
  pub is : inside ≡ is_inside done
  pub none : (front rest : List ℕ) → done ≡ front ++ 58 ∷ rest → is_inside front ≡ true

no_colon : (front rest : List ℕ) → [] ≡ front ++ 58 ∷ rest → ⊥
no_colon [] rest e = cc
no_colon (x ∷ front) rest e = cc

pub passed_none : IsPassed [] false
passed_none = record { is = refl; none = λ front rest e. absurd (no_colon front rest e) }

inside_push : (on : Bool) (done : List ℕ) (b : ℕ) → inside_from on (done ++ b ∷ []) ≡ inside_from (inside_from on done) (b ∷ [])
inside_push on [] b = refl
inside_push on (x ∷ done) b = by (x == 91) (x == 93) (inside_push true done b) (inside_push false done b) (inside_push on done b)
  where
    by : (opens closes : Bool) → inside_from true (done ++ b ∷ []) ≡ inside_from (inside_from true done) (b ∷ []) →
        inside_from false (done ++ b ∷ []) ≡ inside_from (inside_from false done) (b ∷ []) → inside_from on (done ++ b ∷ []) ≡ inside_from (inside_from on done) (b ∷ []) →
        (if opens then inside_from true (done ++ b ∷ []) else if closes then inside_from false (done ++ b ∷ []) else inside_from on (done ++ b ∷ []))
        ≡ inside_from (if opens then inside_from true done else if closes then inside_from false done else inside_from on done) (b ∷ [])
    by true closes opening closing other = opening
    by false true opening closing other = closing
    by false false opening closing other = other

-- a colon in a longer text is one of the shorter, or the last byte
last_or_before : (done front rest : List ℕ) (b : ℕ) → done ++ b ∷ [] ≡ front ++ 58 ∷ rest →
    ((done ≡ front) × (b ≡ 58)) ⊎ ((less : List ℕ) × (done ≡ front ++ 58 ∷ less))
last_or_before [] [] rest b e = inl (refl, cc)
last_or_before [] (f ∷ []) rest b e = absurd (cc)
last_or_before [] (f ∷ g ∷ front) rest b e = absurd (cc)
last_or_before (d ∷ done) [] rest b e = inr (done, cc)
last_or_before (d ∷ done) (f ∷ front) rest b e =
    let tail : done ++ b ∷ [] ≡ front ++ 58 ∷ rest = cc in
    let head : d ≡ f = cc in
    more (last_or_before done front rest b tail) head
  where
    more : ((done ≡ front) × (b ≡ 58)) ⊎ ((less : List ℕ) × (done ≡ front ++ 58 ∷ less)) → d ≡ f →
        ((d ∷ done ≡ f ∷ front) × (b ≡ 58)) ⊎ ((less : List ℕ) × (d ∷ done ≡ (f ∷ front) ++ 58 ∷ less))
    more (inl last) h = inl (cc, last.1)
    more (inr before) h = inr (before.0, cc)

pub passed_more : (done : List ℕ) (inside behind : Bool) (b : ℕ) → IsPassed done inside → (b ≡ 58 → inside ≡ true) → behind ≡ inside_from inside (b ∷ []) →
    IsPassed (done ++ b ∷ []) behind
passed_more done inside behind b p colon is = record {
  is = is ∙ (ap (λ on. inside_from on (b ∷ [])) p.is ∙ sym (inside_push false done b));
  none = λ front rest e. by front (last_or_before done front rest b e);
}
  where
    by : (front : List ℕ) → ((done ≡ front) × (b ≡ 58)) ⊎ ((less : List ℕ) × (done ≡ front ++ 58 ∷ less)) → is_inside front ≡ true
    by front (inl last) = subst (λ l. is_inside l ≡ true) last.0 (sym p.is ∙ colon last.1)
    by front (inr before) = p.none front before.0 before.1

pub passed_all : (text : List ℕ) (inside : Bool) → IsPassed text inside → (l r : List ℕ) → IsColonCut text l r → ⊥
passed_all text inside p l r cut = untrue (is_inside l) cut.outside (p.none l r cut.spelled)

pub passed_here : (text done right : List ℕ) (inside : Bool) → IsPassed done inside → inside ≡ false → text ≡ done ++ 58 ∷ right → IsColonCut text done right
passed_here text done right inside p outside is = record { spelled = is; outside = sym p.is ∙ outside; first = p.none }
