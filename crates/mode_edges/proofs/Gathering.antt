-- Edges added in turn: what is there stays, and what is joined already changes nothing.
use Rattle.std.proofs.Common.{◌≡◌, ◌≤◌, ◌<◌, ◌+◌, ℕ, suc, Bool, true, false, ◌&&◌, inl, inr, List, [], ◌∷◌, ◌++◌, length, length-append, append_assoc, drop, drop-cons, get_or, refl, sym, ◌∙◌, ap, subst, arith}
use Rattle.std.proofs.lemmas.Bool.{both_ways, and_from, or_cases, or_left, or_right, cases_Bool, cond-true, cond-false}
use Rattle.vtr_base.specs.Lists.{Has}
use Rattle.mode_edges.specs.declared.pin.LocalPin.{LocalPin}
use Rattle.mode_edges.specs.declared.pin.LocalEdge.{LocalEdge}
use Rattle.mode_edges.specs.Pairs.{same_pin, joined, with_edge, with_edges, row, rows, AddsUpTo, SameEnds}
use Rattle.mode_edges.proofs.PairKeys.{pin_itself}

abbrev pub edge : ℕ → LocalPin → LocalPin → LocalEdge
edge inter s d = record { src = s; dst = d; inter = inter }

-- adding one list and then another
pub with_both : (old xs ys : List LocalEdge) → with_edges old (xs ++ ys) ≡ with_edges (with_edges old xs) ys
with_both old [] ys = refl
with_both old (x ∷ xs) ys = with_both (with_edge old x) xs ys

one_longer : (old : List LocalEdge) (e : LocalEdge) → length old ≤ length (with_edge old e)
one_longer old e =
    elim (cases_Bool (joined old e)) [
      | inl t ↦ omega (arith, ap length (cond-true (joined old e) old (old ++ e ∷ []) t))
      | inr f ↦ omega (arith, ap length (cond-false (joined old e) old (old ++ e ∷ []) f), length-append old (e ∷ []))
    ]

-- adding takes none away
pub no_fewer : (old es : List LocalEdge) → length old ≤ length (with_edges old es)
no_fewer old [] = omega arith
no_fewer old (e ∷ es) = omega (arith, one_longer old e, no_fewer (with_edge old e) es)

still_joined : (old more : List LocalEdge) (e : LocalEdge) → joined old e ≡ true → joined (old ++ more) e ≡ true
still_joined [] more e j = cc
still_joined (x ∷ xs) more e j =
    elim (or_cases (same_pin e.src x.src && same_pin e.dst x.dst) (joined xs e) j) [
      | inl here ↦ or_left (same_pin e.src x.src && same_pin e.dst x.dst) (joined (xs ++ more) e) here
      | inr there ↦ or_right (same_pin e.src x.src && same_pin e.dst x.dst) (joined (xs ++ more) e) (still_joined xs more e there)
    ]

last_joined : (old : List LocalEdge) (e : LocalEdge) → joined (old ++ e ∷ []) e ≡ true
last_joined [] e =
    or_left (same_pin e.src e.src && same_pin e.dst e.dst) false
    (and_from (same_pin e.src e.src) (same_pin e.dst e.dst) (pin_itself e.src) (pin_itself e.dst))
last_joined (x ∷ xs) e = or_right (same_pin e.src x.src && same_pin e.dst x.dst) (joined (xs ++ e ∷ []) e) (last_joined xs e)

one_joined : (old : List LocalEdge) (e : LocalEdge) → joined (with_edge old e) e ≡ true
one_joined old e =
    elim (cases_Bool (joined old e)) [
      | inl t ↦ subst (λ (l : List LocalEdge). joined l e ≡ true) (sym (cond-true (joined old e) old (old ++ e ∷ []) t)) t
      | inr f ↦ subst (λ (l : List LocalEdge). joined l e ≡ true) (sym (cond-false (joined old e) old (old ++ e ∷ []) f)) (last_joined old e)
    ]

one_keeps : (old : List LocalEdge) (e f : LocalEdge) → joined old f ≡ true → joined (with_edge old e) f ≡ true
one_keeps old e f j =
    elim (cases_Bool (joined old e)) [
      | inl t ↦ subst (λ (l : List LocalEdge). joined l f ≡ true) (sym (cond-true (joined old e) old (old ++ e ∷ []) t)) j
      | inr n ↦ subst (λ (l : List LocalEdge). joined l f ≡ true) (sym (cond-false (joined old e) old (old ++ e ∷ []) n)) (still_joined old (e ∷ []) f j)
    ]

-- what is joined stays joined
pub keeps_joined : (old es : List LocalEdge) (f : LocalEdge) → joined old f ≡ true → joined (with_edges old es) f ≡ true
keeps_joined old [] f j = j
keeps_joined old (e ∷ es) f j = keeps_joined (with_edge old e) es f (one_keeps old e f j)

-- the pins of all these edges are joined
abbrev pub AllJoined : List LocalEdge → List LocalEdge → Type 0
AllJoined old es = (e : LocalEdge) → Has es e → joined old e ≡ true

pub joins_all : (old es : List LocalEdge) → AllJoined (with_edges old es) es
joins_all old [] f h = absurd h
joins_all old (e ∷ es) f (inl is) =
    subst (λ (x : LocalEdge). joined (with_edges (with_edge old e) es) x ≡ true) (sym is) (keeps_joined (with_edge old e) es e (one_joined old e))
joins_all old (e ∷ es) f (inr h) = joins_all (with_edge old e) es f h

pub all_kept : (old es more : List LocalEdge) → AllJoined old es → AllJoined (with_edges old more) es
all_kept old es more all e h = keeps_joined old more e (all e h)

-- adding them again changes nothing
pub nothing_new : (old es : List LocalEdge) → AllJoined old es → with_edges old es ≡ old
nothing_new old [] all = refl
nothing_new old (e ∷ es) all =
    let same = cond-true (joined old e) old (old ++ e ∷ []) (all e (inl refl)) in
    subst (λ (l : List LocalEdge). with_edges l es ≡ old) (sym same) (nothing_new old es (λ f h. all f (inr h)))

pub all_joined : (old es : List LocalEdge) → with_edges old es ≡ old → AllJoined old es
all_joined old es same = subst (λ (l : List LocalEdge). AllJoined l es) same (joins_all old es)

-- one row after another
pub row_both : (inter : ℕ) (src : LocalPin) (xs ys : List LocalPin) → row inter src (xs ++ ys) ≡ row inter src xs ++ row inter src ys
row_both inter src [] ys = refl
row_both inter src (x ∷ xs) ys = ap (λ (l : List LocalEdge). edge inter src x ∷ l) (row_both inter src xs ys)

row_has : (inter : ℕ) (src : LocalPin) (xs : List LocalPin) (x : LocalPin) → Has xs x → Has (row inter src xs) (edge inter src x)
row_has inter src [] x h = absurd h
row_has inter src (y ∷ ys) x (inl is) = inl (ap (λ (d : LocalPin). edge inter src d) is)
row_has inter src (y ∷ ys) x (inr h) = inr (row_has inter src ys x h)

pub rows_to_none : (inter : ℕ) (ins : List LocalPin) → rows inter ins [] ≡ []
rows_to_none inter [] = refl
rows_to_none inter (i ∷ ins) = rows_to_none inter ins

-- ends that serve for others serve in all rows
pub rows_same : (inter : ℕ) (ends outs : List LocalPin) → SameEnds ends outs → (ins : List LocalPin) (old : List LocalEdge) →
    with_edges old (rows inter ins ends) ≡ with_edges old (rows inter ins outs)
rows_same inter ends outs same [] old = refl
rows_same inter ends outs same (i ∷ ins) old =
    with_both old (row inter i ends) (rows inter ins ends)
    ∙ (ap (λ (l : List LocalEdge). with_edges l (rows inter ins ends)) (same inter i old)
    ∙ (rows_same inter ends outs same ins (with_edges old (row inter i outs)) ∙ sym (with_both old (row inter i outs) (rows inter ins outs))))

-- an end that is there already may be left out
pub end_again : (ends left outs : List LocalPin) (d : LocalPin) → Has ends d → SameEnds (ends ++ d ∷ left) outs → SameEnds (ends ++ left) outs
end_again ends left outs d has same inter src old =
    let here = with_edges old (row inter src ends) in
    let join : joined here (edge inter src d) ≡ true = joins_all old (row inter src ends) (edge inter src d) (row_has inter src ends d has) in
    let skip : with_edge here (edge inter src d) ≡ here = cond-true (joined here (edge inter src d)) here (here ++ edge inter src d ∷ []) join in
    let short = ap (with_edges old) (row_both inter src ends left) ∙ with_both old (row inter src ends) (row inter src left) in
    let long = ap (with_edges old) (row_both inter src ends (d ∷ left)) ∙ with_both old (row inter src ends) (row inter src (d ∷ left)) in
    short ∙ (ap (λ (l : List LocalEdge). with_edges l (row inter src left)) (sym skip) ∙ (sym long ∙ same inter src old))

pub end_new : (ends longer left outs : List LocalPin) (d : LocalPin) → longer ≡ ends ++ d ∷ [] → SameEnds (ends ++ d ∷ left) outs → SameEnds (longer ++ left) outs
end_new ends longer left outs d grown same =
    subst (λ (l : List LocalPin). SameEnds l outs) (sym (ap (λ (l : List LocalPin). l ++ left) grown ∙ append_assoc ends (d ∷ []) left)) same

-- some edges are being added to `old`: those that are left go to what is there `now`
pub record IsAdding (most : ℕ) (old now all left : List LocalEdge) : Type 0 where
  pub target : with_edges now left ≡ with_edges old all
  pub few : length old ≤ most → length now ≤ most

pub adding_starts : (most : ℕ) (old all : List LocalEdge) → IsAdding most old old all all
adding_starts most old all = record { target = refl; few = λ few. few }

pub adding_goes_on : (most : ℕ) (old now next all es left whole : List LocalEdge) → whole ≡ es ++ left → IsAdding most old now all whole →
    AddsUpTo most now next es true → IsAdding most old next all left
adding_goes_on most old now next all es left whole cut a (added, few) = record {
  target = ap (λ (l : List LocalEdge). with_edges l left) added ∙ (sym (with_both now es left) ∙ (ap (with_edges now) (sym cut) ∙ a.target));
  few = λ f. few (a.few f);
}

pub adding_skips : (most : ℕ) (old now all es left whole : List LocalEdge) → whole ≡ es ++ left → IsAdding most old now all whole → AllJoined now es →
    IsAdding most old now all left
adding_skips most old now all es left whole cut a there = record {
  target = ap (λ (l : List LocalEdge). with_edges l left) (sym (nothing_new now es there)) ∙ (sym (with_both now es left) ∙ (ap (with_edges now) (sym cut) ∙ a.target));
  few = a.few;
}

pub adding_stops : (most : ℕ) (old now all es left whole : List LocalEdge) → whole ≡ es ++ left → IsAdding most old now all whole →
    most < length (with_edges now es) → most < length (with_edges old all)
adding_stops most old now all es left whole cut a more =
    let target = sym (ap (with_edges now) cut ∙ with_both now es left) ∙ a.target in
    omega (arith, ap length target, no_fewer (with_edges now es) left, more)

pub adding_ends : (most : ℕ) (old now all left : List LocalEdge) → left ≡ [] → IsAdding most old now all left → AddsUpTo most old now all true
adding_ends most old now all left none a = (ap (with_edges now) (sym none) ∙ a.target, a.few)

-- one edge
pub adds_one : (most : ℕ) (now next : List LocalEdge) (e : LocalEdge) → next ≡ with_edge now e → length next ≤ most → AddsUpTo most now next (e ∷ []) true
adds_one most now next e added few = (added, λ before. few)

pub one_too_many : (most : ℕ) (now next : List LocalEdge) (e : LocalEdge) → next ≡ with_edge now e → (length next ≤ most → ⊥) → most < length (with_edges now (e ∷ []))
one_too_many most now next e added many = omega (arith, ap length added)

pub row_at : (inter : ℕ) (src : LocalPin) (outs : List LocalPin) (i : ℕ) (d : LocalPin) → i < length outs →
    row inter src (drop i outs) ≡ edge inter src (get_or outs i d) ∷ [] ++ row inter src (drop (i + 1) outs)
row_at inter src outs i d inside =
    let next : i + 1 ≡ suc i = omega arith in
    ap (row inter src) (drop-cons outs i d inside ∙ ap (λ (n : ℕ). get_or outs i d ∷ drop n outs) (sym next))

-- an answer of a test that says no
pub said_no : {P : Type 0} (b : Bool) → ((b ≡ true) → P) × (P → (b ≡ true)) → b ≡ false → P → ⊥
said_no b both n p = both_ways b n (both.1 p)
