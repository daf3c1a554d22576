-- What was appended, piece by piece, also where memory ran out.
use Rattle.std.proofs.Common.{◌≡◌, ℕ, suc, ◌<◌, ◌≤◌, ◌+◌, cond, List, [], ◌∷◌, ◌++◌, map, length, drop, get_or, refl, sym, ap, subst, ◌∙◌, add-one, append-nil, append_assoc, Result, Ok, Err, OnOk, OnErr, IfOk, IfErr, is_ok}
use Rattle.std.proofs.Math.Seq.{drop-cons}
use Rattle.std.proofs.lemmas.List.{drop_all}
use Rattle.std.specs.List.{flat_map}
use Rattle.prog_text.specs.Spelling.{IsPart}

pub part_none : (old text new : List ℕ) → new ≡ old → IsPart old text new
part_none old text new e = record { front = []; rest = text; whole = refl; appended = e ∙ sym (append-nil old) }

-- a part of what comes first
pub part_first : (old text more new : List ℕ) → IsPart old text new → IsPart old (text ++ more) new
part_first old text more new p = record {
  front = p.front;
  rest = p.rest ++ more;
  whole = ap (λ l. l ++ more) p.whole ∙ append_assoc p.front p.rest more;
  appended = p.appended;
}

-- a part of what comes behind something that was appended whole
pub part_behind : (old done text mid new : List ℕ) → mid ≡ old ++ done → IsPart mid text new → IsPart old (done ++ text) new
part_behind old done text mid new m p = record {
  front = done ++ p.front;
  rest = p.rest;
  whole = ap (λ l. done ++ l) p.whole ∙ sym (append_assoc done p.front p.rest);
  appended = p.appended ∙ (ap (λ l. l ++ p.front) m ∙ append_assoc old done p.front);
}

pub on_err : {T E : Type 0} (P : Type 0) (r : Result T E) → P → OnErr r P
on_err P (Ok x) h = tt
on_err P (Err e) h = h

pub on_err_then : {T E : Type 0} (P Q : Type 0) (r : Result T E) → (P → Q) → OnErr r P → OnErr r Q
on_err_then P Q (Ok x) f h = tt
on_err_then P Q (Err e) f h = f h

-- a call that appends all or nothing
pub part_or_all : {T E : Type 0} (r : Result T E) (old text all new : List ℕ) → new ≡ cond (is_ok r) all old → OnErr r (IsPart old text new)
part_or_all (Ok x) old text all new e = tt
part_or_all (Err x) old text all new e = part_none old text new e

-- the first i items of a list were appended
pub record AreWritten {A : Type 0} (f : A → List ℕ) (l : List A) (i : ℕ) (old now : List ℕ) : Type 0 where
  pub done : List ℕ
  pub appended : now ≡ old ++ done
  pub all : flat_map f l ≡ done ++ flat_map f (drop i l)

next_item : {A : Type 0} (f : A → List ℕ) (l : List A) (i : ℕ) (a d : A) → i < length l → a ≡ get_or l i d → flat_map f (drop i l) ≡ f a ++ flat_map f (drop (i + 1) l)
next_item {A} f l i a d h e =
    let P : A → Type 0 = λ x. flat_map f (drop i l) ≡ f x ++ flat_map f (drop (suc i) l) in
    let Q : ℕ → Type 0 = λ n. flat_map f (drop i l) ≡ f a ++ flat_map f (drop n l) in
    subst Q (sym (add-one i)) (subst P (sym e) (ap (λ (x : List A). flat_map f x) (drop-cons l i d h)))

pub written_none : {A : Type 0} (f : A → List ℕ) (l : List A) (old : List ℕ) → AreWritten f l 0 old old
written_none f l old = record { done = []; appended = sym (append-nil old); all = refl }

pub written_more : {A : Type 0} (f : A → List ℕ) (l : List A) (i : ℕ) (a d : A) (old now new : List ℕ) → AreWritten f l i old now → i < length l → a ≡ get_or l i d → new ≡ now ++ f a →
    AreWritten f l (i + 1) old new
written_more f l i a d old now new w h e n = record {
  done = w.done ++ f a;
  appended = n ∙ (ap (λ x. x ++ f a) w.appended ∙ append_assoc old w.done (f a));
  all = w.all ∙ (ap (λ x. w.done ++ x) (next_item f l i a d h e) ∙ sym (append_assoc w.done (f a) (flat_map f (drop (i + 1) l))));
}

pub written_all : {A : Type 0} (f : A → List ℕ) (l : List A) (i : ℕ) (old now : List ℕ) → AreWritten f l i old now → length l ≤ i → now ≡ old ++ flat_map f l
written_all {A} f l i old now w h =
    let none : flat_map f (drop i l) ≡ [] = ap (λ (x : List A). flat_map f x) (drop_all i l h) in
    w.appended ∙ ap (λ x. old ++ x) (sym (w.all ∙ (ap (λ x. w.done ++ x) none ∙ append-nil w.done)))

-- and memory ran out within the next one
pub written_part : {A : Type 0} (f : A → List ℕ) (l : List A) (i : ℕ) (a d : A) (old now new : List ℕ) → AreWritten f l i old now → i < length l → a ≡ get_or l i d → IsPart now (f a) new →
    IsPart old (flat_map f l) new
written_part {A} f l i a d old now new w h e p =
    let P : List ℕ → Type 0 = λ x. IsPart old x new in
    let all : flat_map f l ≡ w.done ++ (f a ++ flat_map f (drop (i + 1) l)) = w.all ∙ ap (λ x. w.done ++ x) (next_item f l i a d h e) in
    subst P (sym all) (part_behind old w.done (f a ++ flat_map f (drop (i + 1) l)) now new w.appended (part_first now (f a) (flat_map f (drop (i + 1) l)) new p))

pub on_ok : {T E : Type 0} (P : Type 0) (r : Result T E) → P → OnOk r P
on_ok P (Ok x) h = h
on_ok P (Err e) h = tt

pub if_ok_then : {T E : Type 0} (P Q : T → Type 0) (r : Result T E) → ((x : T) → P x → Q x) → IfOk r P → IfOk r Q
if_ok_then P Q (Ok x) f h = f x h
if_ok_then P Q (Err e) f h = tt

pub if_err_then : {T E : Type 0} (P Q : E → Type 0) (r : Result T E) → ((e : E) → P e → Q e) → IfErr r P → IfErr r Q
if_err_then P Q (Ok x) f h = tt
if_err_then P Q (Err e) f h = f e h
