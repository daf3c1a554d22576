-- What a line sets, and the lines of a text one by one.
use Rattle.std.proofs.Common.{◌≡◌, ◌≤◌, ◌<◌, ◌+◌, ◌-◌, ℕ, zero, suc, min, Bool, true, false, not, List, [], ◌∷◌, ◌++◌, Some, None, length, refl, sym, ap, ◌∙◌, subst, arith, append_assoc, append-nil}
use Rattle.std.specs.Prelude.{slice_get}
use Rattle.std.specs.List.{AllPass}
use Rattle.std.specs.Str.Lines.{lines}
use Rattle.std.proofs.lemmas.List.Elements.{All-head, All-tail, All-cons}
use Rattle.std.proofs.lemmas.List.{length-append}
use Rattle.fasm_text.specs.declared.error.FasmError.{FasmError}
use Rattle.fasm_text.specs.declared.error.FasmError.TheVariants.{BadFasm, ValueWide, OutOfMemory}
use Rattle.fasm_text.specs.Sets.{NamedBit, set_from, IsWide, IsWithoutEnd, IsDividedAt}
use Rattle.fasm_text.specs.Texts.{LineSets, LinesSet, TextSets, RefusesLine, line_number, StopsAt, RefusesText}

-- bits that are off set nothing
off_sets_none : (name : List ℕ) (n : ℕ) (off : List Bool) → AllPass not off → set_from name n off ≡ []
off_sets_none name n [] off = refl
off_sets_none name n (true ∷ bits) off = absurd (no (All-head (λ v. not v ≡ true) true bits off))
  where
    no : not true ≡ true → ⊥
    no e = cc
off_sets_none name n (false ∷ bits) off = off_sets_none name (n + 1) bits (All-tail (λ v. not v ≡ true) false bits off)

set_append : (name : List ℕ) (n : ℕ) (front back : List Bool) → set_from name n (front ++ back) ≡ set_from name n front ++ set_from name (n + length front) back
set_append name n [] back = ap (λ k. set_from name k back) (omega arith)
set_append name n (true ∷ front) back =
    ap (λ l. record { name = name; bit = n } ∷ l) (set_append name (n + 1) front back ∙ ap (λ k. set_from name (n + 1) front ++ set_from name k back) (omega arith))
set_append name n (false ∷ front) back =
    set_append name (n + 1) front back ∙ ap (λ k. set_from name (n + 1) front ++ set_from name k back) (omega arith)

front_sets : (name : List ℕ) (n : ℕ) (front back : List Bool) → AllPass not back → set_from name n (front ++ back) ≡ set_from name n front
front_sets name n front back off =
    set_append name n front back ∙ (ap (λ l. set_from name n front ++ l) (off_sets_none name (n + length front) back off) ∙ append-nil (set_from name n front))

-- where a bit stands that is on
off_at : (bits : List Bool) (j : ℕ) → AllPass not bits → slice_get bits j ≡ Some true → ⊥
off_at [] zero off is = cc
off_at [] (suc j) off is = cc
off_at (b ∷ bits) zero off is = on b (All-head (λ v. not v ≡ true) b bits off) is
  where
    on : (v : Bool) → not v ≡ true → Some v ≡ Some true → ⊥
    on true e f = cc
    on false e f = cc
off_at (b ∷ bits) (suc j) off is = off_at bits j (All-tail (λ v. not v ≡ true) b bits off) is

front_at : (front back : List Bool) (j : ℕ) → AllPass not back → slice_get (front ++ back) j ≡ Some true → j < length front
front_at [] back j off is = absurd (off_at back j off is)
front_at (b ∷ front) back zero off is = omega arith
front_at (b ∷ front) back (suc j) off is = omega (arith, front_at front back j off is)

shifted : (front back : List Bool) (j : ℕ) (b : Bool) (k : ℕ) → k ≡ suc (length front + j) → slice_get (front ++ back) (length front + j) ≡ Some true →
    slice_get (b ∷ (front ++ back)) k ≡ Some true
shifted front back j b k is there = ap (slice_get (b ∷ (front ++ back))) is ∙ there

later_at : (front back : List Bool) (j : ℕ) → slice_get back j ≡ Some true → slice_get (front ++ back) (length front + j) ≡ Some true
later_at [] back j is = ap (slice_get back) (begins j) ∙ is
  where
    begins : (j : ℕ) → 0 + j ≡ j
    begins j = omega arith
later_at (b ∷ front) back j is = shifted front back j b (length (b ∷ front) + j) (omega arith) (later_at front back j is)

front_get : (front back : List Bool) (k : ℕ) → slice_get front k ≡ Some true → slice_get (front ++ back) k ≡ Some true
front_get [] back zero is = absurd (nothing is)
  where
    nothing : None ≡ Some true → ⊥
    nothing e = cc
front_get [] back (suc k) is = absurd (nothing is)
  where
    nothing : None ≡ Some true → ⊥
    nothing e = cc
front_get (b ∷ front) back zero is = is
front_get (b ∷ front) back (suc k) is = front_get front back k is

some_on : (bits : List Bool) → (AllPass not bits → ⊥) → (j : ℕ) × (slice_get bits j ≡ Some true) × (0 < length bits)
some_on [] fails = absurd (fails (λ k d within. absurd (nothing k within)))
  where
    nothing : (k : ℕ) → k < 0 → ⊥
    nothing k h = omega arith
some_on (true ∷ bits) fails = (0, refl, omega arith)
some_on (false ∷ bits) fails =
    let r = some_on bits (λ all. fails (All-cons (λ v. not v ≡ true) false bits refl all)) in
    (suc r.0, r.1, omega arith)

all_of_both : (front back : List Bool) → AllPass not front → AllPass not back → AllPass not (front ++ back)
all_of_both [] back a b = b
all_of_both (f ∷ front) back a b =
    All-cons (λ v. not v ≡ true) f (front ++ back) (All-head (λ v. not v ≡ true) f front a) (all_of_both front back (All-tail (λ v. not v ≡ true) f front a) b)

rest_of : (bits whole front back : List Bool) (w : IsWithoutEnd bits whole) (width : ℕ) → IsDividedAt width bits front back → whole ≡ front ++ (back ++ w.off)
rest_of bits whole front back w width d = w.spelled ∙ (ap (λ b. b ++ w.off) d.whole ∙ append_assoc front back w.off)

-- bits past the field are off: none of the value is past it, and those within it are all that are set
pub fits : (bits whole front back : List Bool) (name : List ℕ) (lo hi width : ℕ) → lo ≤ hi → width ≡ hi - lo + 1 → IsWithoutEnd bits whole →
    IsDividedAt width bits front back → AllPass not back → (IsWide lo hi whole → ⊥) × (set_from name lo whole ≡ set_from name lo front)
fits bits whole front back name lo hi width order is_width w d off =
    let all = all_of_both back w.off off w.all_off in
    let spelled = rest_of bits whole front back w width d in (
      λ wide. (let low = front_at front (back ++ w.off) wide.0 all (subst (λ l. slice_get l wide.0 ≡ Some true) spelled wide.1) in
          omega (arith, low, d.short, wide.2, is_width, order)),
      ap (set_from name lo) spelled ∙ front_sets name lo front (back ++ w.off) all,
    )

-- a bit past the field is on
pub is_wide : (bits whole front back : List Bool) (lo hi width : ℕ) → lo ≤ hi → width ≡ hi - lo + 1 → IsWithoutEnd bits whole →
    IsDividedAt width bits front back → (AllPass not back → ⊥) → IsWide lo hi whole
is_wide bits whole front back lo hi width order is_width w d on =
    let s = some_on back on in
    let full = d.full s.2 in
    let there = later_at front (back ++ w.off) s.0 (front_get back w.off s.0 s.1) in (
      length front + s.0,
      subst (λ l. slice_get l (length front + s.0) ≡ Some true) (sym (rest_of bits whole front back w width d)) there,
      omega (arith, full, is_width, order),
    )

-- the lines in front were read
pub record IsAlong (bytes rest : List ℕ) (set : List NamedBit) (number : ℕ) : Type 0 where
  pub front : List (List ℕ)
  pub spelled : lines bytes ≡ front ++ lines rest
  pub sets : LinesSet front set
  pub counted : number ≡ line_number front

pub along_starts : (bytes : List ℕ) → IsAlong bytes bytes [] 1
along_starts bytes = record { front = []; spelled = refl; sets = refl; counted = refl }

sets_more : (front : List (List ℕ)) (line : List ℕ) (set here : List NamedBit) → LinesSet front set → LineSets line here → LinesSet (front ++ line ∷ []) (set ++ here)
sets_more [] line set here s h = (here, [], h, refl, ap (λ l. l ++ here) s ∙ sym (append-nil here))
sets_more (f ∷ front) line set here s h =
    (s.0, s.1 ++ here, s.2, sets_more front line s.1 here s.3 h, ap (λ l. l ++ here) s.4 ∙ append_assoc s.0 s.1 here)

pub along_next : (bytes rest line behind : List ℕ) (set new : List NamedBit) (number next : ℕ) → IsAlong bytes rest set number → lines rest ≡ line ∷ lines behind →
    ((here : List NamedBit) × LineSets line here × (new ≡ set ++ here)) → next ≡ min (number + 1) 4294967295 → IsAlong bytes behind new next
along_next bytes rest line behind set new number next a is h is_next = record {
  front = a.front ++ line ∷ [];
  spelled = a.spelled ∙ (ap (λ l. a.front ++ l) is ∙ sym (append_assoc a.front (line ∷ []) (lines behind)));
  sets = subst (LinesSet (a.front ++ line ∷ [])) (sym h.2) (sets_more a.front line set h.0 a.sets h.1);
  counted = omega (arith, is_next, a.counted, length-append a.front (line ∷ []));
}

along_refused : (bytes rest line behind : List ℕ) (set : List NamedBit) (number : ℕ) (e : FasmError) → IsAlong bytes rest set number → lines rest ≡ line ∷ lines behind →
    RefusesLine line number e → StopsAt bytes e
along_refused bytes rest line behind set number e a is r = record {
  front = a.front;
  line = line;
  behind = lines behind;
  spelled = a.spelled ∙ ap (λ l. a.front ++ l) is;
  set = set;
  sets = a.sets;
  refuses = subst (λ n. RefusesLine line n e) a.counted r;
}

pub along_stops : (bytes rest line behind : List ℕ) (set : List NamedBit) (number : ℕ) (e : FasmError) → IsAlong bytes rest set number → lines rest ≡ line ∷ lines behind →
    RefusesLine line number e → RefusesText bytes e
along_stops bytes rest line behind set number (BadFasm at) a is r = along_refused bytes rest line behind set number (BadFasm at) a is r
along_stops bytes rest line behind set number (ValueWide at) a is r = along_refused bytes rest line behind set number (ValueWide at) a is r
along_stops bytes rest line behind set number OutOfMemory a is r = tt

pub along_ends : (bytes rest : List ℕ) (set : List NamedBit) (number : ℕ) → rest ≡ [] → IsAlong bytes rest set number → TextSets bytes set
along_ends bytes rest set number none a =
    let spelled : lines bytes ≡ a.front = a.spelled ∙ (ap (λ r. a.front ++ lines r) none ∙ append-nil a.front) in
    subst (λ ls. LinesSet ls set) (sym spelled) a.sets
