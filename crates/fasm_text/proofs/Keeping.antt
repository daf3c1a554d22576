-- Set bits are kept under one name each, and stay when more are kept.
use Rattle.std.proofs.Common.{◌≡◌, ◌≤◌, ◌<◌, ◌+◌, ◌-◌, ℕ, zero, suc, Result, Ok, Err, OnOk, Bool, true, false, List, [], ◌∷◌, ◌++◌, Some, None, map, take, drop, length, get_or, refl, sym, ap, ◌∙◌, subst, arith, append_assoc, append-nil}
use Rattle.std.specs.Prelude.{slice_range, slice_get}
use Rattle.std.proofs.lemmas.List.{drop_more, map-append, take-append-le, drop-append-le, length-drop, length-append}
use Rattle.std.specs.Option.{option_map}
use Rattle.std.proofs.lemmas.Option.{slice_get-map}
use Rattle.std.proofs.Math.Seq.{drop-append_seam, take-length}
use Rattle.fasm_text.specs.declared.set_bits.KeptBit.{KeptBit}
use Rattle.fasm_text.specs.Sets.{NamedBit, set_from}
use Rattle.fasm_text.specs.Kept.{AreInside, named, kept_from}

name_kept : (names more : List ℕ) (start end : ℕ) → start ≤ end → end ≤ length names → slice_range (names ++ more) start end ≡ slice_range names start end
name_kept names more start end order within =
    let low : start ≤ length names = omega arith in
    let short : end - start ≤ length (drop start names) = omega (arith, length-drop start names) in
    ap (take (end - start)) (drop-append-le start names more low) ∙ take-append-le (end - start) (drop start names) more short

abbrev with_name : ℕ → List ℕ → NamedBit
with_name bit name = record { name = name; bit = bit }

all_kept : (names more : List ℕ) (ks : List KeptBit) → AreInside (length names) ks → map (named (names ++ more)) ks ≡ map (named names) ks
all_kept names more [] inside = refl
all_kept names more (k ∷ ks) inside =
    ap (λ n. with_name k.bit n ∷ map (named (names ++ more)) ks) (name_kept names more k.start k.end inside.0 inside.1)
    ∙ ap (λ l. named names k ∷ l) (all_kept names more ks inside.2)

new_name : (names name : List ℕ) (start end : ℕ) → start ≡ length names → end ≡ length names + length name → slice_range (names ++ name) start end ≡ name
new_name names name start end is_start is_end =
    let width : end - start ≡ length name = omega (arith, is_start, is_end) in
    ap (λ n. take n (drop start (names ++ name))) width ∙ (ap (λ n. take (length name) (drop n (names ++ name))) is_start ∙
    (ap (take (length name)) (drop-append_seam names name) ∙ take-length name))

all_new : (whole name : List ℕ) (start end : ℕ) → slice_range whole start end ≡ name → (n : ℕ) (bits : List Bool) → map (named whole) (kept_from start end n bits) ≡ set_from name n bits
all_new whole name start end is n [] = refl
all_new whole name start end is n (true ∷ bits) =
    ap (λ t. with_name n t ∷ map (named whole) (kept_from start end (n + 1) bits)) is ∙ ap (λ l. with_name n name ∷ l) (all_new whole name start end is (n + 1) bits)
all_new whole name start end is n (false ∷ bits) = all_new whole name start end is (n + 1) bits

pub added : (names name longer : List ℕ) (ks more : List KeptBit) (start end n : ℕ) (bits : List Bool) → AreInside (length names) ks → start ≡ length names →
    end ≡ length names + length name → longer ≡ names ++ name → more ≡ ks ++ kept_from start end n bits →
    map (named longer) more ≡ map (named names) ks ++ set_from name n bits
added names name longer ks more start end n bits inside is_start is_end is_longer is_more =
    ap (λ l. map (named l) more) is_longer ∙ (ap (map (named (names ++ name))) is_more ∙
    (map-append (named (names ++ name)) ks (kept_from start end n bits) ∙
    (ap (λ l. l ++ map (named (names ++ name)) (kept_from start end n bits)) (all_kept names name ks inside) ∙
    ap (λ l. map (named names) ks ++ l) (all_new (names ++ name) name start end (new_name names name start end is_start is_end) n bits))))

pub inside_wider : (m n : ℕ) (ks : List KeptBit) → m ≤ n → AreInside m ks → AreInside n ks
inside_wider m n [] wide inside = tt
inside_wider m n (k ∷ ks) wide inside = (inside.0, omega (arith, inside.1), inside_wider m n ks wide inside.2)

inside_one_more : (n : ℕ) (ks : List KeptBit) (k : KeptBit) → AreInside n ks → k.start ≤ k.end → k.end ≤ n → AreInside n (ks ++ k ∷ [])
inside_one_more n [] k inside order low = (order, low, tt)
inside_one_more n (h ∷ ks) k inside order low = (inside.0, inside.1, inside_one_more n ks k inside.2 order low)

-- the bits so far are kept, and these are those of what is left
pub record IsKeeping (start end lo : ℕ) (bits : List Bool) (before now : List KeptBit) (place : ℕ) : Type 0 where
  pub kept : now ++ kept_from start end (lo + place) (drop place bits) ≡ before ++ kept_from start end lo bits
  pub inside : (count : ℕ) → end ≤ count → AreInside count before → AreInside count now

pub keeping_starts : (start end lo : ℕ) (bits : List Bool) (before : List KeptBit) → IsKeeping start end lo bits before before 0
keeping_starts start end lo bits before = record {
  kept = ap (λ n. before ++ kept_from start end n bits) (omega arith);
  inside = λ count low inside. inside;
}

next_kept : (start end lo place : ℕ) (bits : List Bool) (on : Bool) → place < length bits → get_or bits place false ≡ on →
    kept_from start end (lo + place) (drop place bits) ≡ kept_from start end (lo + place) (on ∷ drop (place + 1) bits)
next_kept start end lo place bits on within is =
    ap (kept_from start end (lo + place)) (drop_more bits place false within ∙ ap (λ v. v ∷ drop (place + 1) bits) is)

pub keeps_off : (start end lo place : ℕ) (bits : List Bool) (before now : List KeptBit) → place < length bits → get_or bits place false ≡ false →
    IsKeeping start end lo bits before now place → IsKeeping start end lo bits before now (place + 1)
keeps_off start end lo place bits before now within is k = record {
  kept = ap (λ n. now ++ kept_from start end n (drop (place + 1) bits)) (omega arith) ∙
      (ap (λ l. now ++ l) (sym (next_kept start end lo place bits false within is)) ∙ k.kept);
  inside = k.inside;
}

pub keeps_on : (start end lo place : ℕ) (bits : List Bool) (before now longer : List KeptBit) → start ≤ end → place < length bits → get_or bits place false ≡ true →
    longer ≡ now ++ record { start = start; end = end; bit = lo + place } ∷ [] →
    IsKeeping start end lo bits before now place → IsKeeping start end lo bits before longer (place + 1)
keeps_on start end lo place bits before now longer order within is is_longer k =
    let new : KeptBit = record { start = start; end = end; bit = lo + place } in
    let rest = kept_from start end (lo + place + 1) (drop (place + 1) bits) in
    record {
      kept = ap (λ l. l ++ kept_from start end (lo + (place + 1)) (drop (place + 1) bits)) is_longer ∙
          (ap (λ n. (now ++ new ∷ []) ++ kept_from start end n (drop (place + 1) bits)) (omega arith) ∙
          (append_assoc now (new ∷ []) rest ∙ (ap (λ l. now ++ l) (sym (next_kept start end lo place bits true within is)) ∙ k.kept)));
      inside = λ count low inside. subst (AreInside count) (sym is_longer) (inside_one_more count now new (k.inside count low inside) order low);
    }

pub keeping_ends : (start end lo place : ℕ) (bits : List Bool) (before now : List KeptBit) → drop place bits ≡ [] → IsKeeping start end lo bits before now place →
    now ≡ before ++ kept_from start end lo bits
keeping_ends start end lo place bits before now none k =
    sym (append-nil now) ∙ (ap (λ l. now ++ kept_from start end (lo + place) l) (sym none) ∙ k.kept)

pub inside_at : (n : ℕ) (ks : List KeptBit) (i : ℕ) (k : KeptBit) → AreInside n ks → slice_get ks i ≡ Some k → (k.start ≤ k.end) × (k.end ≤ n)
inside_at n [] zero k inside is = absurd (nothing is)
  where
    nothing : None ≡ Some k → ⊥
    nothing e = cc
inside_at n [] (suc i) k inside is = absurd (nothing is)
  where
    nothing : None ≡ Some k → ⊥
    nothing e = cc
inside_at n (h ∷ ks) zero k inside is =
    let same : h ≡ k = cc in
    (subst (λ x. x.start ≤ x.end) same inside.0, subst (λ x. x.end ≤ n) same inside.1)
inside_at n (h ∷ ks) (suc i) k inside is = inside_at n ks i k inside.2 is

pub got : (names part : List ℕ) (ks : List KeptBit) (i : ℕ) (k : KeptBit) → slice_get ks i ≡ Some k → part ≡ slice_range names k.start k.end →
    slice_get (map (named names) ks) i ≡ Some (with_name k.bit part)
got names part ks i k is is_part =
    slice_get-map (named names) ks i ∙ (ap (option_map (named names)) is ∙ ap (λ t. Some (with_name k.bit t)) (sym is_part))

pub longer_holds : (names name longer : List ℕ) (end : ℕ) → end ≡ length names + length name → longer ≡ names ++ name → (end ≤ length longer) × (length names ≤ length longer)
longer_holds names name longer end is_end is =
    let len : length longer ≡ length names + length name = ap length is ∙ length-append names name in
    (omega (arith, len, is_end), omega (arith, len))

pub ok_in_other_words : {A B : Type 0} (r : Result A B) (P Q : Type 0) → (P → Q) → OnOk r P → OnOk r Q
ok_in_other_words (Ok x) P Q f h = f h
ok_in_other_words (Err e) P Q f h = h

pub not_got : (names : List ℕ) (ks : List KeptBit) (i : ℕ) → None ≡ slice_get ks i → slice_get (map (named names) ks) i ≡ None
not_got names ks i is = slice_get-map (named names) ks i ∙ ap (option_map (named names)) (sym is)
