-- The bits of the values that a pattern covers are turned on.
use Rattle.std.proofs.Common.{◌≡◌, ◌≢◌, ◌+◌, ◌*◌, ◌^◌, ◌<◌, ◌≤◌, ◌⊎◌, inl, inr, ℕ, suc, Bool, true, false, List, [], ◌∷◌, ◌++◌, Some, length, length-append, get_or, refl, sym, ap, ◌∙◌, subst, arith}
use Rattle.std.specs.Prelude.{slice_set}
use Rattle.std.specs.List.{AllPass}
use Rattle.std.proofs.lemmas.Bool.Decides.{nat_tests, eqb_tells}
use Rattle.std.proofs.Math.Dec.{eqb}
use Rattle.std.proofs.lemmas.Option.{slice_get_within, slice_get-get_or, get_or_from_slice_get}
use Rattle.std.proofs.lemmas.List.{get_or-set_same, get_or-set_other}
use Rattle.std.proofs.lemmas.List.Elements.{All-nil, All-cons, All-head, All-tail}
use Rattle.std.proofs.Math.Nat.{pow-succ', mul-le-mul_right}
use Rattle.std.proofs.Math.ListN.{length-set}
use Rattle.blif_covers.specs.Rows.{is_literal}
use Rattle.blif_covers.specs.Covers.{StandsFor, bit_of}
use Rattle.blif_covers.specs.Seen.{IsOnAt, index_before, CoversIndex, TurnsOn}
use Rattle.blif_covers.proofs.Covering.{covers_more, covers_less, index_more}

stands_low : (byte : ℕ) (b : Bool) → byte ≡ 48 → StandsFor byte b → b ≡ false
stands_low byte b is (inl e) = absurd (omega arith)
stands_low byte b is (inr (inl e)) = e.1
stands_low byte b is (inr (inr e)) = absurd (omega (arith, e.0))

stands_high : (byte : ℕ) (b : Bool) → byte ≡ 49 → StandsFor byte b → b ≡ true
stands_high byte b is (inl e) = absurd (omega arith)
stands_high byte b is (inr (inl e)) = absurd (omega (arith, e.0))
stands_high byte b is (inr (inr e)) = e.1

-- with the last character fixed to a value
covers_last : (front : List ℕ) (byte : ℕ) (b : Bool) (behind index : ℕ) → StandsFor byte b → CoversIndex front (bit_of b + 2 * behind) index →
    CoversIndex (front ++ byte ∷ []) behind index
covers_last front byte b behind index stands c =
    (c.0 ++ b ∷ [], covers_more front byte c.0 b c.1 stands, c.2 ∙ sym (index_more c.0 b behind))

covers_front : (front : List ℕ) (byte : ℕ) (behind index : ℕ) → CoversIndex (front ++ byte ∷ []) behind index →
    (b : Bool) × StandsFor byte b × CoversIndex front (bit_of b + 2 * behind) index
covers_front front byte behind index c =
    let e = covers_less front byte c.0 c.1 in
    (e.last, e.stands, (e.front, e.covers, c.2 ∙ (ap (λ vs. index_before vs behind) e.spelled ∙ index_more e.front e.last behind)))

-- a character that stands for one value alone
pub turns_one : (pattern front : List ℕ) (byte : ℕ) (b : Bool) (behind base : ℕ) (old new : List Bool) → pattern ≡ front ++ byte ∷ [] → StandsFor byte b →
    ((c : Bool) → StandsFor byte c → c ≡ b) → base ≡ bit_of b + 2 * behind → TurnsOn front base old new → TurnsOn pattern behind old new
turns_one pattern front byte b behind base old new is stands alone base_is t =
    subst (λ p. TurnsOn p behind old new) (sym is) (
    record {
      width = t.width;
      on = λ index. (λ on. forth index ((t.on index).0 on), λ some. (t.on index).1 (back index some));
    }
    )
  where
    forth : (index : ℕ) → IsOnAt old index ⊎ CoversIndex front base index → IsOnAt old index ⊎ CoversIndex (front ++ byte ∷ []) behind index
    forth index (inl on) = inl on
    forth index (inr c) = inr (covers_last front byte b behind index stands (subst (λ n. CoversIndex front n index) base_is c))

    back : (index : ℕ) → IsOnAt old index ⊎ CoversIndex (front ++ byte ∷ []) behind index → IsOnAt old index ⊎ CoversIndex front base index
    back index (inl on) = inl on
    back index (inr c) =
        let f = covers_front front byte behind index c in
        let same = alone f.0 f.1 in
        inr (subst (λ n. CoversIndex front n index) (ap (λ v. bit_of v + 2 * behind) same ∙ sym base_is) f.2)

pub low_alone : (byte : ℕ) → byte ≡ 48 → (c : Bool) → StandsFor byte c → c ≡ false
low_alone byte is c s = stands_low byte c is s

pub high_alone : (byte : ℕ) → byte ≡ 49 → (c : Bool) → StandsFor byte c → c ≡ true
high_alone byte is c s = stands_high byte c is s

-- a character that stands for both
pub turns_both : (pattern front : List ℕ) (byte behind low high : ℕ) (old half new : List Bool) → pattern ≡ front ++ byte ∷ [] → byte ≡ 45 →
    low ≡ 2 * behind → high ≡ 2 * behind + 1 → TurnsOn front low old half → TurnsOn front high half new → TurnsOn pattern behind old new
turns_both pattern front byte behind low high old half new is both low_is high_is t u =
    subst (λ p. TurnsOn p behind old new) (sym is) (
    record {
      width = u.width ∙ t.width;
      on = λ index. (λ on. forth index ((u.on index).0 on), λ some. back index some);
    }
    )
  where
    of_low : (index : ℕ) → CoversIndex front low index → CoversIndex (front ++ byte ∷ []) behind index
    of_low index c = covers_last front byte false behind index (inl both) (subst (λ n. CoversIndex front n index) (omega arith) c)

    of_high : (index : ℕ) → CoversIndex front high index → CoversIndex (front ++ byte ∷ []) behind index
    of_high index c = covers_last front byte true behind index (inl both) (subst (λ n. CoversIndex front n index) (omega arith) c)

    earlier : (index : ℕ) → IsOnAt old index ⊎ CoversIndex front low index → IsOnAt old index ⊎ CoversIndex (front ++ byte ∷ []) behind index
    earlier index (inl on) = inl on
    earlier index (inr c) = inr (of_low index c)

    forth : (index : ℕ) → IsOnAt half index ⊎ CoversIndex front high index → IsOnAt old index ⊎ CoversIndex (front ++ byte ∷ []) behind index
    forth index (inl on) = earlier index ((t.on index).0 on)
    forth index (inr c) = inr (of_high index c)

    of_bit : (index : ℕ) (b : Bool) → CoversIndex front (bit_of b + 2 * behind) index → IsOnAt new index
    of_bit index false c = (u.on index).1 (inl ((t.on index).1 (inr (subst (λ n. CoversIndex front n index) (omega arith) c))))
    of_bit index true c = (u.on index).1 (inr (subst (λ n. CoversIndex front n index) (omega arith) c))

    back : (index : ℕ) → IsOnAt old index ⊎ CoversIndex (front ++ byte ∷ []) behind index → IsOnAt new index
    back index (inl on) = (u.on index).1 (inl ((t.on index).1 (inl on)))
    back index (inr c) =
        let f = covers_front front byte behind index c in
        of_bit index f.0 f.2

pub front_literals : (pattern front : List ℕ) (byte : ℕ) → pattern ≡ front ++ byte ∷ [] → AllPass is_literal pattern → AllPass is_literal front
front_literals pattern front byte is all = go front (subst (AllPass is_literal) is all)
  where
    go : (front : List ℕ) → AllPass is_literal (front ++ byte ∷ []) → AllPass is_literal front
    go [] all = All-nil (λ b. is_literal b ≡ true)
    go (f ∷ front) all =
        All-cons (λ b. is_literal b ≡ true) f front (All-head (λ b. is_literal b ≡ true) f (front ++ byte ∷ []) all)
        (go front (All-tail (λ b. is_literal b ≡ true) f (front ++ byte ∷ []) all))

last_literal : (pattern front : List ℕ) (byte : ℕ) → pattern ≡ front ++ byte ∷ [] → AllPass is_literal pattern → is_literal byte ≡ true
last_literal pattern front byte is all = go front (subst (AllPass is_literal) is all)
  where
    go : (front : List ℕ) → AllPass is_literal (front ++ byte ∷ []) → is_literal byte ≡ true
    go [] all = All-head (λ b. is_literal b ≡ true) byte [] all
    go (f ∷ front) all = go front (All-tail (λ b. is_literal b ≡ true) f (front ++ byte ∷ []) all)

third_literal : (byte : ℕ) → is_literal byte ≡ true → (byte ≡ 48 → ⊥) → (byte ≡ 49 → ⊥) → byte ≡ 45
third_literal byte is a b = grind (arith, nat_tests)

pub is_dash : (pattern front : List ℕ) (byte : ℕ) → pattern ≡ front ++ byte ∷ [] → AllPass is_literal pattern → (byte ≡ 48 → ⊥) → (byte ≡ 49 → ⊥) → byte ≡ 45
is_dash pattern front byte is all a b = third_literal byte (last_literal pattern front byte is all) a b

pub shorter : (pattern front : List ℕ) (byte : ℕ) → pattern ≡ front ++ byte ∷ [] → length pattern ≡ suc (length front)
shorter pattern front byte is = omega (arith, ap length is, length-append front (byte ∷ []))

pub room : (pattern front : List ℕ) (byte behind base width : ℕ) → pattern ≡ front ++ byte ∷ [] → base ≤ 2 * behind + 1 →
    (behind + 1) * 2 ^ length pattern ≤ width → (base + 1) * 2 ^ length front ≤ width
room pattern front byte behind base width is low fits =
    let power : 2 ^ length pattern ≡ 2 * 2 ^ length front = ap (λ n. 2 ^ n) (shorter pattern front byte is) ∙ pow-succ' 2 (length front) in
    let more : (base + 1) * 2 ^ length front ≤ (2 * behind + 2) * 2 ^ length front = mul-le-mul_right (2 ^ length front) (omega arith) in
    let whole : (2 * behind + 2) * 2 ^ length front ≡ (behind + 1) * 2 ^ length pattern = whole_is (2 ^ length front) (2 ^ length pattern) power in
    omega (arith, more, whole, fits)
  where
    whole_is : (f p : ℕ) → p ≡ 2 * f → (2 * behind + 2) * f ≡ (behind + 1) * p
    whole_is f p is = subst (λ q. (2 * behind + 2) * f ≡ (behind + 1) * q) (sym is) (omega arith)

within : (table : List Bool) (index : ℕ) → IsOnAt table index → index < length table
within table index on = slice_get_within table index true on

put_there : (old new : List Bool) (behind index : ℕ) → new ≡ slice_set old behind true → behind < length old → index ≡ behind → IsOnAt new index
put_there old new behind index is inside at =
    let long : length new ≡ length old = ap length is ∙ length-set old behind true in
    let value : get_or new index true ≡ true = ap (λ t. get_or t index true) is ∙ (ap (λ n. get_or (slice_set old behind true) n true) at ∙ get_or-set_same old behind true true inside) in
    slice_get-get_or new index true (omega arith) ∙ ap (λ v. Some v) value

put_elsewhere : (old new : List Bool) (behind index : ℕ) → new ≡ slice_set old behind true → behind < length old → index ≢ behind → IsOnAt new index → IsOnAt old index
put_elsewhere old new behind index is inside apart on =
    let long : length new ≡ length old = ap length is ∙ length-set old behind true in
    let low = within new index on in
    let value : get_or old index true ≡ true = sym (get_or-set_other old behind index true true apart) ∙ (ap (λ t. get_or t index true) (sym is) ∙ get_or_from_slice_get new index true true on) in
    slice_get-get_or old index true (omega arith) ∙ ap (λ v. Some v) value

put_keeps : (old new : List Bool) (behind index : ℕ) → new ≡ slice_set old behind true → behind < length old → IsOnAt old index → IsOnAt new index
put_keeps old new behind index is inside on = at (eqb_tells index behind)
  where
    at : ((eqb index behind ≡ true) × (index ≡ behind)) ⊎ ((eqb index behind ≡ false) × (index ≢ behind)) → IsOnAt new index
    at (inl same) = put_there old new behind index is inside same.1
    at (inr other) =
        let long : length new ≡ length old = ap length is ∙ length-set old behind true in
        let low = within old index on in
        let value : get_or new index true ≡ true = ap (λ t. get_or t index true) is ∙ (get_or-set_other old behind index true true other.1 ∙ get_or_from_slice_get old index true true on) in
        slice_get-get_or new index true (omega arith) ∙ ap (λ v. Some v) value

-- without a character one index is left
pub turns_here : (pattern : List ℕ) (behind : ℕ) (old new : List Bool) → pattern ≡ [] → behind < length old → new ≡ slice_set old behind true → TurnsOn pattern behind old new
turns_here pattern behind old new none inside is =
    subst (λ p. TurnsOn p behind old new) (sym none) (
    record {
      width = ap length is ∙ length-set old behind true;
      on = λ index. (λ on. forth index on, λ some. back index some);
    }
    )
  where
    forth : (index : ℕ) → IsOnAt new index → IsOnAt old index ⊎ CoversIndex [] behind index
    forth index on = at (eqb_tells index behind)
      where
        at : ((eqb index behind ≡ true) × (index ≡ behind)) ⊎ ((eqb index behind ≡ false) × (index ≢ behind)) → IsOnAt old index ⊎ CoversIndex [] behind index
        at (inl same) = inr ([], tt, same.1)
        at (inr other) = inl (put_elsewhere old new behind index is inside other.1 on)

    back : (index : ℕ) → IsOnAt old index ⊎ CoversIndex [] behind index → IsOnAt new index
    back index (inl on) = put_keeps old new behind index is inside on
    back index (inr ([], c, at)) = put_there old new behind index is inside at
    back index (inr (v ∷ values, c, at)) = absurd c

pub no_pattern : (pattern : List ℕ) → length pattern ≡ 0 → (pattern ≡ []) × ((behind width : ℕ) → (behind + 1) * 2 ^ length pattern ≤ width → behind < width)
no_pattern [] none = (refl, λ behind width fits. omega (arith, fits))
no_pattern (b ∷ pattern) none = absurd (omega arith)
