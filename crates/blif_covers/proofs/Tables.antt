-- The table of a cover, from what its rows cover.
use Rattle.std.proofs.Common.{◌≡◌, ◌+◌, ◌^◌, ◌<◌, ◌⊎◌, ◌↔◌, inl, inr, ℕ, zero, suc, Bool, true, false, List, [], ◌∷◌, ◌++◌, Some, MatchOption, IsTrue, length, append_assoc, get_or, set, take, drop, map, refl, sym, ap, ◌∙◌, subst, arith}
use Rattle.std.specs.Prelude.{not, replicate}
use mathlib.Core.Bool.{beq}
use Rattle.std.specs.List.{All}
use Rattle.std.specs.Option.{option_map}
use Rattle.std.proofs.lemmas.List.Elements.{All-nil, All-cons, All-head, All-tail, All-append}
use Rattle.std.proofs.lemmas.Option.{slice_get-map, slice_get-get_or}
use Rattle.std.proofs.lemmas.List.{length-map, map-append, take_more, drop_more, length-take-le}
use Rattle.vtr_base.specs.Lists.{Has}
use Rattle.blif_covers.specs.declared.cover.Cover.{Cover}
use Rattle.blif_covers.specs.Covers.{RowSaid, Covers, IsOn, index_of, IsTableOf}
use Rattle.blif_covers.specs.Seen.{IsOnAt, IsCovered, CoversIndex, TurnsOn, HaveOutput, HoldsRows}
use Rattle.std.specs.Prelude.{slice_get}
use Rattle.blif_covers.proofs.Covering.{index_alone, index_low, one_index, same_length}

has_front : (rows : List RowSaid) (r s : RowSaid) → Has rows s → Has (rows ++ r ∷ []) s
has_front [] r s h = absurd h
has_front (q ∷ rows) r s (inl same) = inl same
has_front (q ∷ rows) r s (inr later) = inr (has_front rows r s later)

has_last : (rows : List RowSaid) (r : RowSaid) → Has (rows ++ r ∷ []) r
has_last [] r = inl refl
has_last (q ∷ rows) r = inr (has_last rows r)

has_either : (rows : List RowSaid) (r s : RowSaid) → Has (rows ++ r ∷ []) s → Has rows s ⊎ (s ≡ r)
has_either [] r s (inl same) = inr same
has_either [] r s (inr none) = absurd none
has_either (q ∷ rows) r s (inl same) = inl (inl same)
has_either (q ∷ rows) r s (inr later) = go (has_either rows r s later)
  where
    go : Has rows s ⊎ (s ≡ r) → Has (q ∷ rows) s ⊎ (s ≡ r)
    go (inl h) = inl (inr h)
    go (inr same) = inr same

all_has : (P : RowSaid → Type 0) (rows : List RowSaid) (r : RowSaid) → All P rows → Has rows r → P r
all_has P [] r all h = absurd h
all_has P (q ∷ rows) r all (inl same) = subst P (sym same) (All-head P q rows all)
all_has P (q ∷ rows) r all (inr later) = all_has P rows r (All-tail P q rows all) later

some_row : (rows : List RowSaid) (r : RowSaid) → rows ++ r ∷ [] ≡ [] → ⊥
some_row [] r e = cc
some_row (q ∷ rows) r e = cc

-- one row more
pub row_added : (rows : List RowSaid) (r : RowSaid) (inputs : ℕ) (old new : List Bool) → length r.pattern ≡ inputs →
    ((values : List Bool) → length values ≡ inputs → IsOnAt old (index_of values) ↔ IsCovered rows values) → TurnsOn r.pattern 0 old new →
    (values : List Bool) → length values ≡ inputs → IsOnAt new (index_of values) ↔ IsCovered (rows ++ r ∷ []) values
row_added rows r inputs old new width on t values many =
    (λ here. forth ((t.on (index_of values)).0 here), λ covered. (t.on (index_of values)).1 (back covered))
  where
    forth : IsOnAt old (index_of values) ⊎ CoversIndex r.pattern 0 (index_of values) → IsCovered (rows ++ r ∷ []) values
    forth (inl before) = let c = (on values many).0 before in (c.0, has_front rows r c.0 c.1, c.2)
    forth (inr c) =
        let same : values ≡ c.0 = one_index values c.0 (omega (arith, many, width, same_length r.pattern c.0 c.1)) (c.2 ∙ index_alone c.0) in
        (r, has_last rows r, subst (Covers r.pattern) (sym same) c.1)

    back : IsCovered (rows ++ r ∷ []) values → IsOnAt old (index_of values) ⊎ CoversIndex r.pattern 0 (index_of values)
    back c = go (has_either rows r c.0 c.1)
      where
        go : Has rows c.0 ⊎ (c.0 ≡ r) → IsOnAt old (index_of values) ⊎ CoversIndex r.pattern 0 (index_of values)
        go (inl before) = inl ((on values many).1 (c.0, before, c.2))
        go (inr same) = inr (values, subst (λ s. Covers s.pattern values) same c.2, sym (index_alone values))

pub output_added : (rows : List RowSaid) (r : RowSaid) → All (λ s. s.output ≡ r.output) rows → HaveOutput (rows ++ r ∷ []) r.output
output_added rows r all =
    (some_row rows r, All-append (λ s. s.output ≡ r.output) rows (r ∷ []) all (All-cons (λ s. s.output ≡ r.output) r [] refl (All-nil (λ s. s.output ≡ r.output))))

-- a table that is off everywhere covers nothing
replicate_off : (count index : ℕ) → IsOnAt (replicate count false) index → ⊥
replicate_off zero index on = cc
replicate_off (suc count) zero on = cc
replicate_off (suc count) (suc index) on = replicate_off count index on

pub none_on : (inputs : ℕ) (table : List Bool) → table ≡ replicate (2 ^ inputs) false → (values : List Bool) → length values ≡ inputs →
    IsOnAt table (index_of values) ↔ IsCovered [] values
none_on inputs table is values many =
    (λ on. absurd (replicate_off (2 ^ inputs) (index_of values) (subst (λ t. IsOnAt t (index_of values)) is on)), λ c. absurd c.1)

-- the output column
pub takes_output : (rows : List RowSaid) (known output : Bool) → HaveOutput rows known → (known ≡ output) ↔ All (λ r. r.output ≡ output) rows
takes_output [] known output h = absurd (h.0 refl)
takes_output (r ∷ rows) known output h = (
  λ same. subst (λ b. All (λ s. s.output ≡ b) (r ∷ rows)) same h.1,
  λ all. sym (All-head (λ s. s.output ≡ known) r rows h.1) ∙ All-head (λ s. s.output ≡ output) r rows all,
)

-- rows with output 1, and no rows
abbrev pub OnWhereCovered : ℕ → List RowSaid → List Bool → Type 0
OnWhereCovered inputs rows table = (values : List Bool) → length values ≡ inputs → IsOnAt table (index_of values) ↔ IsCovered rows values

on_rows : (rows : List RowSaid) (values : List Bool) → HaveOutput rows true → IsCovered rows values ↔ IsOn rows values
on_rows rows values h = (
  λ c. inl (c.0, c.1, all_has (λ r. r.output ≡ true) rows c.0 h.1 c.1, c.2),
  λ on. back on,
)
  where
    clash : (rows : List RowSaid) → (rows ≡ [] → ⊥) → All (λ r. r.output ≡ true) rows → All (λ r. r.output ≡ false) rows → ⊥
    clash [] some on off = some refl
    clash (r ∷ rows) some on off =
        let both : true ≡ false = sym (All-head (λ s. s.output ≡ true) r rows on) ∙ All-head (λ s. s.output ≡ false) r rows off in cc

    back : IsOn rows values → IsCovered rows values
    back (inl c) = (c.0, c.1, c.3)
    back (inr left) = absurd (clash rows left.0 h.1 left.1)

pub table_on : (inputs : ℕ) (rows : List RowSaid) (table : List Bool) → length table ≡ 2 ^ inputs → OnWhereCovered inputs rows table → HaveOutput rows true → IsTableOf inputs rows table
table_on inputs rows table width on h = record {
  width = width;
  says = λ values many.
      (λ here. (on_rows rows values h).0 ((on values many).0 here), λ is. (on values many).1 ((on_rows rows values h).1 is));
}

pub table_none : (inputs : ℕ) (rows : List RowSaid) (table : List Bool) → length table ≡ 2 ^ inputs → OnWhereCovered inputs rows table → rows ≡ [] → IsTableOf inputs rows table
table_none inputs rows table width on none = record {
  width = width;
  says = λ values many. (
    λ here. absurd (subst (λ rs. Has rs ((on values many).0 here).0) none ((on values many).0 here).1),
    λ is. absurd (nothing values is),
  );
}
  where
    nothing : (values : List Bool) → IsOn rows values → ⊥
    nothing values (inl c) = subst (λ rs. Has rs c.0) none c.1
    nothing values (inr left) = left.0 none

-- rows with output 0
on_or_off : (table : List Bool) (index : ℕ) → index < length table → IsOnAt (map not table) index ↔ (IsOnAt table index → ⊥)
on_or_off table index inside = go (get_or table index false) (slice_get-get_or table index false inside)
  where
    go : (b : Bool) → slice_get table index ≡ Some b → IsOnAt (map not table) index ↔ (IsOnAt table index → ⊥)
    go true at = (
      λ inverted. λ on. off_of inverted at,
      λ off. absurd (off at),
    )
      where
        off_of : IsOnAt (map not table) index → slice_get table index ≡ Some true → ⊥
        off_of inverted on = let e : Some false ≡ Some true = ap (option_map not) (sym on) ∙ (sym (slice_get-map not table index) ∙ inverted) in cc
    go false at = (
      λ inverted. λ on. let e : Some false ≡ Some true = sym at ∙ on in cc,
      λ off. slice_get-map not table index ∙ ap (option_map not) at,
    )

pub table_off : (inputs : ℕ) (rows : List RowSaid) (table new : List Bool) → length table ≡ 2 ^ inputs → OnWhereCovered inputs rows table → HaveOutput rows false → new ≡ map not table →
    IsTableOf inputs rows new
table_off inputs rows table new width on h is = record {
  width = ap length is ∙ (length-map table not ∙ width);
  says = λ values many. (λ here. inr (h.0, h.1, forth values many here), λ on. back values many on);
}
  where
    inside : (values : List Bool) → length values ≡ inputs → index_of values < length table
    inside values many = subst (λ n. index_of values < n) (ap (λ n. 2 ^ n) many ∙ sym width) (index_low values)

    forth : (values : List Bool) → length values ≡ inputs → IsOnAt new (index_of values) → (r : RowSaid) → Has rows r → Covers r.pattern values → ⊥
    forth values many here r has covers =
        (on_or_off table (index_of values) (inside values many)).0 (subst (λ t. IsOnAt t (index_of values)) is here) ((on values many).1 (r, has, covers))

    clash : (b : Bool) → b ≡ true → b ≡ false → ⊥
    clash b on off = cc

    back : (values : List Bool) → length values ≡ inputs → IsOn rows values → IsOnAt new (index_of values)
    back values many (inl c) = absurd (clash c.0.output c.2 (all_has (λ r. r.output ≡ false) rows c.0 h.1 c.1))
    back values many (inr left) =
        subst (λ t. IsOnAt t (index_of values)) (sym is)
        ((on_or_off table (index_of values) (inside values many)).1 (λ covered. let c = (on values many).0 covered in left.2 c.0 c.1 c.2))

-- bit by bit, a table is turned round
set_seam : (a r : List Bool) (x v : Bool) → set (a ++ x ∷ r) (length a) v ≡ a ++ v ∷ r
set_seam [] r x v = refl
set_seam (b ∷ a) r x v = ap (λ l. b ∷ l) (set_seam a r x v)

pub turned : (old table new : List Bool) (index : ℕ) (on : Bool) → index < length old → table ≡ map not (take index old) ++ drop index old →
    slice_get table index ≡ Some on → new ≡ set table index (not on) → new ≡ map not (take (index + 1) old) ++ drop (index + 1) old
turned old table new index on inside is at put =
    let x = get_or old index false in
    let rest = drop (index + 1) old in
    let front = map not (take index old) in
    let long : length front ≡ index = length-map (take index old) not ∙ length-take-le index old (omega arith) in
    let seen : table ≡ front ++ x ∷ rest = is ∙ ap (λ l. front ++ l) (drop_more old index false inside) in
    let here : slice_get table index ≡ Some x = ap (λ t. slice_get t index) seen ∙ (ap (λ n. slice_get (front ++ x ∷ rest) n) (sym long) ∙ at_seam front rest x) in
    let value : x ≡ on = let e : Some x ≡ Some on = sym here ∙ at in cc in
    let written : new ≡ front ++ not on ∷ rest =
    put ∙ (ap (λ t. set t index (not on)) seen ∙ (ap (λ n. set (front ++ x ∷ rest) n (not on)) (sym long) ∙ set_seam front rest x (not on))) in
    let taken : map not (take (index + 1) old) ≡ front ++ not x ∷ [] = ap (map not) (take_more old index false inside) ∙ map-append not (take index old) (x ∷ []) in
    written ∙ (ap (λ b. front ++ not b ∷ rest) (sym value) ∙ (sym (append_assoc front (not x ∷ []) rest) ∙ ap (λ l. l ++ rest) (sym taken)))
  where
    at_seam : (a r : List Bool) (x : Bool) → slice_get (a ++ x ∷ r) (length a) ≡ Some x
    at_seam [] r x = refl
    at_seam (b ∷ a) r x = at_seam a r x

pub held_more : (rows : List RowSaid) (r : RowSaid) (before after : Cover) → length r.pattern ≡ before.inputs → after.inputs ≡ before.inputs →
    TurnsOn r.pattern 0 before.covered after.covered → after.output ≡ Some r.output → HoldsRows rows before → All (λ s. s.output ≡ r.output) rows →
    HoldsRows (rows ++ r ∷ []) after
held_more rows r before after width same t output holds all = record {
  on = λ values many. row_added rows r before.inputs before.covered after.covered width holds.on t values (many ∙ same);
  output = subst (λ o. MatchOption o (rows ++ r ∷ [] ≡ []) (HaveOutput (rows ++ r ∷ []))) (sym output) (output_added rows r all);
}

pub known_output : (rows : List RowSaid) (c : Cover) (output : Bool) → c.output ≡ Some output → HoldsRows rows c → HaveOutput rows output
known_output rows c output is holds = subst (λ o. MatchOption o (rows ≡ []) (HaveOutput rows)) is holds.output

pub takes_known : (rows : List RowSaid) (known output : Bool) → HaveOutput rows known → IsTrue (beq known output) ↔ All (λ r. r.output ≡ output) rows
takes_known rows known output h = go known output (takes_output rows known output h)
  where
    go : (a b : Bool) → (a ≡ b) ↔ All (λ r. r.output ≡ output) rows → IsTrue (beq a b) ↔ All (λ r. r.output ≡ output) rows
    go true true i = (λ _. i.0 refl, λ _. refl)
    go false false i = (λ _. i.0 refl, λ _. refl)
    go true false i = (λ t. cc, λ all. let e : true ≡ false = i.1 all in cc)
    go false true i = (λ t. cc, λ all. let e : false ≡ true = i.1 all in cc)
