-- The shape of a leaf without broken rules.
use Rattle.std.proofs.Common.{◌≡◌, ◌≤◌, ◌<◌, ◌==◌, ◌⊎◌, ◌++◌, inl, inr, ℕ, Bool, true, false, List, [], ◌∷◌, Option, Some, None, codes, refl, sym, ◌∙◌, ap, subst, arith, suc, if◌then◌else◌, length, take, drop}
use Rattle.std.specs.List.{flat_map}
use Rattle.std.specs.Option.{option_map, option_map_or}
use Rattle.std.specs.Str.{bytes_eq}
use Rattle.std.specs.Str.Parse.{digits_value}
use Rattle.std.proofs.lemmas.Bool.{false≢true, cases_lt}
use Rattle.std.proofs.lemmas.Bool.Decides.{Decides-eqb}
use Rattle.std.proofs.lemmas.Slice.Eq.{bytes_eq-Decides}
use Rattle.arch_types.specs.declared.block.Kind.TheVariants as kind
use Rattle.arch_types.specs.declared.block.Port.{Port}
use Rattle.arch_types.specs.declared.block.Side.{Side}
use Rattle.arch_types.specs.declared.block.Side.TheVariants.{Input, Output, Clock}
use Rattle.arch_types.specs.Preorder.{inside}
use Rattle.elem_text.specs.declared.elem.Elem.{Elem, out-Elem}
use Rattle.arch_build.specs.NamePlaces.{found_place, place_of}
use Rattle.arch_build.specs.Said.{said_port, count_in, leaf_kind}
use Rattle.arch_links.specs.Links.{IsUnknown, model_in}
use Rattle.arch_rules.specs.declared.error.LimitKind.TheVariants.{Inputs, NumPb}
use Rattle.arch_rules.specs.declared.role.Role.{Role}
use Rattle.arch_rules.specs.declared.role.Role.TheVariants as role
use Rattle.arch_rules.specs.Numbers.{SpellsNumber, IsOne}
use Rattle.arch_rules.specs.Elements.{kids_of, how_many, attribute}
use Rattle.arch_rules.specs.Roles.{is_pb_type, counted}
use Rattle.arch_rules.specs.Rules as rules
use Rattle.arch_rules.specs.Rules.{IsShaped, IsLeaf, FitsModel, HasPorts, AreSingle, IsBoxOf, IsLutModel, IsUnsupported, Passes}
use Rattle.arch_rules.specs.Walks.{IsFine}
use Rattle.arch_types.specs.Blocks.{HasOne, HasPin, HasNone, FitsKind, IsInPad, IsOutPad, IsLut, IsLatch}
use Rattle.arch_laws.proofs.Opened.{fits_in_pad, fits_out_pad, fits_lut, fits_latch, fits_cell, inside_in_pad, inside_out_pad, inside_lut, inside_latch, inside_cell}
use Rattle.arch_laws.proofs.Ports.{word_of, port_with}
use Rattle.arch_laws.proofs.Sides.{none_on, IsChild, IsOneOn, one_on}
use Rattle.arch_laws.proofs.Texts.{count_is, count_over}

abbrev pub IsNotNot : Type 0 → Type 0
IsNotNot P = (P → ⊥) → ⊥

-- what can be decided holds where it isn't refused
pub same_number : (a b : ℕ) → IsNotNot (a ≡ b) → a ≡ b
same_number a b twice = go (a == b) refl
  where
    go : (t : Bool) → (a == b) ≡ t → a ≡ b
    go true is = (Decides-eqb a b).0 is
    go false is = absurd (twice (λ same. false≢true (sym is ∙ (Decides-eqb a b).1 same)))

some_text : (s t : List ℕ) → Some s ≡ Some t → s ≡ t
some_text s t same = cc

apart : (a b : List ℕ) → bytes_eq a b ≡ false → a ≡ b → ⊥
apart a b other same = false≢true (sym other ∙ (bytes_eq-Decides a b).1 same)

-- the shape of a pb_type isn't refused
shaped : (r : Role) (Taken : Type 0) (e : Elem) → is_pb_type r ≡ true → IsFine r Taken e → IsNotNot (IsShaped e)
shaped role.Block Taken e is fine other = fine.0.1 (inr other)
shaped role.PbType Taken e is fine other = fine.0.1 other
shaped _ Taken e is fine other = absurd (cc)

counted_pb : (r : Role) → is_pb_type r ≡ true → counted r ≡ Some (codes "num_pb")
counted_pb role.Block is = refl
counted_pb role.PbType is = refl
counted_pb _ is = absurd (cc)

leaf_is : (e : Elem) (text : List ℕ) → attribute e (codes "blif_model") ≡ Some text → IsShaped e → FitsModel e text
leaf_is e text is (inl leaf) = subst (λ t. FitsModel e t) (some_text leaf.0 text (sym leaf.1 ∙ is)) leaf.2.2
leaf_is e text is (inr none) = let lacks = none.0 in absurd (cc)

-- a count that is 1 isn't larger
pub two_counts : (text text' : List ℕ) (n : ℕ) → Some text ≡ Some text' → IsOne text → SpellsNumber text' n → 1 < n → ⊥
two_counts text text' n same one spells over =
    let value : digits_value 10 text' ≡ 1 = subst (λ t. digits_value 10 t ≡ 1) (some_text text text' same) one.value in
    let value' : digits_value 10 text' ≡ n = spells.value in
    omega (arith, value, value', over)

single : (e kid : Elem) (s : Side) → IsChild (kids_of e) (word_of s) kid → IsNotNot (AreSingle e (word_of s)) → count_in (out-Elem kid).attrs (codes "num_pins") ≤ 1
single e kid s child twice = go (cases_lt 1 (count_in (out-Elem kid).attrs (codes "num_pins")))
  where
    go : (1 < count_in (out-Elem kid).attrs (codes "num_pins")) ⊎ (count_in (out-Elem kid).attrs (codes "num_pins") ≤ 1) →
        count_in (out-Elem kid).attrs (codes "num_pins") ≤ 1
    go (inr fits) = fits
    go (inl over) =
        let more = count_over kid (codes "num_pins") 1 (omega arith) over in
        absurd (twice (λ all. let one = all child.place kid child.there child.named in two_counts one.0 more.0 more.2 (sym one.1 ∙ more.1) one.2 more.3 more.4))

exactly_one : (e kid : Elem) (s : Side) → IsChild (kids_of e) (word_of s) kid → IsNotNot (AreSingle e (word_of s)) → count_in (out-Elem kid).attrs (codes "num_pins") ≡ 1
exactly_one e kid s child twice =
    let count = count_is (out-Elem kid).attrs (codes "num_pins") in
    let some = count.some in
    let few = single e kid s child twice in
    omega (arith, some, few)

abbrev ports_of : Elem → List Port
ports_of e = flat_map said_port (kids_of e)

one_pin : (e : Elem) (s : Side) → IsNotNot ((how_many (word_of s) e ≡ 1) × AreSingle e (word_of s)) → HasPin s (ports_of e)
one_pin e s twice =
    let one : IsOneOn s e = one_on s e (same_number (how_many (word_of s) e) 1 (λ other. twice (λ both. other both.0))) in
    record { port = port_with s one.kid; only = one.only; fits = exactly_one e one.kid s one.child (λ other. twice (λ both. other both.1)) }

no_port : (e : Elem) (s : Side) → IsNotNot (how_many (word_of s) e ≡ 0) → HasNone s (ports_of e)
no_port e s twice = none_on s e (same_number (how_many (word_of s) e) 0 twice)

in_pad : (e : Elem) → IsNotNot (rules.IsInPad e) → IsInPad (ports_of e)
in_pad e twice = record {
  inputs = no_port e Input (λ other. twice (λ p. other p.0.inputs_are));
  output = one_pin e Output (λ other. twice (λ p. other (p.0.outputs_are, p.1)));
  clocks = no_port e Clock (λ other. twice (λ p. other p.0.clocks_are));
}

out_pad : (e : Elem) → IsNotNot (rules.IsOutPad e) → IsOutPad (ports_of e)
out_pad e twice = record {
  input = one_pin e Input (λ other. twice (λ p. other (p.0.inputs_are, p.1)));
  outputs = no_port e Output (λ other. twice (λ p. other p.0.outputs_are));
  clocks = no_port e Clock (λ other. twice (λ p. other p.0.clocks_are));
}

latch : (e : Elem) → IsNotNot (rules.IsLatch e) → IsLatch (ports_of e)
latch e twice = record {
  input = one_pin e Input (λ other. twice (λ p. other (p.0.inputs_are, p.1)));
  output = one_pin e Output (λ other. twice (λ p. other (p.0.outputs_are, p.2)));
  clock = one_pin e Clock (λ other. twice (λ p. other (p.0.clocks_are, p.3)));
}

few_inputs : (r : Role) (Taken : Type 0) (e : Elem) → is_pb_type r ≡ true → IsFine r Taken e → IsLutModel e → (how_many (codes "input") e ≡ 1) → HasOne Input (λ width. width ≤ 8) (ports_of e)
few_inputs r Taken e pb fine model is =
    record { port = port_with Input one.kid; only = one.only; fits = go (cases_lt 8 (count_in (out-Elem one.kid).attrs (codes "num_pins"))) }
  where
    one : IsOneOn Input e
    one = one_on Input e is

    go : (8 < count_in (out-Elem one.kid).attrs (codes "num_pins")) ⊎ (count_in (out-Elem one.kid).attrs (codes "num_pins") ≤ 8) →
        count_in (out-Elem one.kid).attrs (codes "num_pins") ≤ 8
    go (inr fits) = fits
    go (inl over) =
        let more = count_over one.kid (codes "num_pins") 8 (omega arith) over in
        absurd (fine.1 Inputs (
          pb,
          λ large. fine.1 NumPb (counted_pb r pb, large),
          model,
          (one.child.place, one.kid, one.child.there, (one.child.named, (more.0, more.1, (more.2, more.3, more.4)))),
        ))

lut : (r : Role) (Taken : Type 0) (e : Elem) → is_pb_type r ≡ true → IsFine r Taken e → IsLutModel e → IsNotNot (rules.IsLut e) → IsLut (ports_of e)
lut r Taken e pb fine model twice = record {
  input = few_inputs r Taken e pb fine model (same_number (how_many (codes "input") e) 1 (λ other. twice (λ p. other p.0.inputs_are)));
  output = one_pin e Output (λ other. twice (λ p. other (p.0.outputs_are, p.1)));
  clocks = no_port e Clock (λ other. twice (λ p. other p.0.clocks_are));
}

no_box : (text word : List ℕ) → IsBoxOf text word → bytes_eq text (codes ".subckt " ++ word) ≡ false → ⊥
no_box text word box other = apart text (codes ".subckt " ++ word) other box.0

as_in_pad : (e : Elem) → FitsModel e (codes ".input") → rules.IsInPad e
as_in_pad e (inl p) = p.1
as_in_pad e (inr (inl p)) = absurd (apart (codes ".input") (codes ".output") refl p.0)
as_in_pad e (inr (inr (inl p))) = absurd (apart (codes ".input") (codes ".names") refl p.0)
as_in_pad e (inr (inr (inr (inl p)))) = absurd (apart (codes ".input") (codes ".latch") refl p.0)
as_in_pad e (inr (inr (inr (inr p)))) = absurd (no_box (codes ".input") p.0 p.1 refl)

as_out_pad : (e : Elem) → FitsModel e (codes ".output") → rules.IsOutPad e
as_out_pad e (inl p) = absurd (apart (codes ".output") (codes ".input") refl p.0)
as_out_pad e (inr (inl p)) = p.1
as_out_pad e (inr (inr (inl p))) = absurd (apart (codes ".output") (codes ".names") refl p.0)
as_out_pad e (inr (inr (inr (inl p)))) = absurd (apart (codes ".output") (codes ".latch") refl p.0)
as_out_pad e (inr (inr (inr (inr p)))) = absurd (no_box (codes ".output") p.0 p.1 refl)

as_lut : (e : Elem) → FitsModel e (codes ".names") → rules.IsLut e
as_lut e (inl p) = absurd (apart (codes ".names") (codes ".input") refl p.0)
as_lut e (inr (inl p)) = absurd (apart (codes ".names") (codes ".output") refl p.0)
as_lut e (inr (inr (inl p))) = p.1
as_lut e (inr (inr (inr (inl p)))) = absurd (apart (codes ".names") (codes ".latch") refl p.0)
as_lut e (inr (inr (inr (inr p)))) = absurd (no_box (codes ".names") p.0 p.1 refl)

as_latch : (e : Elem) → FitsModel e (codes ".latch") → rules.IsLatch e
as_latch e (inl p) = absurd (apart (codes ".latch") (codes ".input") refl p.0)
as_latch e (inr (inl p)) = absurd (apart (codes ".latch") (codes ".output") refl p.0)
as_latch e (inr (inr (inl p))) = absurd (apart (codes ".latch") (codes ".names") refl p.0)
as_latch e (inr (inr (inr (inl p)))) = p.1
as_latch e (inr (inr (inr (inr p)))) = absurd (no_box (codes ".latch") p.0 p.1 refl)

-- `.subckt` and a space stand before the name of a box's model
box_starts : (text word : List ℕ) → text ≡ codes ".subckt " ++ word → bytes_eq (take 8 text) (codes ".subckt ") ≡ true
box_starts text word is = subst (λ t. bytes_eq (take 8 t) (codes ".subckt ") ≡ true) (sym is) refl

as_box : (e : Elem) (text : List ℕ) → bytes_eq text (codes ".input") ≡ false → bytes_eq text (codes ".output") ≡ false →
    bytes_eq text (codes ".names") ≡ false → bytes_eq text (codes ".latch") ≡ false → FitsModel e text → bytes_eq (take 8 text) (codes ".subckt ") ≡ true
as_box e text a b c d (inl p) = absurd (apart text (codes ".input") a p.0)
as_box e text a b c d (inr (inl p)) = absurd (apart text (codes ".output") b p.0)
as_box e text a b c d (inr (inr (inl p))) = absurd (apart text (codes ".names") c p.0)
as_box e text a b c d (inr (inr (inr (inl p)))) = absurd (apart text (codes ".latch") d p.0)
as_box e text a b c d (inr (inr (inr (inr p)))) = box_starts text p.0 p.1.0

same_bool : (b : Bool) → IsNotNot (b ≡ true) → b ≡ true
same_bool true twice = refl
same_bool false twice = absurd (twice false≢true)

found_inside : (names : List (List ℕ)) (name : List ℕ) (place : ℕ) → found_place names name ≡ Some place → place < length names
found_inside [] name place found = absurd (cc)
found_inside (n ∷ names) name place found = go (bytes_eq n name) (found_place names name) found (λ k is. found_inside names name k is)
  where
    go : (b : Bool) (o : Option ℕ) → (if b then Some 0 else option_map suc o) ≡ Some place → ((k : ℕ) → o ≡ Some k → k < length names) → place < suc (length names)
    go true o same later = let first : 0 ≡ place = cc in omega (arith, first)
    go false None same later = absurd (cc)
    go false (Some k) same later = let next : suc k ≡ place = cc in let fits = later k refl in omega (arith, next, fits)

-- the place of a name that stands in the list
pub place_inside : (names : List (List ℕ)) (name : List ℕ) → (IsUnknown names name → ⊥) → place_of names name < length names
place_inside names name known = go (found_place names name) refl
  where
    go : (o : Option ℕ) → found_place names name ≡ o → option_map_or (λ (place : ℕ). place) o (length names) < length names
    go None lost = absurd (known lost)
    go (Some place) found = found_inside names name place found

-- the model of a box is known
abbrev pub KnowsModel : List (List ℕ) → List ℕ → Type 0
KnowsModel models text = (model : List ℕ) → model_in text ≡ Some model → IsUnknown models model → ⊥

named_model : (text : List ℕ) → bytes_eq (take 8 text) (codes ".subckt ") ≡ true → model_in text ≡ Some (drop 8 text)
named_model text is = ap (λ b. if b then Some (drop 8 text) else None) is

pub leaf_fits : (r : Role) (Taken : Type 0) (e : Elem) (models : List (List ℕ)) (name text : List ℕ) → is_pb_type r ≡ true → IsFine r Taken e →
    attribute e (codes "blif_model") ≡ Some text → KnowsModel models text → FitsKind (length models) name (ports_of e) (leaf_kind models text)
leaf_fits r Taken e models name text pb fine is known =
    go (bytes_eq text (codes ".input")) refl (bytes_eq text (codes ".output")) refl (bytes_eq text (codes ".names")) refl (bytes_eq text (codes ".latch")) refl
  where
    by : (P : Type 0) → (FitsModel e text → P) → IsNotNot P
    by P on other = shaped r Taken e pb fine (λ s. other (on (leaf_is e text is s)))

    known_text : (word : List ℕ) → bytes_eq text word ≡ true → text ≡ word
    known_text word same = (bytes_eq-Decides text word).0 same

    go : (a : Bool) → bytes_eq text (codes ".input") ≡ a → (b : Bool) → bytes_eq text (codes ".output") ≡ b →
        (c : Bool) → bytes_eq text (codes ".names") ≡ c → (d : Bool) → bytes_eq text (codes ".latch") ≡ d →
        FitsKind (length models) name (ports_of e)
        (if a then kind.InPad else if b then kind.OutPad else if c then kind.Lut else if d then kind.Latch else kind.Cell (place_of models (drop 8 text)))
    go true at b bt c ct d dt =
        fits_in_pad (length models) name (ports_of e) (in_pad e (by (rules.IsInPad e) (λ f. as_in_pad e (subst (λ t. FitsModel e t) (known_text (codes ".input") at) f))))
    go false at true bt c ct d dt =
        fits_out_pad (length models) name (ports_of e) (out_pad e (by (rules.IsOutPad e) (λ f. as_out_pad e (subst (λ t. FitsModel e t) (known_text (codes ".output") bt) f))))
    go false at false bt true ct d dt =
        fits_lut (length models) name (ports_of e) (lut r Taken e pb fine (is ∙ ap (λ t. Some t) (known_text (codes ".names") ct))
        (by (rules.IsLut e) (λ f. as_lut e (subst (λ t. FitsModel e t) (known_text (codes ".names") ct) f))))
    go false at false bt false ct true dt =
        fits_latch (length models) name (ports_of e) (latch e (by (rules.IsLatch e) (λ f. as_latch e (subst (λ t. FitsModel e t) (known_text (codes ".latch") dt) f))))
    go false at false bt false ct false dt =
        let starts = same_bool (bytes_eq (take 8 text) (codes ".subckt ")) (by (bytes_eq (take 8 text) (codes ".subckt ") ≡ true) (λ f. as_box e text at bt ct dt f)) in
        fits_cell (length models) name (ports_of e) (place_of models (drop 8 text)) (place_inside models (drop 8 text) (known (drop 8 text) (named_model text starts)))

-- nothing stands in a leaf
pub leaf_inside : (models : List (List ℕ)) (text : List ℕ) → inside (leaf_kind models text) ≡ []
leaf_inside models text =
    go (bytes_eq text (codes ".input")) (bytes_eq text (codes ".output")) (bytes_eq text (codes ".names")) (bytes_eq text (codes ".latch"))
  where
    go : (a b c d : Bool) →
        inside (if a then kind.InPad else if b then kind.OutPad else if c then kind.Lut else if d then kind.Latch else kind.Cell (place_of models (drop 8 text))) ≡ []
    go true b c d = inside_in_pad
    go false true c d = inside_out_pad
    go false false true d = inside_lut
    go false false false true = inside_latch
    go false false false false = inside_cell (place_of models (drop 8 text))
