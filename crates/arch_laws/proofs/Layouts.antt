-- Layouts: their numbers are small, whatever the file says, and their texts are UTF-8 as it is.
use Rattle.std.proofs.Common.{◌≡◌, ◌≤◌, ◌<◌, ◌^◌, ◌-◌, ℕ, Bool, true, false, List, [], ◌∷◌, Option, Some, None, codes, refl, arith, if◌then◌else◌, length}
use Rattle.std.specs.Prelude.{ℤ, IsUtf8}
use Rattle.std.specs.List.{All, flat_map}
use Rattle.std.specs.Option.{option_and_then}
use Rattle.std.specs.Str.{bytes_eq}
use Rattle.std.proofs.lemmas.Str.{IsUtf8-nil}
use Rattle.std.proofs.lemmas.List.Elements.{All-nil, All-cons, All-head, All-tail}
use Rattle.arch_types.specs.declared.arch.Layout.{Layout}
use Rattle.arch_types.specs.declared.arch.Single.{Single}
use Rattle.arch_types.specs.declared.block.Meta.{Meta}
use Rattle.elem_text.specs.declared.elem.Elem.{Elem, out-Elem}
use Rattle.elem_text.specs.Held.{IsUtf8Elem, elements}
use Rattle.elem_attrs.specs.Attributes.{has_tag, attr_of, value_of}
use Rattle.elem_attrs.specs.Numbers.{signed_number}
use Rattle.arch_build.specs.Said.{inside, small_in, zero_or, single_at, said_single, said_layout, said_layouts, said_metas, text_named}
use Rattle.arch_types.specs.Blocks.{IsMeta}
use Rattle.arch_types.specs.Tiles.{IsSingle, IsLayout, AreLayouts}
use Rattle.arch_laws.proofs.Held.{attr_utf8}
use Rattle.arch_laws.proofs.HeldBlocks.{IsHeld, held_kids, one_few, if_few, metas_good}
use Rattle.arch_laws.proofs.Listed.{kids_all, kids_short, listed_all, listed_short}
use Rattle.arch_laws.proofs.Texts.{IsBetween, small_is, zero_or_is, signed_is}

below : (n : ℕ) → n ≤ 4294967295 → n < 2 ^ 32
below n fits = omega (arith, fits)

text_good : (name : List ℕ) (metas : List Meta) → All IsMeta metas → IsUtf8 (text_named name metas)
text_good name [] good = IsUtf8-nil
text_good name (m ∷ metas) good = go (bytes_eq m.name name) (All-head IsMeta m metas good) (text_good name metas (All-tail IsMeta m metas good))
  where
    go : (t : Bool) → IsMeta m → IsUtf8 (text_named name metas) → IsUtf8 (if t then m.text else text_named name metas)
    go true first rest = first.text
    go false first rest = rest

-- what a `single` reads of its numbers
record IsRead (x y : Option ℕ) (p : Option ℤ) : Type 0 where
  x_small : (n : ℕ) → x ≡ Some n → n ≤ 4294967295
  y_small : (n : ℕ) → y ≡ Some n → n ≤ 4294967295
  between : (z : ℤ) → p ≡ Some z → IsBetween (2 ^ 63 - 1) z

single_good : (x y : Option ℕ) (p : Option ℤ) (e : Elem) → IsRead x y p → IsHeld e → All IsSingle (single_at x y p e)
single_good (Some x) (Some y) (Some p) e read held =
    let one : Single = record { tile = attr_of e (codes "type"); x = x; y = y; priority = p; prefix = text_named (codes "fasm_prefix") (said_metas (inside e)) } in
    let between : IsBetween (2 ^ 63 - 1) p = read.between p refl in
    All-cons IsSingle one [] (record {
      tile = attr_utf8 e (codes "type") held.utf8;
      x = below x (read.x_small x refl);
      y = below y (read.y_small y refl);
      least = between.least;
      most = between.most;
      prefix = text_good (codes "fasm_prefix") (said_metas (inside e)) (metas_good (inside e) (held_kids e held)).each;
    }) (All-nil IsSingle)
single_good None y p e read held = All-nil IsSingle
single_good (Some x) None p e read held = All-nil IsSingle
single_good (Some x) (Some y) None e read held = All-nil IsSingle

at_most_one : (x y : Option ℕ) (p : Option ℤ) (e : Elem) → length (single_at x y p e) ≤ 1
at_most_one (Some x) (Some y) (Some p) e = omega arith
at_most_one None y p e = omega arith
at_most_one (Some x) None p e = omega arith
at_most_one (Some x) (Some y) None e = omega arith

module _ (e : Elem) where
  its_x : Option ℕ
  its_x = small_in (out-Elem e).attrs (codes "x")

  its_y : Option ℕ
  its_y = small_in (out-Elem e).attrs (codes "y")

  its_priority : Option ℤ
  its_priority = option_and_then signed_number (value_of (out-Elem e).attrs (codes "priority"))

  one_single : IsHeld e → All IsSingle (said_single e)
  unfolding its_x its_y its_priority
  one_single held = go (has_tag e (codes "single"))
    where
      read : IsRead its_x its_y its_priority
      read = record {
        x_small = small_is (out-Elem e).attrs (codes "x");
        y_small = small_is (out-Elem e).attrs (codes "y");
        between = signed_is (out-Elem e).attrs (codes "priority");
      }

      go : (t : Bool) → All IsSingle (if t then single_at its_x its_y its_priority e else [])
      go false = All-nil IsSingle
      go true = single_good its_x its_y its_priority e read held

  single_few : length (said_single e) ≤ elements e
  unfolding its_x its_y its_priority
  single_few = one_few e (said_single e) (go (has_tag e (codes "single")))
    where
      go : (t : Bool) → length (if t then single_at its_x its_y its_priority e else []) ≤ 1
      go false = omega arith
      go true = at_most_one its_x its_y its_priority e

one_layout : (e : Elem) → IsHeld e → All IsLayout (said_layout e)
one_layout e held = go (has_tag e (codes "fixed_layout"))
  where
    one : Layout
    one = record {
      width = zero_or (small_in (out-Elem e).attrs (codes "width"));
      height = zero_or (small_in (out-Elem e).attrs (codes "height"));
      singles = flat_map said_single (inside e);
    }

    go : (t : Bool) → All IsLayout (if t then one ∷ [] else [])
    go false = All-nil IsLayout
    go true =
        All-cons IsLayout one [] (record {
          width = below one.width (zero_or_is (out-Elem e).attrs (codes "width"));
          height = below one.height (zero_or_is (out-Elem e).attrs (codes "height"));
          singles = kids_all IsSingle said_single one_single e held;
          few = kids_short said_single single_few e held;
        }) (All-nil IsLayout)

layouts_good : (root : Elem) → IsHeld root → AreLayouts (said_layouts root)
layouts_good root held = record {
  each = listed_all (codes "layout") said_layout IsLayout one_layout root held;
  few = listed_short (codes "layout") said_layout (λ e. if_few e (has_tag e (codes "fixed_layout")) _) root held;
}

pub layouts_are : (root : Elem) → IsUtf8Elem root → elements root < 2 ^ 32 → AreLayouts (said_layouts root)
layouts_are root utf8 few = layouts_good root (record { utf8 = utf8; few = few })
