-- The lines that LUTs use, by the owner that holds them.
use Rattle.std.proofs.Common.{◌≡◌, ◌^◌, ◌⊎◌, ◌↔◌, inl, inr, ℕ, List, [], ◌∷◌, Option, Some, None, MatchOption, slice_get, refl, sym, ap, ◌∙◌, subst, arith}
use Rattle.list_laws.proofs.Members.{has_at, at_has}
use Rattle.arch_types.specs.declared.block.PbType.{PbType}
use Rattle.arch_types.specs.declared.block.Kind.{Kind}
use Rattle.arch_types.specs.declared.block.Kind.TheVariants.{InPad, OutPad, Lut, Latch, Cell, Modes}
use Rattle.arch_types.specs.declared.block.Mode.{Mode}
use Rattle.arch_types.specs.Address.{Hop, Address}
use Rattle.arch_types.specs.Tree.{modes_of, kids_of}
use Rattle.meta_lines.specs.declared.types.Field.{Field}
use Rattle.meta_lines.specs.declared.types.LineField.{LineField}
use Rattle.meta_lines.specs.declared.types.ChildField.{ChildField}
use Rattle.meta_said.specs.declared.types.LutFields.{LutFields}
use Rattle.meta_said.specs.declared.types.LutFields.TheVariants.{One, Children}
use Rattle.lut_widths.specs.declared.sizes.LutSizes.{LutSizes}
use Rattle.lut_widths.specs.Held.{IsHeldAt, HoldsLut, HoldsInMode, HoldsInside}
use Rattle.lut_widths.specs.Fields.{UsesOfMode, UsesOfPbType, Misfits, IsLeast, width_of}
use Rattle.lut_widths.specs.Sizes.{AreSizes, AtSome, InChild, SizesMisfit}
use Rattle.lut_widths.specs.Tables.{StandsIn, AreOpenKids, UsesOfLines}
use Rattle.lut_widths.proofs.Deciding.{least_alike}
use Rattle.lut_widths.proofs.Sizing.{misfit_of}
use Rattle.lut_widths.proofs.Holding.{IsLeafKind, in_pad, out_pad, lut, latch, cell, no_modes, modes_are, in_mode_some, open_child_in}

-- the one line, where it misfits
only_least : (N : Type 0) (line : ℕ) (found : Option ℕ) → MatchOption found (N → ⊥) (λ l. (l ≡ line) × N) → IsLeast (λ n. (n ≡ line) × N) found
only_least N line None none = λ n at. none at.1
only_least N line (Some l) is = (is, λ m at. omega (arith, is.0, at.0))

-- one field for all LUTs of some sizes
module _ (Holds : ℕ → Type 0) (Uses : ℕ → Field → ℕ → Type 0) (f : LineField) where
  pub one_least : ((line : ℕ) (field : Field) (k : ℕ) → Uses line field k ↔ (Holds k × ((f.line ≡ line) × (f.field ≡ field)))) → (s : LutSizes) (found : Option ℕ) →
      AreSizes Holds s → MatchOption found (SizesMisfit s (width_of f.field) → ⊥) (λ l. (l ≡ f.line) × SizesMisfit s (width_of f.field)) → IsLeast (Misfits Uses) found
  one_least same s found sizes is =
      least_alike (λ n. (n ≡ f.line) × SizesMisfit s (width_of f.field)) (Misfits Uses) (λ n. (forth n, back n)) found (only_least (SizesMisfit s (width_of f.field)) f.line found is)
    where
      of : SizesMisfit s (width_of f.field) ↔ ((k : ℕ) × Holds k × (width_of f.field ≡ 2 ^ k → ⊥))
      of = misfit_of Holds s (width_of f.field) sizes

      forth : (n : ℕ) → ((n ≡ f.line) × SizesMisfit s (width_of f.field)) → Misfits Uses n
      forth n at =
          let some = of.0 at.1 in
          record { field = f.field; inputs = some.0; uses = (same n f.field some.0).1 (some.1, (sym at.0, refl)); other = some.2 }

      back : (n : ℕ) → Misfits Uses n → (n ≡ f.line) × SizesMisfit s (width_of f.field)
      back n m =
          let u = (same n m.field m.inputs).0 m.uses in
          (sym u.1.0, of.1 (m.inputs, u.0, λ fits. m.other (ap width_of (sym u.1.1) ∙ fits)))

-- a pb_type

held_inside : (block : PbType) (k : ℕ) (hop : Hop) (hops : Address) → IsHeldAt block (hop ∷ hops) k → (name : List ℕ) × ((i : ℕ) × HoldsInside block name i k)
held_inside block k hop hops held =
    let kid = held.2.0 in (
      kid.name,
      (
        hop.instance,
        record {
          number = hop.mode;
          mode = held.0;
          opens = held.1;
          holds = record { child = hop.child; kid = kid; opens = held.2.1; named = refl; holds = (hops, held.2.2) };
        },
      ),
    )

inside_held : (block : PbType) (k : ℕ) (name : List ℕ) (i : ℕ) → HoldsInside block name i k → HoldsLut block k
inside_held block k name i inside =
    let h = inside.holds in
    let hop : Hop = record { mode = inside.number; child = h.child; instance = i } in
    (hop ∷ h.holds.0, (inside.mode, inside.opens, (h.kid, h.opens, h.holds.1)))

pub one_uses : (block : PbType) (f : LineField) (line : ℕ) (field : Field) (k : ℕ) → UsesOfPbType block (One f) line field k ↔ (HoldsLut block k × ((f.line ≡ line) × (f.field ≡ field)))
one_uses block f line field k = (forth, λ held. back held.0.0 held.0.1 held.1)
  where
    forth : UsesOfPbType block (One f) line field k → HoldsLut block k × ((f.line ≡ line) × (f.field ≡ field))
    forth (inl own) = (([], own.0), own.1)
    forth (inr u) = (inside_held block k u.0 u.1.0 u.1.1, u.1.2)

    back : (hops : Address) → IsHeldAt block hops k → (f.line ≡ line) × (f.field ≡ field) → UsesOfPbType block (One f) line field k
    back [] own is = inl (own, is)
    back (hop ∷ hops) held is = let h = held_inside block k hop hops held in inr (h.0, (h.1.0, h.1.1, is))

-- fields by child, where the children of open modes are listed
pub children_uses : (block : PbType) (modes : List Mode) (kids : List PbType) (lines : List ChildField) → block.kind ≡ Modes modes → AreOpenKids modes kids → (n : ℕ) →
    Misfits (UsesOfLines kids lines) n ↔ Misfits (UsesOfPbType block (Children lines)) n
children_uses block modes kids lines is are n = (forth, back)
  where
    same : modes_of block.kind ≡ modes
    same = modes_are block.kind modes is

    stands : (name : List ℕ) (i k : ℕ) → HoldsInside block name i k → StandsIn kids name k i
    stands name i k inside =
        let h = inside.holds in
        record {
          kid = h.kid;
          among = (are h.kid).1 (
            inside.mode,
            has_at modes inside.number inside.mode (subst (λ (ms : List Mode). slice_get ms inside.number ≡ Some inside.mode) same inside.opens.there),
            record { bare = inside.opens.bare; among = has_at (kids_of inside.mode) h.child h.kid h.opens.there },
          );
          named = h.named;
          inside = h.opens.inside;
          holds = open_child_in inside.mode h.child i k h.kid h.opens h.holds;
        }

    holds : (name : List ℕ) (i k : ℕ) → StandsIn kids name k i → HoldsInside block name i k
    holds name i k st =
        let o = (are st.kid).0 st.among in
        let at = at_has modes o.0 o.1 in
        let child = at_has (kids_of o.0) st.kid o.2.among in
        record {
          number = at.0;
          mode = o.0;
          opens = record { there = subst (λ (ms : List Mode). slice_get ms at.0 ≡ Some o.0) (sym same) at.1; bare = o.2.bare };
          holds = record {
            child = child.0;
            kid = st.kid;
            opens = record { there = child.1; inside = st.inside; bare = st.holds.bare };
            named = st.named;
            holds = st.holds.holds;
          };
        }

    forth : Misfits (UsesOfLines kids lines) n → Misfits (UsesOfPbType block (Children lines)) n
    forth m = let u = m.uses in record { field = m.field; inputs = m.inputs; uses = inr (u.0, (u.1.0, holds u.0 u.1.0 m.inputs u.1.1, u.1.2)); other = m.other }

    at : (field : Field) (k : ℕ) → UsesOfPbType block (Children lines) n field k → UsesOfLines kids lines n field k
    at field k (inl own) = absurd own.1
    at field k (inr u) = (u.0, (u.1.0, stands u.0 u.1.0 k u.1.1, u.1.2))

    back : Misfits (UsesOfPbType block (Children lines)) n → Misfits (UsesOfLines kids lines) n
    back m = record { field = m.field; inputs = m.inputs; uses = at m.field m.inputs m.uses; other = m.other }

-- fields by child of a leaf: it uses none of them
pub leaf_fits : (block : PbType) (lines : List ChildField) → IsLeafKind block.kind → IsLeast (Misfits (UsesOfPbType block (Children lines))) None
leaf_fits block lines leaf n m = by m.uses
  where
    nothing : (number : ℕ) (mode : Mode) → slice_get [] number ≡ Some mode → ⊥
    nothing number mode e = cc

    by : UsesOfPbType block (Children lines) n m.field m.inputs → ⊥
    by (inl own) = own.1
    by (inr u) = let o = u.1.1 in nothing o.number o.mode (ap (λ (ms : List Mode). slice_get ms o.number) (sym (no_modes block.kind leaf)) ∙ o.opens.there)

abbrev IsLeafIn : Kind → Type 0
IsLeafIn kind = (kind ≡ InPad) ⊎ ((kind ≡ OutPad) ⊎ ((kind ≡ Lut) ⊎ ((kind ≡ Latch) ⊎ ((model : ℕ) × (kind ≡ Cell model)))))

leaf_kind : (kind : Kind) → IsLeafIn kind → IsLeafKind kind
leaf_kind kind (inl is) = in_pad is
leaf_kind kind (inr (inl is)) = out_pad is
leaf_kind kind (inr (inr (inl is))) = lut is
leaf_kind kind (inr (inr (inr (inl is)))) = latch is
leaf_kind kind (inr (inr (inr (inr is)))) = cell is.0 is.1

pub leaf_default : (block : PbType) (fields : LutFields) (lines : List ChildField) → fields ≡ Children lines → IsLeafIn block.kind → IsLeast (Misfits (UsesOfPbType block fields)) None
leaf_default block fields lines is leaf = subst (λ (f : LutFields). IsLeast (Misfits (UsesOfPbType block f)) None) (sym is) (leaf_fits block lines (leaf_kind block.kind leaf))

-- a mode

pub one_mode_uses : (mode : Mode) (f : LineField) (line : ℕ) (field : Field) (k : ℕ) →
    UsesOfMode mode (One f) line field k ↔ (AtSome InChild (kids_of mode) k × ((f.line ≡ line) × (f.field ≡ field)))
one_mode_uses mode f line field k = (forth, back)
  where
    forth : UsesOfMode mode (One f) line field k → AtSome InChild (kids_of mode) k × ((f.line ≡ line) × (f.field ≡ field))
    forth u =
        let h = u.1.1 in
        (record { item = h.kid; among = has_at (kids_of mode) h.child h.kid h.opens.there; holds = open_child_in mode h.child u.1.0 k h.kid h.opens h.holds }, u.1.2)

    back : AtSome InChild (kids_of mode) k × ((f.line ≡ line) × (f.field ≡ field)) → UsesOfMode mode (One f) line field k
    back some =
        let at = in_mode_some mode k some.0 in
        (at.1.0.name, (0, record { child = at.0; kid = at.1.0; opens = at.1.1; named = refl; holds = at.1.2 }, some.1))

pub children_mode_uses : (mode : Mode) (lines : List ChildField) (n : ℕ) → Misfits (UsesOfLines (kids_of mode) lines) n ↔ Misfits (UsesOfMode mode (Children lines)) n
children_mode_uses mode lines n = (forth, back)
  where
    stands : (name : List ℕ) (i k : ℕ) → HoldsInMode mode name i k → StandsIn (kids_of mode) name k i
    stands name i k h = record {
      kid = h.kid;
      among = has_at (kids_of mode) h.child h.kid h.opens.there;
      named = h.named;
      inside = h.opens.inside;
      holds = open_child_in mode h.child i k h.kid h.opens h.holds;
    }

    holds : (name : List ℕ) (i k : ℕ) → StandsIn (kids_of mode) name k i → HoldsInMode mode name i k
    holds name i k st =
        let child = at_has (kids_of mode) st.kid st.among in
        record { child = child.0; kid = st.kid; opens = record { there = child.1; inside = st.inside; bare = st.holds.bare }; named = st.named; holds = st.holds.holds }

    forth : Misfits (UsesOfLines (kids_of mode) lines) n → Misfits (UsesOfMode mode (Children lines)) n
    forth m = let u = m.uses in record { field = m.field; inputs = m.inputs; uses = (u.0, (u.1.0, holds u.0 u.1.0 m.inputs u.1.1, u.1.2)); other = m.other }

    back : Misfits (UsesOfMode mode (Children lines)) n → Misfits (UsesOfLines (kids_of mode) lines) n
    back m = let u = m.uses in record { field = m.field; inputs = m.inputs; uses = (u.0, (u.1.0, stands u.0 u.1.0 m.inputs u.1.1, u.1.2)); other = m.other }
