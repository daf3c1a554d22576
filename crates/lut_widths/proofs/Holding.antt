-- The LUTs that a pb_type holds, by its kind.
use Rattle.std.proofs.Common.{◌≡◌, ◌<◌, ◌⊎◌, ◌↔◌, inl, inr, ℕ, List, [], ◌∷◌, Some, slice_get, Bool, true, false, IsTrue, sym, ap, ◌∙◌, subst, rules, arith}
use Rattle.list_laws.proofs.Members.{has_at, at_has}
use Rattle.arch_types.specs.declared.block.PbType.{PbType}
use Rattle.arch_types.specs.declared.block.Kind.{Kind, out-Kind}
use Rattle.arch_types.specs.declared.block.Kind.TheVariants.{InPad, OutPad, Lut, Latch, Cell, Modes}
use Rattle.arch_types.specs.declared.block.Kind.TheViews.{the_lemmas}
use Rattle.arch_types.specs.declared.block.Mode.{Mode}
use Rattle.arch_types.specs.declared.block.Meta.{Meta}
use Rattle.meta_said.specs.Owners.{HoldsLuts}
use Rattle.arch_types.specs.Address.{Hop, Address}
use Rattle.arch_types.specs.Tree.{modes_of, kids_of, metas_of}
use Rattle.lut_widths.specs.declared.sizes.LutSizes.{LutSizes}
use Rattle.lut_widths.specs.declared.sizes.LutSizes.TheVariants.{NoLut}
use Rattle.lut_widths.specs.Held.{HasInputs, IsOpenChild, IsHeldAt, HoldsLut}
use Rattle.lut_widths.specs.Sizes.{AreSizes, AtSome, InChild, InMode}
use Rattle.lut_widths.proofs.Deciding.{untrue}
use Rattle.lut_widths.proofs.Sizing.{sizes_alike}

-- the modes of a kind

pub modes_are : (kind : Kind) (modes : List Mode) → kind ≡ Modes modes → modes_of kind ≡ modes
unfolding out-Kind denote.Hole.Carrier.out
modes_are kind modes is = search (rules, the_lemmas, is)

pub data IsLeafKind (kind : Kind) : Type 0 where
  in_pad : kind ≡ InPad → IsLeafKind kind
  out_pad : kind ≡ OutPad → IsLeafKind kind
  lut : kind ≡ Lut → IsLeafKind kind
  latch : kind ≡ Latch → IsLeafKind kind
  cell : (model : ℕ) → kind ≡ Cell model → IsLeafKind kind

pub no_modes : (kind : Kind) → IsLeafKind kind → modes_of kind ≡ []
unfolding out-Kind denote.Hole.Carrier.out
no_modes kind (in_pad is) = search (rules, the_lemmas, is)
no_modes kind (out_pad is) = search (rules, the_lemmas, is)
no_modes kind (lut is) = search (rules, the_lemmas, is)
no_modes kind (latch is) = search (rules, the_lemmas, is)
no_modes kind (cell model is) = search (rules, the_lemmas, is)

pub not_lut : (kind : Kind) (modes : List Mode) → kind ≡ Modes modes → kind ≡ Lut → ⊥
not_lut kind modes is also = cc

-- no modes to step into
no_step : (block : PbType) (number : ℕ) (mode : Mode) → IsLeafKind block.kind → slice_get (modes_of block.kind) number ≡ Some mode → ⊥
no_step block number mode leaf there =
    let none : slice_get [] number ≡ Some mode = ap (λ (ms : List Mode). slice_get ms number) (sym (no_modes block.kind leaf)) ∙ there in
    absurd (cc)

-- a leaf that is no LUT
pub leaf_holds_none : (block : PbType) → IsLeafKind block.kind → (block.kind ≡ Lut → ⊥) → AreSizes (HoldsLut block) NoLut
leaf_holds_none block leaf other k holds = by holds.0 holds.1
  where
    by : (hops : Address) → IsHeldAt block hops k → ⊥
    by [] is = other is.lut
    by (hop ∷ hops) is = no_step block hop.mode is.0 leaf is.1.there

-- a LUT
pub lut_holds_itself : (block : PbType) (s : LutSizes) → block.kind ≡ Lut → AreSizes (λ k. HasInputs block.ports k) s → AreSizes (HoldsLut block) s
lut_holds_itself block s is sizes = sizes_alike (λ k. HasInputs block.ports k) (HoldsLut block) (λ k. (λ inputs. ([], record { lut = is; inputs = inputs }), λ holds. by k holds.0 holds.1)) s sizes
  where
    by : (k : ℕ) (hops : Address) → IsHeldAt block hops k → HasInputs block.ports k
    by k [] own = own.inputs
    by k (hop ∷ hops) own = absurd (no_step block hop.mode own.0 (lut is) own.1.there)

-- a block with modes

abbrev hop_to : ℕ → ℕ → ℕ → Hop
hop_to mode child instance = record { mode = mode; child = child; instance = instance }

-- a child's LUT stands in each of its instances
pub in_mode_some : (mode : Mode) (k : ℕ) → AtSome InChild (kids_of mode) k → (child : ℕ) × ((kid : PbType) × IsOpenChild mode child 0 kid × HoldsLut kid k)
in_mode_some mode k some =
    let at = at_has (kids_of mode) some.item some.among in
    (at.0, (some.item, record { there = at.1; inside = some.holds.some; bare = some.holds.bare }, some.holds.holds))

pub open_child_in : (mode : Mode) (child instance k : ℕ) (kid : PbType) → IsOpenChild mode child instance kid → HoldsLut kid k → InChild kid k
open_child_in mode child instance k kid opens holds = record { some = omega (arith, opens.inside); bare = opens.bare; holds = holds }

pub modes_hold : (block : PbType) (modes : List Mode) (s : LutSizes) → block.kind ≡ Modes modes → AreSizes (AtSome InMode modes) s → AreSizes (HoldsLut block) s
modes_hold block modes s is sizes = sizes_alike (AtSome InMode modes) (HoldsLut block) (λ k. (forth k, λ holds. back k holds.0 holds.1)) s sizes
  where
    are : modes_of block.kind ≡ modes
    are = modes_are block.kind modes is

    forth : (k : ℕ) → AtSome InMode modes k → HoldsLut block k
    forth k some =
        let at = at_has modes some.item some.among in
        let below = in_mode_some some.item k some.holds.holds in (
          hop_to at.0 below.0 0 ∷ below.1.2.0,
          (
            some.item,
            record { there = subst (λ (ms : List Mode). slice_get ms at.0 ≡ Some some.item) (sym are) at.1; bare = some.holds.bare },
            (below.1.0, below.1.1, below.1.2.1),
          ),
        )

    back : (k : ℕ) (hops : Address) → IsHeldAt block hops k → AtSome InMode modes k
    back k [] own = absurd (not_lut block.kind modes is own.lut)
    back k (hop ∷ hops) held =
        let mode = held.0 in
        let kid = held.2.0 in
        record {
          item = mode;
          among = has_at modes hop.mode mode (subst (λ (ms : List Mode). slice_get ms hop.mode ≡ Some mode) are held.1.there);
          holds = record {
            bare = held.1.bare;
            holds = record {
              item = kid;
              among = has_at (kids_of mode) hop.child kid held.2.1.there;
              holds = open_child_in mode hop.child hop.instance k kid held.2.1 (hops, held.2.2);
            };
          };
        }

-- the leaves that are no LUTs
abbrev pub IsOther : Kind → Type 0
IsOther kind = (kind ≡ InPad) ⊎ ((kind ≡ OutPad) ⊎ ((kind ≡ Latch) ⊎ ((model : ℕ) × (kind ≡ Cell model))))

pub other_holds_none : (block : PbType) → IsOther block.kind → AreSizes (HoldsLut block) NoLut
other_holds_none block (inl is) = leaf_holds_none block (in_pad is) (λ also. cc)
other_holds_none block (inr (inl is)) = leaf_holds_none block (out_pad is) (λ also. cc)
other_holds_none block (inr (inr (inl is))) = leaf_holds_none block (latch is) (λ also. cc)
other_holds_none block (inr (inr (inr is))) = leaf_holds_none block (cell is.0 is.1) (λ also. let model = is.1 in cc)

-- a child and a mode, where a test says whether they hold LUTs

pub child_holds : (kid : PbType) (metas : List Meta) (test : Bool) (s : LutSizes) → metas ≡ kid.metas → IsTrue test ↔ HoldsLuts metas → test ≡ false → 0 < kid.count → AreSizes (HoldsLut kid) s →
    AreSizes (InChild kid) s
child_holds kid metas test s are is unheld some sizes = sizes_alike (HoldsLut kid) (InChild kid) (λ k. (λ holds. record { some = some; bare = bare; holds = holds }, λ c. c.holds)) s sizes
  where
    bare : HoldsLuts kid.metas → ⊥
    bare holds = untrue test unheld (is.1 (subst HoldsLuts (sym are) holds))

pub child_holds_none : (kid : PbType) (metas : List Meta) (test : Bool) → metas ≡ kid.metas → IsTrue test ↔ HoldsLuts metas → test ≡ true → AreSizes (InChild kid) NoLut
child_holds_none kid metas test are is held k c = c.bare (subst HoldsLuts are (is.0 held))

pub no_instance : (kid : PbType) → kid.count ≡ 0 → AreSizes (InChild kid) NoLut
no_instance kid none k c = let some = c.some in absurd (omega (arith, some, none))

pub mode_holds : (mode : Mode) (metas : List Meta) (kids : List PbType) (test : Bool) (s : LutSizes) → metas ≡ metas_of mode → IsTrue test ↔ HoldsLuts metas → test ≡ false → kids ≡ kids_of mode →
    AreSizes (AtSome InChild kids) s → AreSizes (InMode mode) s
mode_holds mode metas kids test s are is unheld all sizes =
    sizes_alike (AtSome InChild (kids_of mode)) (InMode mode) (λ k. (λ holds. record { bare = bare; holds = holds }, λ m. m.holds)) s (subst (λ (l : List PbType). AreSizes (AtSome InChild l) s) all sizes)
  where
    bare : HoldsLuts (metas_of mode) → ⊥
    bare holds = untrue test unheld (is.1 (subst HoldsLuts (sym are) holds))

pub mode_holds_none : (mode : Mode) (metas : List Meta) (test : Bool) → metas ≡ metas_of mode → IsTrue test ↔ HoldsLuts metas → test ≡ true → AreSizes (InMode mode) NoLut
mode_holds_none mode metas test are is held k m = m.bare (subst HoldsLuts are (is.0 held))
