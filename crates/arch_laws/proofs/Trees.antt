-- pb_types and modes of elements without broken rules.
use lib.Utf8.{encode}
use Rattle.std.proofs.Common.{◌≡◌, ◌≤◌, inl, inr, ℕ, Bool, true, false, List, [], ◌∷◌, ◌++◌, Option, Some, None, codes, refl, sym, ◌∙◌, ap, subst, arith, if◌then◌else◌, map, length, IsUtf8}
use Rattle.std.specs.List.{All, flat_map}
use Rattle.std.proofs.lemmas.List.Elements.{All-nil, All-cons, All-append, All-weaker}
use Rattle.std.proofs.lemmas.List.Sums.{AllPass-from_list_all}
use Rattle.arch_types.specs.declared.block.PbType.{PbType}
use Rattle.arch_types.specs.declared.block.Kind.{Kind}
use Rattle.arch_types.specs.declared.block.Kind.TheVariants as kind
use Rattle.arch_types.specs.declared.block.Mode.{Mode}
use Rattle.arch_types.specs.declared.block.Meta.{Meta}
use Rattle.arch_types.specs.Tree as tree
use Rattle.arch_types.specs.Preorder.{inside_mode, preorder}
use Rattle.arch_types.specs.Preorder as pre
use Rattle.arch_types.proofs.PreorderRows.{inside_are, inside_mode_is}
use Rattle.elem_text.specs.declared.elem.Elem.{Elem, out-Elem}
use Rattle.elem_text.specs.Held.{elements}
use Rattle.elem_attrs.specs.Attributes.{has_tag, attr_of, value_of}
use Rattle.arch_build.specs.Said.{said_block, said_mode, said_port, said_inters, said_metas, count_in, kind_or_modes, modes_or_default}
use Rattle.arch_types.specs.Tree.{block_names}
use Rattle.arch_build.proofs.Rows.{block_is, mode_is}
use Rattle.arch_links.specs.Links.{IsUnknown, models_at}
use Rattle.arch_rules.specs.declared.role.Role.{Role}
use Rattle.arch_rules.specs.declared.role.Role.TheVariants as role
use Rattle.arch_rules.specs.declared.role.Sort.TheVariants as sort
use Rattle.arch_types.specs.Names.{IsPlainName, is_plain}
use Rattle.arch_rules.specs.Elements.{name_of, kids_of}
use Rattle.arch_rules.specs.Roles.{sort_of, is_pb_type}
use Rattle.arch_rules.specs.Rules.{Inside, role_at}
use Rattle.arch_rules.specs.Walks.{inside, cousins, owner_in, AreFine, more, IsFine}
use Rattle.arch_types.specs.Names.{AreDifferent}
use Rattle.arch_types.specs.Counts.{IsShort}
use Rattle.arch_types.specs.Blocks.{IsMeta, AreMetas, AreInters, IsMode, AreModes, FitsKind, IsPbType, IsTree}
use Rattle.arch_laws.proofs.Lists.{pairs_one, all_flat}
use Rattle.arch_laws.proofs.Each.{IsFineDeep, each}
use Rattle.arch_laws.proofs.Held.{attr_utf8}
use Rattle.arch_laws.proofs.HeldBlocks.{IsHeld, AreHeld, held_kids, held_first, held_rest, if_few, flat_short, metas_good}
use Rattle.arch_laws.proofs.Siblings.{Gives, siblings}
use Rattle.arch_laws.proofs.Texts.{named_by, plain_decided, same_value, same_text, count_is}
use Rattle.arch_laws.proofs.Opened.{mode_of, name_is, kids_are, inters_are, metas_are, fits_modes}
use Rattle.arch_laws.proofs.Roles.{tag_is, fine_as, holds_blocks, holds_kids, kids_block, pb_kids, block_role, kid_role, mode_role, sort_pb, pb_owner, pb_ports}
use Rattle.arch_laws.proofs.Ports.{ports_good}
use Rattle.arch_laws.proofs.Leaves.{leaf_fits, leaf_inside}
use Rattle.arch_laws.proofs.Known.{AreKnown, models_in, none_left, none_right, known_kids, known_own}
use Rattle.arch_laws.proofs.Inters.{inters_good}

pub block_named : (r : Role) (Taken : Type 0) (e : Elem) → is_pb_type r ≡ true → IsFine r Taken e → IsPlainName (attr_of e (codes "name"))
block_named role.Block Taken e is fine = named_by IsPlainName plain_decided role.Block Taken e [] refl (λ un. un) (λ text may. may) fine
block_named role.PbType Taken e is fine = named_by IsPlainName plain_decided role.PbType Taken e [] refl (λ un. un) (λ text may. may) fine
block_named _ Taken e is fine = absurd (cc)

module _ (models : List (List ℕ)) where
  abbrev pub blocks_in : List Elem → List PbType
  blocks_in elems = flat_map (said_block models) elems

  abbrev pub modes_in : List Elem → List Mode
  modes_in elems = flat_map (said_mode models) elems

  abbrev kind_in : Elem → Option (List ℕ) → Kind
  kind_in e o = kind_or_modes models o (modes_or_default (modes_in (kids_of e)) (blocks_in (kids_of e)) (said_inters (kids_of e)))

  abbrev pub block_by : Elem → PbType
  block_by e = record {
    name = attr_of e (codes "name");
    count = count_in (out-Elem e).attrs (codes "num_pb");
    ports = flat_map said_port (kids_of e);
    kind = kind_in e (value_of (out-Elem e).attrs (codes "blif_model"));
    metas = said_metas (kids_of e);
  }

  abbrev mode_by : Elem → Mode
  mode_by e = mode_of (attr_of e (codes "name")) (blocks_in (kids_of e)) (said_inters (kids_of e)) (said_metas (kids_of e))

  -- Lengths

  pub block_few : (e : Elem) → length (said_block models e) ≤ elements e
  block_few e = subst (λ l. length l ≤ elements e) (sym (block_is models e)) (if_few e (has_tag e (codes "pb_type")) (block_by e))

  mode_few : (e : Elem) → length (said_mode models e) ≤ elements e
  mode_few e = subst (λ l. length l ≤ elements e) (sym (mode_is models e)) (if_few e (has_tag e (codes "mode")) (mode_by e))

  -- Names of siblings

  pub gives_block : (at : Inside) → holds_blocks at.parent ≡ true → (e : Elem) → Gives at sort.Units (λ (b : PbType). b.name) e (said_block models e)
  gives_block at holds e = subst (λ l. Gives at sort.Units (λ (b : PbType). b.name) e l) (sym (block_is models e)) (go (has_tag e (codes "pb_type")) refl)
    where
      go : (t : Bool) → has_tag e (codes "pb_type") ≡ t → Gives at sort.Units (λ (b : PbType). b.name) e (if t then block_by e ∷ [] else [])
      go false tag = inl refl
      go true tag = inr (block_by e, refl, sort_pb (role_at at e) (block_role at.parent (name_of e) holds (tag_is e (codes "pb_type") tag)), same_text e (codes "name"))

  gives_mode : (at : Inside) → is_pb_type at.parent ≡ true → (e : Elem) → Gives at sort.Modes tree.name_of_mode e (said_mode models e)
  gives_mode at holds e = subst (λ l. Gives at sort.Modes tree.name_of_mode e l) (sym (mode_is models e)) (go (has_tag e (codes "mode")) refl)
    where
      go : (t : Bool) → has_tag e (codes "mode") ≡ t → Gives at sort.Modes tree.name_of_mode e (if t then mode_by e ∷ [] else [])
      go false tag = inl refl
      go true tag = inr (
        mode_by e,
        refl,
        ap sort_of (mode_role at.parent (name_of e) holds (tag_is e (codes "mode") tag)),
        same_text e (codes "name") ∙ sym (name_is (attr_of e (codes "name")) (blocks_in (kids_of e)) (said_inters (kids_of e)) (said_metas (kids_of e))),
      )

  kids_differ : (at : Inside) → holds_kids at.parent ≡ true → (before elems : List Elem) → AreFine at before elems → AreDifferent (block_names (blocks_in elems))
  kids_differ at holds before elems fine =
      (siblings sort.Units (λ (b : PbType). b.name) (said_block models) at before elems fine (λ b e own. gives_block at (kids_block at.parent holds) e)).different

  abbrev IsApartFrom : List ℕ → PbType → Type 0
  IsApartFrom owner b = (b.name ≡ owner) → ⊥

  kids_apart : (at : Inside) → holds_kids at.parent ≡ true → (before elems : List Elem) → AreFine at before elems → All (IsApartFrom at.owner) (blocks_in elems)
  kids_apart at holds before elems fine = each (IsApartFrom at.owner) (said_block models) at before elems fine one
    where
      one : (b : List Elem) (e : Elem) → IsFineDeep at b e → All (IsApartFrom at.owner) (said_block models e)
      one b e deep = subst (λ l. All (IsApartFrom at.owner) l) (sym (block_is models e)) (go (has_tag e (codes "pb_type")) refl)
        where
          go : (t : Bool) → has_tag e (codes "pb_type") ≡ t → All (IsApartFrom at.owner) (if t then block_by e ∷ [] else [])
          go false tag = All-nil (IsApartFrom at.owner)
          go true tag =
              All-cons (IsApartFrom at.owner) (block_by e) []
              (λ same. deep.0.0.0.1 (inr (kid_role at.parent (name_of e) holds (tag_is e (codes "pb_type") tag), same_text e (codes "name") ∙ same)))
              (All-nil (IsApartFrom at.owner))

  -- a mode of these children and interconnects
  mode_made : (at : Inside) → holds_kids at.parent ≡ true → (before elems : List Elem) → AreFine at before elems → AreHeld elems → (name : List ℕ) (metas : List Meta) →
      IsPlainName name → IsUtf8 name → AreMetas metas → IsMode at.owner (mode_of name (blocks_in elems) (said_inters elems) metas)
  mode_made at holds before elems fine held name metas plain utf8 metas_fit =
      let is : tree.name_of_mode (mode_of name (blocks_in elems) (said_inters elems) metas) ≡ name = name_is name (blocks_in elems) (said_inters elems) metas in
      let kids : tree.kids_of (mode_of name (blocks_in elems) (said_inters elems) metas) ≡ blocks_in elems = kids_are name (blocks_in elems) (said_inters elems) metas in
      record {
        name = subst IsPlainName (sym is) plain;
        utf8 = subst IsUtf8 (sym is) utf8;
        different = subst (λ l. AreDifferent (block_names l)) (sym kids) (kids_differ at holds before elems fine);
        apart = subst (λ l. All (IsApartFrom at.owner) l) (sym kids) (kids_apart at holds before elems fine);
        few = subst (λ l. IsShort l) (sym kids) (flat_short (said_block models) block_few elems held);
        inters = subst AreInters (sym (inters_are name (blocks_in elems) (said_inters elems) metas)) (inters_good at holds before elems fine held);
        metas = subst AreMetas (sym (metas_are name (blocks_in elems) (said_inters elems) metas)) metas_fit;
      }

  -- Trees

  abbrev AreGoodIn : List PbType → Type 0
  AreGoodIn blocks = All (IsPbType (length models)) blocks

  -- a mode of a pb_type of this name, with all that stands in it
  pub record IsModeTree (parent : List ℕ) (m : Mode) : Type 0 where
    pub mode : IsMode parent m
    pub kids : All (IsPbType (length models)) (inside_mode m)

  -- what is known of the pb_types and modes that elements say
  pub record AreGood (at : Inside) (elems : List Elem) : Type 0 where
    pub blocks : holds_blocks at.parent ≡ true → All (IsTree (length models)) (blocks_in elems)
    pub modes : is_pb_type at.parent ≡ true → All (IsModeTree at.owner) (modes_in elems)

  kids_in_mode : (m : Mode) (kids : List PbType) → tree.kids_of m ≡ kids → All (IsTree (length models)) kids → AreGoodIn (inside_mode m)
  kids_in_mode m kids same trees =
      subst AreGoodIn (sym (inside_mode_is m ∙ ap (λ l. flat_map preorder l) same)) (all_flat (IsPbType (length models)) preorder kids trees)

  default_plain : IsPlainName (codes "default")
  default_plain = record { some = λ none. absurd (cc); plain = AllPass-from_list_all is_plain (codes "default") refl }

  default_utf8 : IsUtf8 (codes "default")
  unfolding encode
  default_utf8 = (codes "default", (refl, refl))

  no_metas : AreMetas []
  no_metas = record { each = All-nil IsMeta; few = omega arith }

  -- what a pb_type that is no leaf has
  pub record HasModes (name : List ℕ) (modes : List Mode) : Type 0 where
    pub are : AreModes name modes
    pub kids : All (λ m. All (IsPbType (length models)) (inside_mode m)) modes

  module _ (at : Inside) (before : List Elem) (e : Elem) (holds : holds_blocks at.parent ≡ true) (tag : has_tag e (codes "pb_type") ≡ true)
      (deep : IsFineDeep at before e) (held : IsHeld e) (known : AreKnown models (models_at e)) (good : AreGood (inside at e) (kids_of e)) where
    pb : is_pb_type (role_at at e) ≡ true
    pb = block_role at.parent (name_of e) holds (tag_is e (codes "pb_type") tag)

    owner_is : (inside at e).owner ≡ attr_of e (codes "name")
    owner_is = pb_owner (role_at at e) at.owner e pb ∙ same_text e (codes "name")

    own_modes : All (IsModeTree (attr_of e (codes "name"))) (modes_in (kids_of e))
    own_modes = subst (λ o. All (IsModeTree o) (modes_in (kids_of e))) owner_is (good.modes pb)

    own_differ : AreDifferent (map tree.name_of_mode (modes_in (kids_of e)))
    own_differ =
        (siblings sort.Modes tree.name_of_mode (said_mode models) (inside at e) (cousins (role_at at e) before) (kids_of e) deep.1
        (λ b kid own. gives_mode (inside at e) pb kid)).different

    default_mode : IsMode (attr_of e (codes "name")) (mode_of (codes "default") (blocks_in (kids_of e)) (said_inters (kids_of e)) [])
    default_mode =
        subst (λ o. IsMode o (mode_of (codes "default") (blocks_in (kids_of e)) (said_inters (kids_of e)) [])) owner_is
        (mode_made (inside at e) (pb_kids (role_at at e) pb) (cousins (role_at at e) before) (kids_of e) deep.1 (held_kids e held)
        (codes "default") [] default_plain default_utf8 no_metas)

    has_modes : HasModes (attr_of e (codes "name")) (modes_or_default (modes_in (kids_of e)) (blocks_in (kids_of e)) (said_inters (kids_of e)))
    has_modes = go (modes_in (kids_of e)) own_modes own_differ (flat_short (said_mode models) mode_few (kids_of e) (held_kids e held))
      where
        one : Mode
        one = mode_of (codes "default") (blocks_in (kids_of e)) (said_inters (kids_of e)) []

        go : (l : List Mode) → All (IsModeTree (attr_of e (codes "name"))) l → AreDifferent (map tree.name_of_mode l) → IsShort l →
            HasModes (attr_of e (codes "name")) (modes_or_default l (blocks_in (kids_of e)) (said_inters (kids_of e)))
        go [] trees differ short = record {
          are = record {
            some = λ none. absurd (cc);
            each = All-cons (IsMode (attr_of e (codes "name"))) one [] default_mode (All-nil (IsMode (attr_of e (codes "name"))));
            different = pairs_one (λ a b. (a ≡ b) → ⊥) (tree.name_of_mode one);
            few = omega arith;
          };
          kids = All-cons (λ m. AreGoodIn (inside_mode m)) one []
              (kids_in_mode one (blocks_in (kids_of e)) (kids_are (codes "default") (blocks_in (kids_of e)) (said_inters (kids_of e)) [])
              (good.blocks (kids_block (role_at at e) (pb_kids (role_at at e) pb)))) (All-nil (λ m. AreGoodIn (inside_mode m)));
        }
        go (m ∷ modes) trees differ short = record {
          are = record {
            some = λ none. absurd (cc);
            each = All-weaker (IsModeTree (attr_of e (codes "name"))) (IsMode (attr_of e (codes "name"))) (λ x t. t.mode) (m ∷ modes) trees;
            different = differ;
            few = short;
          };
          kids = All-weaker (IsModeTree (attr_of e (codes "name"))) (λ x. AreGoodIn (inside_mode x)) (λ x t. t.kids) (m ∷ modes) trees;
        }

    fits_and_inside : (o : Option (List ℕ)) → value_of (out-Elem e).attrs (codes "blif_model") ≡ o →
        FitsKind (length models) (attr_of e (codes "name")) (flat_map said_port (kids_of e)) (kind_in e o) × AreGoodIn (pre.inside (kind_in e o))
    fits_and_inside None is =
        let modes = modes_or_default (modes_in (kids_of e)) (blocks_in (kids_of e)) (said_inters (kids_of e)) in (
          fits_modes (length models) (attr_of e (codes "name")) (flat_map said_port (kids_of e)) modes has_modes.are,
          subst AreGoodIn (sym (inside_are (kind.Modes modes) modes refl)) (all_flat (IsPbType (length models)) inside_mode modes has_modes.kids),
        )
    fits_and_inside (Some text) is = (
      leaf_fits (role_at at e) _ e models (attr_of e (codes "name")) text pb deep.0 (same_value (out-Elem e).attrs (codes "blif_model") ∙ is)
          (known_own models e text tag is known),
      subst AreGoodIn (sym (leaf_inside models text)) (All-nil (IsPbType (length models))),
    )

    pub block_good : IsTree (length models) (block_by e)
    block_good =
        let kinds = fits_and_inside (value_of (out-Elem e).attrs (codes "blif_model")) refl in
        All-cons (IsPbType (length models)) (block_by e) (pre.inside (block_by e).kind) (record {
          name = block_named (role_at at e) _ e pb deep.0;
          utf8 = attr_utf8 e (codes "name") held.utf8;
          count = count_is (out-Elem e).attrs (codes "num_pb");
          ports = ports_good (inside at e) (pb_ports (role_at at e) pb) (cousins (role_at at e) before) e deep.1 held.utf8 held.few;
          kind = kinds.0;
          metas = metas_good (kids_of e) (held_kids e held);
        }) kinds.1

  mode_owner : (at : Inside) (e : Elem) → role_at at e ≡ role.Mode → (inside at e).owner ≡ at.owner
  mode_owner at e is = ap (λ r. owner_in r at.owner e) is

  mode_good : (at : Inside) (before : List Elem) (e : Elem) → is_pb_type at.parent ≡ true → has_tag e (codes "mode") ≡ true → IsFineDeep at before e → IsHeld e →
      AreGood (inside at e) (kids_of e) → IsModeTree at.owner (mode_by e)
  mode_good at before e holds tag deep held good =
      let role_is : role_at at e ≡ role.Mode = mode_role at.parent (name_of e) holds (tag_is e (codes "mode") tag) in
      let kids : holds_kids (role_at at e) ≡ true = ap holds_kids role_is in
      let name : IsPlainName (attr_of e (codes "name")) =
      named_by IsPlainName plain_decided role.Mode _ e [] refl (λ un. un) (λ text may. may) (fine_as (role_at at e) role.Mode _ e role_is deep.0) in
      record {
        mode = subst (λ o. IsMode o (mode_by e)) (mode_owner at e role_is)
            (mode_made (inside at e) kids (cousins (role_at at e) before) (kids_of e) deep.1 (held_kids e held) (attr_of e (codes "name")) (said_metas (kids_of e))
            name (attr_utf8 e (codes "name") held.utf8) (metas_good (kids_of e) (held_kids e held)));
        kids = kids_in_mode (mode_by e) (blocks_in (kids_of e)) (kids_are (attr_of e (codes "name")) (blocks_in (kids_of e)) (said_inters (kids_of e)) (said_metas (kids_of e)))
            (good.blocks (kids_block (role_at at e) kids));
      }

  -- the same of one element
  record IsGoodAt (at : Inside) (e : Elem) : Type 0 where
    blocks : holds_blocks at.parent ≡ true → All (IsTree (length models)) (said_block models e)
    modes : is_pb_type at.parent ≡ true → All (IsModeTree at.owner) (said_mode models e)

  one_good : (at : Inside) (before : List Elem) (e : Elem) → IsFineDeep at before e → IsHeld e → AreKnown models (models_at e) →
      (AreKnown models (models_in (kids_of e)) → AreGood (inside at e) (kids_of e)) → IsGoodAt at e
  one_good at before e deep held known inner = record {
    blocks = λ holds. subst (λ l. All (IsTree (length models)) l) (sym (block_is models e)) (as_block holds (has_tag e (codes "pb_type")) refl);
    modes = λ holds. subst (λ l. All (IsModeTree at.owner) l) (sym (mode_is models e)) (as_mode holds (has_tag e (codes "mode")) refl);
  }
    where
      as_block : holds_blocks at.parent ≡ true → (t : Bool) → has_tag e (codes "pb_type") ≡ t → All (IsTree (length models)) (if t then block_by e ∷ [] else [])
      as_block holds false tag = All-nil (IsTree (length models))
      as_block holds true tag =
          All-cons (IsTree (length models)) (block_by e) [] (block_good at before e holds tag deep held known (inner (known_kids models e (inl tag) known)))
          (All-nil (IsTree (length models)))

      as_mode : is_pb_type at.parent ≡ true → (t : Bool) → has_tag e (codes "mode") ≡ t → All (IsModeTree at.owner) (if t then mode_by e ∷ [] else [])
      as_mode holds false tag = All-nil (IsModeTree at.owner)
      as_mode holds true tag =
          All-cons (IsModeTree at.owner) (mode_by e) [] (mode_good at before e holds tag deep held (inner (known_kids models e (inr tag) known))) (All-nil (IsModeTree at.owner))

  -- pb_types and modes among elements without broken rules
  pub good : (at : Inside) (before elems : List Elem) → AreFine at before elems → AreHeld elems → AreKnown models (models_in elems) → AreGood at elems
  good at before [] fine held known = record { blocks = λ holds. All-nil (IsTree (length models)); modes = λ holds. All-nil (IsModeTree at.owner) }
  good at before (e ∷ rest) (more _ _ _ _ own deep tail) held known =
      let held_e : IsHeld e = held_first e rest held in
      let first : IsGoodAt at e =
      one_good at before e (own, deep) held_e (none_left (IsUnknown models) (models_at e) (models_in rest) known)
      (λ below. good (inside at e) (cousins (role_at at e) before) (kids_of e) deep (held_kids e held_e) below) in
      let later : AreGood at rest = good at (before ++ e ∷ []) rest tail (held_rest e rest held) (none_right (IsUnknown models) (models_at e) (models_in rest) known) in
      record {
        blocks = λ holds. All-append (IsTree (length models)) (said_block models e) (blocks_in rest) (first.blocks holds) (later.blocks holds);
        modes = λ holds. All-append (IsModeTree at.owner) (said_mode models e) (modes_in rest) (first.modes holds) (later.modes holds);
      }
