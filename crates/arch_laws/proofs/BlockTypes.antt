-- The block types and the models of a file without broken rules.
use Rattle.std.proofs.Common.{◌≡◌, ◌≤◌, ◌<◌, ◌^◌, ◌⊎◌, inl, inr, ℕ, Bool, true, false, List, [], ◌∷◌, codes, refl, sym, ap, subst, arith, if◌then◌else◌, length}
use Rattle.std.specs.List.{All, flat_map}
use Rattle.std.proofs.lemmas.Bool.{cases_lt}
use Rattle.std.proofs.lemmas.List.{length-map}
use Rattle.std.proofs.lemmas.List.Elements.{All-nil, All-cons}
use Rattle.arch_types.specs.declared.arch.CellModel.{CellModel}
use Rattle.arch_types.specs.declared.block.PbType.{PbType}
use Rattle.elem_text.specs.declared.elem.Elem.{Elem, out-Elem}
use Rattle.elem_text.specs.Held.{IsUtf8Elem, elements}
use Rattle.elem_attrs.specs.Attributes.{has_tag, attr_of}
use Rattle.arch_build.specs.Said.{within, count_in, said_block, said_blocks, said_model, said_models, said_port_name}
use Rattle.arch_types.specs.Models.{model_names}
use Rattle.arch_build.proofs.Rows.{block_is}
use Rattle.arch_links.specs.Links.{IsUnknown, models_at, block_models, models_used}
use Rattle.arch_rules.specs.declared.role.Role.TheVariants as role
use Rattle.arch_rules.specs.declared.role.Sort.TheVariants as sort
use Rattle.arch_rules.specs.Elements.{name_of, kids_of}
use Rattle.arch_rules.specs.Roles.{sort_of, role_in}
use Rattle.arch_rules.specs.Rules.{role_at}
use Rattle.arch_rules.specs.Walks.{inside, cousins, AreFine, IsFine, IsFineFile}
use Rattle.arch_types.specs.Names.{AreDifferent}
use Rattle.arch_types.specs.Counts.{IsCount}
use Rattle.arch_types.specs.Blocks.{IsBlockType, AreBlockTypes}
use Rattle.arch_laws.proofs.Each.{IsFineDeep, each_with}
use Rattle.arch_laws.proofs.Held.{within_few}
use Rattle.arch_laws.proofs.HeldBlocks.{IsHeld, held_kids, held_each, flat_short}
use Rattle.arch_laws.proofs.Siblings.{Gives}
use Rattle.arch_laws.proofs.Texts.{same_text, count_is, count_over}
use Rattle.arch_laws.proofs.Roles.{tag_is, fine_as, top_role}
use Rattle.arch_laws.proofs.Leaves.{two_counts}
use Rattle.arch_laws.proofs.Known.{AreKnown, known_kids, none_each}
use Rattle.arch_laws.proofs.Trees.{blocks_in, block_by, block_few, gives_block, block_good, good}
use Rattle.arch_laws.proofs.Top.{in_list, top_fine, models_list, blocks_list, each_listed, names_differ}

-- a block type stands once
count_one : (Taken : Type 0) (e : Elem) → IsFine role.Block Taken e → count_in (out-Elem e).attrs (codes "num_pb") ≡ 1
count_one Taken e fine = go (cases_lt 1 (count_in (out-Elem e).attrs (codes "num_pb"))) (count_is (out-Elem e).attrs (codes "num_pb"))
  where
    go : (1 < count_in (out-Elem e).attrs (codes "num_pb")) ⊎ (count_in (out-Elem e).attrs (codes "num_pb") ≤ 1) →
        IsCount (count_in (out-Elem e).attrs (codes "num_pb")) → count_in (out-Elem e).attrs (codes "num_pb") ≡ 1
    go (inr fits) count = let some = count.some in omega (arith, some, fits)
    go (inl over) count =
        let more = count_over e (codes "num_pb") 1 (omega arith) over in
        absurd (fine.0.1 (inl (more.0, more.1, λ one. two_counts more.0 more.0 more.2 refl one more.3 more.4)))

module _ (models : List (List ℕ)) where
  -- what is known beside the rules: of an element among the block types, and of one under the root
  record IsReady (e : Elem) : Type 0 where
    held : IsHeld e
    known : AreKnown models (block_models e)

  record AreReady (e : Elem) : Type 0 where
    held : IsHeld e
    known : AreKnown models (within (codes "complexblocklist") block_models e)

  one_block : (before : List Elem) (e : Elem) → IsFineDeep (in_list role.Blocks) before e → IsReady e → All (IsBlockType (length models)) (said_block models e)
  one_block before e deep ready = subst (λ l. All (IsBlockType (length models)) l) (sym (block_is models e)) (go (has_tag e (codes "pb_type")) refl)
    where
      go : (t : Bool) → has_tag e (codes "pb_type") ≡ t → All (IsBlockType (length models)) (if t then block_by models e ∷ [] else [])
      go false tag = All-nil (IsBlockType (length models))
      go true tag =
          let known_at : AreKnown models (models_at e) = subst (λ l. AreKnown models l) (ap (λ t. if t then models_at e else []) tag) ready.known in
          let role_is : role_at (in_list role.Blocks) e ≡ role.Block = top_role (name_of e) (tag_is e (codes "pb_type") tag) in
          All-cons (IsBlockType (length models)) (block_by models e) [] (record {
            one = count_one _ e (fine_as (role_at (in_list role.Blocks) e) role.Block _ e role_is deep.0);
            tree = block_good models (in_list role.Blocks) before e refl tag deep ready.held known_at
                (good models (inside (in_list role.Blocks) e) (cousins (role_at (in_list role.Blocks) e) before) (kids_of e) deep.1 (held_kids e ready.held)
                (known_kids models e (inl tag) known_at));
          }) (All-nil (IsBlockType (length models)))

  in_one : (before : List Elem) (e : Elem) → has_tag e (codes "complexblocklist") ≡ true → AreReady e → AreFine (in_list role.Blocks) before (kids_of e) →
      All (IsBlockType (length models)) (blocks_in models (kids_of e))
  in_one before e tag ready deep =
      let known : AreKnown models (flat_map block_models (kids_of e)) =
      subst (λ l. AreKnown models l) (ap (λ t. if t then flat_map block_models (kids_of e) else []) tag) ready.known in
      let each : All (λ kid. AreKnown models (block_models kid)) (kids_of e) = none_each (IsUnknown models) block_models (kids_of e) known in
      let held : All IsHeld (kids_of e) = held_each (kids_of e) (held_kids e ready.held) in
      each_with (IsBlockType (length models)) IsReady (said_block models) (in_list role.Blocks) before (kids_of e) deep
      (λ k d within. record { held = held k d within; known = each k d within }) one_block

  block_types : (root : Elem) → IsFineFile root → IsHeld root → AreKnown models (models_used root) → AreBlockTypes (length models) (said_blocks models root)
  block_types root fine held known = record {
    each = each_listed role.Blocks (codes "complexblocklist") (IsBlockType (length models)) AreReady (said_block models) blocks_list.is [] (kids_of root) (top_fine root fine)
        ready in_one;
    different = names_differ role.Blocks (codes "complexblocklist") blocks_list (λ (b : PbType). b.name) (said_block models)
        (λ b e own. gives_block models (in_list role.Blocks) refl e) (kids_of root) (top_fine root fine);
    few = flat_short (within (codes "complexblocklist") (said_block models)) (within_few (codes "complexblocklist") (said_block models) (block_few models))
        (kids_of root) (held_kids root held);
  }
    where
      each : All (λ e. AreKnown models (within (codes "complexblocklist") block_models e)) (kids_of root)
      each = none_each (IsUnknown models) (within (codes "complexblocklist") block_models) (kids_of root) known

      all_held : All IsHeld (kids_of root)
      all_held = held_each (kids_of root) (held_kids root held)

      ready : All AreReady (kids_of root)
      ready k d within = record { held = all_held k d within; known = each k d within }

-- by the models themselves
pub block_types_are : (models : List CellModel) (root : Elem) → IsFineFile root → IsUtf8Elem root → elements root < 2 ^ 32 →
    AreKnown (model_names models) (models_used root) → AreBlockTypes (length models) (said_blocks (model_names models) root)
block_types_are models root fine utf8 few known =
    subst (λ n. AreBlockTypes n (said_blocks (model_names models) root)) (length-map models (λ m. m.name))
    (block_types (model_names models) root fine (record { utf8 = utf8; few = few }) known)

gives_model : (e : Elem) → Gives (in_list role.Models) sort.Units (λ (m : CellModel). m.name) e (said_model e)
gives_model e = go (has_tag e (codes "model")) refl
  where
    one : CellModel
    one = record {
      name = attr_of e (codes "name");
      ins = flat_map (within (codes "input_ports") said_port_name) (kids_of e);
      outs = flat_map (within (codes "output_ports") said_port_name) (kids_of e);
    }

    go : (t : Bool) → has_tag e (codes "model") ≡ t → Gives (in_list role.Models) sort.Units (λ (m : CellModel). m.name) e (if t then one ∷ [] else [])
    go false tag = inl refl
    go true tag =
        let role_is : role_at (in_list role.Models) e ≡ role.Model = subst (λ n. role_in role.Models n ≡ role.Model) (sym (tag_is e (codes "model") tag)) refl in
        inr (one, refl, ap sort_of role_is, same_text e (codes "name"))

pub models_differ : (root : Elem) → IsFineFile root → AreDifferent (model_names (said_models root))
models_differ root fine =
    names_differ role.Models (codes "models") models_list (λ (m : CellModel). m.name) said_model (λ b e own. gives_model e) (kids_of root) (top_fine root fine)
