-- The models of a file without broken rules.
use Rattle.std.proofs.Common.{◌≡◌, ◌<◌, ◌^◌, ℕ, Bool, true, false, List, [], ◌∷◌, codes, refl, ◌∙◌, ap, if◌then◌else◌}
use Rattle.std.specs.List.{All, flat_map}
use Rattle.std.proofs.lemmas.List.Elements.{All-nil, All-cons}
use Rattle.arch_types.specs.declared.arch.CellModel.{CellModel}
use Rattle.elem_text.specs.declared.elem.Elem.{Elem}
use Rattle.elem_text.specs.Held.{IsUtf8Elem, elements}
use Rattle.elem_attrs.specs.Attributes.{has_tag, attr_of}
use Rattle.arch_build.specs.Said.{within, said_port_name, said_model, said_models}
use Rattle.arch_rules.specs.declared.role.Role.{Role}
use Rattle.arch_rules.specs.declared.role.Role.TheVariants as role
use Rattle.arch_rules.specs.Elements.{name_of, kids_of}
use Rattle.arch_rules.specs.Roles.{role_in}
use Rattle.arch_rules.specs.Rules.{Inside, role_at}
use Rattle.arch_rules.specs.Walks.{inside, cousins, AreFine, IsFineFile}
use Rattle.arch_types.specs.Names.{IsPlainName}
use Rattle.arch_types.specs.Models.{IsPortName, ArePortNames, IsModel, AreModels}
use Rattle.arch_laws.proofs.Each.{IsFineDeep, each_with}
use Rattle.arch_laws.proofs.Held.{attr_utf8}
use Rattle.arch_laws.proofs.HeldBlocks.{IsHeld, if_few}
use Rattle.arch_laws.proofs.Listed.{kids_held, listed_short}
use Rattle.arch_laws.proofs.Texts.{named_by, plain_decided}
use Rattle.arch_laws.proofs.Roles.{tag_is, fine_as}
use Rattle.arch_laws.proofs.Top.{in_list, top_fine, models_list, each_listed}
use Rattle.arch_laws.proofs.BlockTypes.{models_differ}

-- an element of this name in an element of this role has its role
role_by : (at : Inside) (parent r : Role) (word : List ℕ) → at.parent ≡ parent → role_in parent word ≡ r → (e : Elem) → has_tag e word ≡ true → role_at at e ≡ r
role_by at parent r word in_parent there e tag = ap (λ p. role_in p (name_of e)) in_parent ∙ ap (λ n. role_in parent n) (tag_is e word tag) ∙ there

one_name : (at : Inside) → at.parent ≡ role.ModelPorts → (before : List Elem) (e : Elem) → IsFineDeep at before e → IsHeld e → All IsPortName (said_port_name e)
one_name at parent before e deep held = go (has_tag e (codes "port")) refl
  where
    go : (t : Bool) → has_tag e (codes "port") ≡ t → All IsPortName (if t then attr_of e (codes "name") ∷ [] else [])
    go false tag = All-nil IsPortName
    go true tag =
        let fine = fine_as (role_at at e) role.ModelPort _ e (role_by at role.ModelPorts role.ModelPort (codes "port") parent refl e tag) deep.0 in
        All-cons IsPortName (attr_of e (codes "name")) [] (record {
          plain = named_by IsPlainName plain_decided role.ModelPort _ e [] refl (λ un. un) (λ text may. may) fine;
          utf8 = attr_utf8 e (codes "name") held.utf8;
        }) (All-nil IsPortName)

-- the ports of one side
module _ (word : List ℕ) (there : role_in role.Model word ≡ role.ModelPorts) where
  names_in : (at : Inside) → at.parent ≡ role.Model → (before : List Elem) (e : Elem) → IsFineDeep at before e → IsHeld e → All IsPortName (within word said_port_name e)
  names_in at parent before e deep held = go (has_tag e word) refl
    where
      go : (t : Bool) → has_tag e word ≡ t → All IsPortName (if t then flat_map said_port_name (kids_of e) else [])
      go false tag = All-nil IsPortName
      go true tag =
          each_with IsPortName IsHeld said_port_name (inside at e) (cousins (role_at at e) before) (kids_of e) deep.1 (kids_held e held)
          (one_name (inside at e) (role_by at role.Model role.ModelPorts word parent there e tag))

  names_are : (at : Inside) → at.parent ≡ role.Model → (before : List Elem) (e : Elem) → AreFine at before (kids_of e) → IsHeld e →
      ArePortNames (flat_map (within word said_port_name) (kids_of e))
  names_are at parent before e fine held = record {
    each = each_with IsPortName IsHeld (within word said_port_name) at before (kids_of e) fine (kids_held e held) (names_in at parent);
    few = listed_short word said_port_name (λ kid. if_few kid (has_tag kid (codes "port")) _) e held;
  }

one_model : (before : List Elem) (e : Elem) → IsFineDeep (in_list role.Models) before e → IsHeld e → All IsModel (said_model e)
one_model before e deep held = go (has_tag e (codes "model")) refl
  where
    at : Inside
    at = in_list role.Models

    one : CellModel
    one = record {
      name = attr_of e (codes "name");
      ins = flat_map (within (codes "input_ports") said_port_name) (kids_of e);
      outs = flat_map (within (codes "output_ports") said_port_name) (kids_of e);
    }

    go : (t : Bool) → has_tag e (codes "model") ≡ t → All IsModel (if t then one ∷ [] else [])
    go false tag = All-nil IsModel
    go true tag =
        let parent : role_at at e ≡ role.Model = role_by at role.Models role.Model (codes "model") refl refl e tag in
        All-cons IsModel one [] (record {
          utf8 = attr_utf8 e (codes "name") held.utf8;
          ins = names_are (codes "input_ports") refl (inside at e) parent (cousins (role_at at e) before) e deep.1 held;
          outs = names_are (codes "output_ports") refl (inside at e) parent (cousins (role_at at e) before) e deep.1 held;
        }) (All-nil IsModel)

models_good : (root : Elem) → IsFineFile root → IsHeld root → AreModels (said_models root)
models_good root fine held = record {
  each = each_listed role.Models (codes "models") IsModel IsHeld said_model models_list.is [] (kids_of root) (top_fine root fine) (kids_held root held)
      (λ before e tag own deep. each_with IsModel IsHeld said_model (in_list role.Models) before (kids_of e) deep (kids_held e own) one_model);
  different = models_differ root fine;
  few = listed_short (codes "models") said_model (λ e. if_few e (has_tag e (codes "model")) _) root held;
}

pub models_are : (root : Elem) → IsFineFile root → IsUtf8Elem root → elements root < 2 ^ 32 → AreModels (said_models root)
models_are root fine utf8 few = models_good root fine (record { utf8 = utf8; few = few })
