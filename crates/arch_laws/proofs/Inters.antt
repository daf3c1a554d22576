-- Interconnects of elements without broken rules.
use Rattle.std.proofs.Common.{◌≡◌, ◌≤◌, ℕ, Bool, true, false, List, [], ◌∷◌, Option, Some, None, codes, refl, sym, ◌∙◌, ap, subst, arith, if◌then◌else◌, length}
use Rattle.std.specs.List.{All, flat_map}
use Rattle.std.proofs.lemmas.List.Elements.{All-nil, All-cons}
use Rattle.arch_types.specs.declared.block.InterKind.{InterKind}
use Rattle.arch_types.specs.declared.block.InterKind.TheVariants.{Direct, Complete, Mux}
use Rattle.elem_text.specs.declared.elem.Elem.{Elem}
use Rattle.elem_text.specs.Held.{elements}
use Rattle.elem_attrs.specs.Attributes.{has_tag, attr_of}
use Rattle.arch_build.specs.Said.{within, inter_kind, inter_of, said_inter, said_inters, said_pattern, said_metas}
use Rattle.arch_rules.specs.declared.role.Role.TheVariants as role
use Rattle.arch_types.specs.Names.{IsUnbrokenName}
use Rattle.arch_rules.specs.Elements.{name_of, kids_of}
use Rattle.arch_rules.specs.Roles.{role_in}
use Rattle.arch_rules.specs.Rules.{Inside, role_at}
use Rattle.arch_rules.specs.Walks.{inside, cousins, AreFine, IsFineAt}
use Rattle.arch_types.specs.Blocks.{IsInter, AreInters}
use Rattle.arch_laws.proofs.Each.{IsFineDeep, each_with}
use Rattle.arch_laws.proofs.Held.{attr_utf8, within_few}
use Rattle.arch_laws.proofs.HeldBlocks.{IsHeld, AreHeld, held_kids, held_each, one_few, flat_short, metas_good, patterns_good}
use Rattle.arch_laws.proofs.Texts.{named_by, dark_decided}
use Rattle.arch_laws.proofs.Roles.{tag_is, fine_as, holds_kids, interconnect_role}

as_inter : (e : Elem) (word : List ℕ) → role_in role.Interconnect word ≡ role.Inter → has_tag e word ≡ true → role_in role.Interconnect (name_of e) ≡ role.Inter
as_inter e word is tag = subst (λ n. role_in role.Interconnect n ≡ role.Inter) (sym (tag_is e word tag)) is

inter_role : (e : Elem) (k : InterKind) → inter_kind e ≡ Some k → role_in role.Interconnect (name_of e) ≡ role.Inter
inter_role e k is = go (has_tag e (codes "direct")) refl (has_tag e (codes "complete")) refl (has_tag e (codes "mux")) refl is
  where
    go : (a : Bool) → has_tag e (codes "direct") ≡ a → (b : Bool) → has_tag e (codes "complete") ≡ b → (c : Bool) → has_tag e (codes "mux") ≡ c →
        (if a then Some Direct else if b then Some Complete else if c then Some Mux else None) ≡ Some k → role_in role.Interconnect (name_of e) ≡ role.Inter
    go true at b bt c ct same = as_inter e (codes "direct") refl at
    go false at true bt c ct same = as_inter e (codes "complete") refl bt
    go false at false bt true ct same = as_inter e (codes "mux") refl ct
    go false at false bt false ct same = absurd (cc)

inter_few : (e : Elem) → length (said_inter e) ≤ elements e
inter_few e = one_few e (said_inter e) (go (inter_kind e))
  where
    go : (o : Option InterKind) → length (inter_of o e) ≤ 1
    go None = omega arith
    go (Some k) = omega arith

one_inter : (at : Inside) → at.parent ≡ role.Interconnect → (before : List Elem) (e : Elem) → IsFineAt at before e → IsHeld e → All IsInter (said_inter e)
one_inter at parent before e own held = go (inter_kind e) refl
  where
    go : (o : Option InterKind) → inter_kind e ≡ o → All IsInter (inter_of o e)
    go None is = All-nil IsInter
    go (Some k) is =
        let role_is : role_at at e ≡ role.Inter = ap (λ r. role_in r (name_of e)) parent ∙ inter_role e k is in
        All-cons IsInter (record {
          name = attr_of e (codes "name");
          kind = k;
          input = attr_of e (codes "input");
          output = attr_of e (codes "output");
          patterns = flat_map said_pattern (kids_of e);
          metas = said_metas (kids_of e);
        }) [] (record {
          name = named_by IsUnbrokenName dark_decided role.Inter _ e (codes "input" ∷ codes "output" ∷ []) refl (λ un. un) (λ text may. may)
              (fine_as (role_at at e) role.Inter _ e role_is own);
          utf8 = attr_utf8 e (codes "name") held.utf8;
          input = attr_utf8 e (codes "input") held.utf8;
          output = attr_utf8 e (codes "output") held.utf8;
          patterns = patterns_good (kids_of e) (held_kids e held);
          metas = metas_good (kids_of e) (held_kids e held);
        }) (All-nil IsInter)

in_one : (at : Inside) → holds_kids at.parent ≡ true → (before : List Elem) (e : Elem) → IsFineDeep at before e → IsHeld e →
    All IsInter (within (codes "interconnect") said_inter e)
in_one at holds before e deep held = go (has_tag e (codes "interconnect")) refl
  where
    go : (t : Bool) → has_tag e (codes "interconnect") ≡ t → All IsInter (if t then flat_map said_inter (kids_of e) else [])
    go false tag = All-nil IsInter
    go true tag =
        each_with IsInter IsHeld said_inter (inside at e) (cousins (role_at at e) before) (kids_of e) deep.1 (held_each (kids_of e) (held_kids e held))
        (λ b kid own held_kid. one_inter (inside at e) (interconnect_role at.parent (name_of e) holds (tag_is e (codes "interconnect") tag)) b kid own.0 held_kid)

-- the interconnects that these elements say
pub inters_good : (at : Inside) → holds_kids at.parent ≡ true → (before elems : List Elem) → AreFine at before elems → AreHeld elems → AreInters (said_inters elems)
inters_good at holds before elems fine held = record {
  each = each_with IsInter IsHeld (within (codes "interconnect") said_inter) at before elems fine (held_each elems held) (in_one at holds);
  few = flat_short (within (codes "interconnect") said_inter) (within_few (codes "interconnect") said_inter inter_few) elems held;
}
