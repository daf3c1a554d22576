-- Ports of an element without broken rules.
use Rattle.std.proofs.Common.{◌≡◌, ◌≤◌, ◌<◌, ◌^◌, inl, inr, ℕ, Bool, true, false, List, [], ◌∷◌, Option, Some, None, codes, refl, sym, ◌∙◌, ap, subst, arith, if◌then◌else◌, length}
use Rattle.std.specs.List.{All, flat_map}
use Rattle.std.proofs.lemmas.List.Elements.{All-nil, All-cons}
use Rattle.arch_types.specs.declared.block.Port.{Port}
use Rattle.arch_types.specs.declared.block.Side.{Side}
use Rattle.arch_types.specs.declared.block.Side.TheVariants.{Input, Output, Clock}
use Rattle.elem_text.specs.declared.elem.Elem.{Elem, out-Elem}
use Rattle.elem_text.specs.Held.{IsUtf8Elem, elements}
use Rattle.elem_attrs.specs.Attributes.{has_tag, attr_of}
use Rattle.arch_build.specs.Said.{side_of, port_of, said_port, count_in}
use Rattle.arch_rules.specs.declared.role.Role.{Role}
use Rattle.arch_rules.specs.declared.role.Role.TheVariants as role
use Rattle.arch_rules.specs.declared.role.Sort.TheVariants as sort
use Rattle.arch_types.specs.Names.{IsPlainName}
use Rattle.arch_rules.specs.Elements.{name_of, kids_of}
use Rattle.arch_rules.specs.Roles.{role_in, sort_of}
use Rattle.arch_rules.specs.Rules.{Inside, role_at}
use Rattle.arch_rules.specs.Walks.{AreFine, IsFine, IsFineAt}
use Rattle.arch_types.specs.Blocks.{IsPort, ArePorts}
use Rattle.arch_laws.proofs.Each.{each_with}
use Rattle.arch_laws.proofs.Held.{attr_utf8}
use Rattle.arch_laws.proofs.HeldBlocks.{AreHeld, held_kids, one_few, flat_short}
use Rattle.arch_laws.proofs.Siblings.{Gives, siblings}
use Rattle.arch_laws.proofs.Texts.{named_by, plain_decided, same_text, count_is}
use Rattle.arch_laws.proofs.Roles.{tag_is, fine_as, HoldsPorts, is_port}

abbrev pub word_of : Side → List ℕ
word_of Input = codes "input"
word_of Output = codes "output"
word_of Clock = codes "clock"

some_side : (s t : Side) → Some s ≡ Some t → s ≡ t
some_side s t same = cc

pub side_is : (e : Elem) (s : Side) → side_of e ≡ Some s → name_of e ≡ word_of s
side_is e s is = go (has_tag e (codes "input")) refl (has_tag e (codes "output")) refl (has_tag e (codes "clock")) refl is
  where
    go : (a : Bool) → has_tag e (codes "input") ≡ a → (b : Bool) → has_tag e (codes "output") ≡ b → (c : Bool) → has_tag e (codes "clock") ≡ c →
        (if a then Some Input else if b then Some Output else if c then Some Clock else None) ≡ Some s → name_of e ≡ word_of s
    go true at b bt c ct same = subst (λ t. name_of e ≡ word_of t) (some_side Input s same) (tag_is e (codes "input") at)
    go false at true bt c ct same = subst (λ t. name_of e ≡ word_of t) (some_side Output s same) (tag_is e (codes "output") bt)
    go false at false bt true ct same = subst (λ t. name_of e ≡ word_of t) (some_side Clock s same) (tag_is e (codes "clock") ct)
    go false at false bt false ct same = absurd (cc)

side_there : (r : Role) (holds : HoldsPorts r) (s : Side) → role_in r (word_of s) ≡ holds.port
side_there r holds Input = holds.input
side_there r holds Output = holds.output
side_there r holds Clock = holds.clock

pub port_role : (r : Role) (holds : HoldsPorts r) (n : List ℕ) (s : Side) → n ≡ word_of s → role_in r n ≡ holds.port
port_role r holds n s is = subst (λ m. role_in r m ≡ holds.port) (sym is) (side_there r holds s)

sort_port : (r : Role) → is_port r ≡ true → sort_of r ≡ Some sort.Ports
sort_port role.TilePort is = refl
sort_port role.Port is = refl
sort_port _ is = absurd (cc)

port_named : (r : Role) (Taken : Type 0) (e : Elem) → is_port r ≡ true → IsFine r Taken e → IsPlainName (attr_of e (codes "name"))
port_named role.TilePort Taken e is fine = named_by IsPlainName plain_decided role.TilePort Taken e (codes "num_pins" ∷ []) refl (λ un. un) (λ text may. may) fine
port_named role.Port Taken e is fine = named_by IsPlainName plain_decided role.Port Taken e (codes "num_pins" ∷ []) refl (λ un. un) (λ text may. may) fine
port_named _ Taken e is fine = absurd (cc)

abbrev pub port_with : Side → Elem → Port
port_with side e = record { name = attr_of e (codes "name"); side = side; width = count_in (out-Elem e).attrs (codes "num_pins") }

port_few : (e : Elem) → length (said_port e) ≤ elements e
port_few e = one_few e (said_port e) (go (side_of e))
  where
    go : (o : Option Side) → length (port_of o e) ≤ 1
    go None = omega arith
    go (Some s) = omega arith

module _ (at : Inside) (holds : HoldsPorts at.parent) where
  role_is : (e : Elem) (s : Side) → side_of e ≡ Some s → role_at at e ≡ holds.port
  role_is e s is = port_role at.parent holds (name_of e) s (side_is e s is)

  one_port : (before : List Elem) (e : Elem) → IsFineAt at before e → IsUtf8Elem e → All IsPort (said_port e)
  one_port before e own utf8 = go (side_of e) refl
    where
      go : (o : Option Side) → side_of e ≡ o → All IsPort (port_of o e)
      go None is = All-nil IsPort
      go (Some s) is =
          All-cons IsPort (port_with s e) [] (record {
            name = port_named holds.port _ e holds.is (fine_as (role_at at e) holds.port _ e (role_is e s is) own);
            utf8 = attr_utf8 e (codes "name") utf8;
            width = count_is (out-Elem e).attrs (codes "num_pins");
          }) (All-nil IsPort)

  gives_port : (before : List Elem) (e : Elem) → IsFineAt at before e → Gives at sort.Ports (λ (p : Port). p.name) e (said_port e)
  gives_port before e own = go (side_of e) refl
    where
      go : (o : Option Side) → side_of e ≡ o → Gives at sort.Ports (λ (p : Port). p.name) e (port_of o e)
      go None is = inl refl
      go (Some s) is = inr (port_with s e, refl, ap sort_of (role_is e s is) ∙ sort_port holds.port holds.is, same_text e (codes "name"))

  ports_among : (before elems : List Elem) → AreFine at before elems → AreHeld elems → ArePorts (flat_map said_port elems)
  ports_among before elems fine held = record {
    each = each_with IsPort IsUtf8Elem said_port at before elems fine held.utf8 (λ b e deep utf8. one_port b e deep.0 utf8);
    different = (siblings sort.Ports (λ (p : Port). p.name) said_port at before elems fine gives_port).different;
    few = flat_short said_port port_few elems held;
  }

  -- the ports that the children of an element say
  pub ports_good : (before : List Elem) (owner : Elem) → AreFine at before (kids_of owner) → IsUtf8Elem owner → elements owner < 2 ^ 32 →
      ArePorts (flat_map said_port (kids_of owner))
  ports_good before owner fine utf8 few = ports_among before (kids_of owner) fine (held_kids owner (record { utf8 = utf8; few = few }))
