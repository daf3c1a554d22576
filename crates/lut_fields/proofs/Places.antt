-- The owners at each address stand among those of the block type.
use Rattle.std.proofs.Common.{◌≡◌, inl, inr, ℕ, Bool, true, false, nat_lt, if◌then◌else◌, List, [], ◌∷◌, Option, Some, None, slice_get, refl, sym, ap, ◌∙◌, subst}
use Rattle.std.specs.Option.{option_and_then}
use Rattle.std.specs.List.{flat_map}
use Rattle.vtr_base.specs.Lists.{Has}
use Rattle.list_laws.proofs.Members.{has_at, has_left, has_right, has_map}
use Rattle.arch_types.specs.declared.block.PbType.{PbType}
use Rattle.arch_types.specs.declared.block.Mode.{Mode}
use Rattle.arch_types.specs.declared.block.Inter.{Inter}
use Rattle.arch_types.specs.Address.{Hop, Address, at, child_at}
use Rattle.arch_types.specs.Tree.{name_of_mode, modes_of, kids_of, inters_of}
use Rattle.meta_lines.specs.Each.{Each}
use Rattle.meta_lines.specs.declared.types.PinFeatures.{PinFeatures}
use Rattle.meta_said.specs.declared.types.OwnerMeta.{OwnerMeta}
use Rattle.meta_said.specs.Inters.{SaysInter}
use Rattle.meta_block.specs.declared.types.OwnerSaid.{OwnerSaid}
use Rattle.meta_block.specs.declared.types.OwnerSaid.TheVariants as say
use Rattle.meta_block.specs.Owners.{Owner, pb_type_at, mode_at, inter_at, SaysOwner}
use Rattle.meta_block.specs.Blocks.{way_to, mode_owners, inter_owners, opened_mode, owners_below, owners_of, SaysBlock}
use Rattle.lut_fields.specs.Places.{PbTypeSays, ModeSays, OwnersSay}
use Rattle.lut_fields.proofs.Rows.{kind_owners_is, mode_owners_is}

-- one step down

pub record StepParts (block : PbType) (hop : Hop) (kid : PbType) : Type 0 where
  pub mode : Mode
  pub in_modes : slice_get (modes_of block.kind) hop.mode ≡ Some mode
  pub in_kids : slice_get (kids_of mode) hop.child ≡ Some kid

abbrev counted : Hop → PbType → Option PbType
counted hop p = if nat_lt hop.instance p.count then Some p else None

pub step_parts : (block : PbType) (hop : Hop) (kid : PbType) → child_at block hop ≡ Some kid → StepParts block hop kid
step_parts block hop kid is = by_mode (slice_get (modes_of block.kind) hop.mode) refl is
  where
    counts : (t : Bool) (p : PbType) → (if t then Some p else None) ≡ Some kid → p ≡ kid
    counts true p e = cc
    counts false p e = absurd (cc)

    by_kid : (mode : Mode) → slice_get (modes_of block.kind) hop.mode ≡ Some mode → (o : Option PbType) → slice_get (kids_of mode) hop.child ≡ o → option_and_then (counted hop) o ≡ Some kid → StepParts block hop kid
    by_kid mode there None at e = absurd (cc)
    by_kid mode there (Some p) at e = record { mode = mode; in_modes = there; in_kids = at ∙ ap Some (counts (nat_lt hop.instance p.count) p e) }

    by_mode : (o : Option Mode) → slice_get (modes_of block.kind) hop.mode ≡ o → option_and_then (λ (mode : Mode). option_and_then (counted hop) (slice_get (kids_of mode) hop.child)) o ≡ Some kid → StepParts block hop kid
    by_mode None there e = absurd (cc)
    by_mode (Some mode) there e = by_kid mode there (slice_get (kids_of mode) hop.child) refl e

-- what stands among parts

has_flat : {X : Type 0} (f : X → List Owner) (xs : List X) (x : X) (o : Owner) → Has xs x → Has (f x) o → Has (flat_map f xs) o
has_flat f [] x o among has = absurd among
has_flat f (y ∷ xs) x o (inl is) has = has_left (f y) (flat_map f xs) o (subst (λ z. Has (f z) o) is has)
has_flat f (y ∷ xs) x o (inr later) has = has_right (f y) (flat_map f xs) o (has_flat f xs x o later has)

-- the owners of a mode of a pb_type are among its own
in_mode : (way : List (List ℕ)) (block : PbType) (n : ℕ) (mode : Mode) (o : Owner) → slice_get (modes_of block.kind) n ≡ Some mode →
    Has (opened_mode (way_to (way_to way block.name) (name_of_mode mode)) block mode) o → Has (owners_below way block) o
in_mode way block n mode o there has =
    let here = way_to way block.name in
    let among : Has (flat_map (mode_owners here block) (modes_of block.kind)) o =
    has_flat (mode_owners here block) (modes_of block.kind) mode o (has_at (modes_of block.kind) n mode there) (subst (λ (l : List Owner). Has l o) (sym (mode_owners_is here block mode)) has) in
    inr (subst (λ (l : List Owner). Has l o) (sym (kind_owners_is here block block.kind)) among)

-- each owner of a child is among its parent's
pub in_kid : (way : List (List ℕ)) (block : PbType) (hop : Hop) (kid : PbType) (o : Owner) → (step : StepParts block hop kid) →
    Has (owners_below (way_to (way_to way block.name) (name_of_mode step.mode)) kid) o → Has (owners_below way block) o
in_kid way block hop kid o step has =
    let here = way_to (way_to way block.name) (name_of_mode step.mode) in
    in_mode way block hop.mode step.mode o step.in_modes
    (inr (has_right (inter_owners here block step.mode) (flat_map (owners_below here) (kids_of step.mode)) o
    (has_flat (owners_below here) (kids_of step.mode) kid o (has_at (kids_of step.mode) hop.child kid step.in_kids) has)))

-- the owners at an address are among those of the block type
pub record IsAmong (way : List (List ℕ)) (block p : PbType) : Type 0 where
  pub here : List (List ℕ)
  pub among : (o : Owner) → Has (owners_below here p) o → Has (owners_below way block) o

some_one : (x y : PbType) → Some x ≡ Some y → x ≡ y
some_one x y e = cc

pub at_among : (way : List (List ℕ)) (block : PbType) (a : Address) (p : PbType) → at block a ≡ Some p → IsAmong way block p
at_among way block [] p is = subst (λ (x : PbType). IsAmong way block x) (some_one block p is) (record { here = way; among = λ o has. has })
at_among way block (hop ∷ hops) p is = by (child_at block hop) refl is (λ w kid e. at_among w kid hops p e)
  where
    by : (o : Option PbType) → child_at block hop ≡ o → option_and_then (λ (kid : PbType). at kid hops) o ≡ Some p → ((w : List (List ℕ)) (kid : PbType) → at kid hops ≡ Some p → IsAmong w kid p) → IsAmong way block p
    by None child e rest = absurd (cc)
    by (Some kid) child e rest =
        let step = step_parts block hop kid child in
        let below = rest (way_to (way_to way block.name) (name_of_mode step.mode)) kid e in
        record { here = below.here; among = λ o has. in_kid way block hop kid o step (below.among o has) }

-- what one of the owners says

each_has : (owners : List Owner) (saids : List OwnerSaid) (o : Owner) → Each SaysOwner owners saids → Has owners o → (said : OwnerSaid) × SaysOwner o said
each_has [] saids o each has = absurd has
each_has (x ∷ owners) [] o each has = absurd each
each_has (x ∷ owners) (s ∷ saids) o each (inl is) = (s, subst (λ (y : Owner). SaysOwner y s) (sym is) each.0)
each_has (x ∷ owners) (s ∷ saids) o each (inr later) = each_has owners saids o each.1 later

as_pb_type : (way : List (List ℕ)) (p : PbType) (s : OwnerSaid) → SaysOwner (pb_type_at way p) s → (said : OwnerMeta) × PbTypeSays p said
as_pb_type way p (say.PbType said) is = (said, is)
as_pb_type way p (say.Mode said) is = absurd is
as_pb_type way p (say.Inter given) is = absurd is

as_mode : (way : List (List ℕ)) (m : Mode) (s : OwnerSaid) → SaysOwner (mode_at way m) s → (said : OwnerMeta) × ModeSays m said
as_mode way m (say.Mode said) is = (said, is)
as_mode way m (say.PbType said) is = absurd is
as_mode way m (say.Inter given) is = absurd is

as_inter : (way : List (List ℕ)) (p : PbType) (m : Mode) (i : Inter) (s : OwnerSaid) → SaysOwner (inter_at way p m i) s → (given : Option (List PinFeatures)) × SaysInter p m i given
as_inter way p m i (say.Inter given) is = (given, is)
as_inter way p m i (say.PbType said) is = absurd is
as_inter way p m i (say.Mode said) is = absurd is

module _ (block : PbType) (saids : List OwnerSaid) (all : SaysBlock block saids) where
  pb_type_says : (a : Address) (p : PbType) → at block a ≡ Some p → (said : OwnerMeta) × PbTypeSays p said
  pb_type_says a p is =
      let among = at_among [] block a p is in
      let said = each_has (owners_of block) saids (pb_type_at (way_to among.here p.name) p) all (among.among (pb_type_at (way_to among.here p.name) p) (inl refl)) in
      as_pb_type (way_to among.here p.name) p said.0 said.1

  mode_says : (a : Address) (p : PbType) (n : ℕ) (mode : Mode) → at block a ≡ Some p → slice_get (modes_of p.kind) n ≡ Some mode → (said : OwnerMeta) × ModeSays mode said
  mode_says a p n mode is there =
      let among = at_among [] block a p is in
      let way = way_to (way_to among.here p.name) (name_of_mode mode) in
      let said = each_has (owners_of block) saids (mode_at way mode) all (among.among (mode_at way mode) (in_mode among.here p n mode (mode_at way mode) there (inl refl))) in
      as_mode way mode said.0 said.1

  inter_says : (a : Address) (p : PbType) (n i : ℕ) (mode : Mode) (inter : Inter) → at block a ≡ Some p → slice_get (modes_of p.kind) n ≡ Some mode → slice_get (inters_of mode) i ≡ Some inter →
      (given : Option (List PinFeatures)) × SaysInter p mode inter given
  inter_says a p n i mode inter is there at =
      let among = at_among [] block a p is in
      let way = way_to (way_to among.here p.name) (name_of_mode mode) in
      let owner = inter_at (way_to way inter.name) p mode inter in
      let listed : Has (inter_owners way p mode) owner = has_map (λ (x : Inter). inter_at (way_to way x.name) p mode x) (inters_of mode) inter (has_at (inters_of mode) i inter at) in
      let said = each_has (owners_of block) saids owner all
      (among.among owner (in_mode among.here p n mode owner there (inr (has_left (inter_owners way p mode) (flat_map (owners_below way) (kids_of mode)) owner listed)))) in
      as_inter (way_to way inter.name) p mode inter said.0 said.1

  pub all_say : OwnersSay block
  all_say = record { pb_types = pb_type_says; modes = mode_says; inters = inter_says }
