-- What elements hold and how many things they say, where they are UTF-8 and fewer than 2^32.
use Rattle.std.proofs.Common.{◌≤◌, ◌<◌, ◌^◌, ℕ, Bool, true, false, List, [], ◌∷◌, codes, arith, if◌then◌else◌, length}
use Rattle.std.specs.List.{All, flat_map}
use Rattle.std.proofs.lemmas.List.Elements.{All-nil, All-cons, All-head, All-tail}
use Rattle.arch_types.specs.declared.block.Meta.{Meta}
use Rattle.arch_types.specs.declared.block.Pattern.{Pattern}
use Rattle.elem_text.specs.declared.elem.Elem.{Elem, out-Elem}
use Rattle.elem_text.specs.Held.{IsUtf8Elem, elements}
use Rattle.elem_attrs.specs.Attributes.{has_tag, attr_of}
use Rattle.arch_build.specs.Said.{inside, within, said_meta, said_metas, said_pattern}
use Rattle.arch_types.specs.Counts.{IsShort}
use Rattle.arch_types.specs.Blocks.{IsMeta, AreMetas, IsPattern, ArePatterns}
use Rattle.arch_laws.proofs.Lists.{flat_with}
use Rattle.arch_laws.proofs.Held.{attr_utf8, text_utf8, inside_utf8, total, elements_is, flat_few, within_few}

-- an element with those below
pub record IsHeld (e : Elem) : Type 0 where
  pub utf8 : IsUtf8Elem e
  pub few : elements e < 2 ^ 32

pub record AreHeld (elems : List Elem) : Type 0 where
  pub utf8 : All IsUtf8Elem elems
  pub few : total elems < 2 ^ 32

pub held_kids : (e : Elem) → IsHeld e → AreHeld (inside e)
held_kids e held =
    let few = held.few in
    let is = elements_is e in
    record { utf8 = inside_utf8 e held.utf8; few = omega (arith, is, few) }

pub held_first : (e : Elem) (rest : List Elem) → AreHeld (e ∷ rest) → IsHeld e
held_first e rest held = let few = held.few in record { utf8 = All-head IsUtf8Elem e rest held.utf8; few = omega (arith, few) }

pub held_rest : (e : Elem) (rest : List Elem) → AreHeld (e ∷ rest) → AreHeld rest
held_rest e rest held = let few = held.few in record { utf8 = All-tail IsUtf8Elem e rest held.utf8; few = omega (arith, few) }

pub held_each : (elems : List Elem) → AreHeld elems → All IsHeld elems
held_each [] held = All-nil IsHeld
held_each (e ∷ rest) held = All-cons IsHeld e rest (held_first e rest held) (held_each rest (held_rest e rest held))

-- an element that says one thing at most
pub one_few : {X : Type 0} (e : Elem) (xs : List X) → length xs ≤ 1 → length xs ≤ elements e
one_few e xs few = let is = elements_is e in omega (arith, is, few)

pub if_few : {X : Type 0} (e : Elem) (t : Bool) (x : X) → length (if t then x ∷ [] else []) ≤ elements e
if_few e true x = one_few e (x ∷ []) (omega arith)
if_few {X} e false x = one_few {X = X} e [] (omega arith)

pub flat_short : {X : Type 0} (f : Elem → List X) → ((e : Elem) → length (f e) ≤ elements e) → (elems : List Elem) → AreHeld elems → IsShort (flat_map f elems)
flat_short f few elems held =
    let small = flat_few f few elems in
    let large = held.few in
    omega (arith, small, large)

pub within_all : {X : Type 0} (P : X → Type 0) (name : List ℕ) (f : Elem → List X) → ((e : Elem) → IsUtf8Elem e → All P (f e)) →
    (e : Elem) → IsUtf8Elem e → All P (within name f e)
within_all {X} P name f gives e utf8 = go (has_tag e name)
  where
    go : (t : Bool) → All P (if t then flat_map f (inside e) else [])
    go false = All-nil P
    go true = flat_with P IsUtf8Elem f gives (inside e) (inside_utf8 e utf8)

one_meta : (e : Elem) → IsUtf8Elem e → All IsMeta (said_meta e)
one_meta e utf8 = go (has_tag e (codes "meta"))
  where
    meta : Meta
    meta = record { name = attr_of e (codes "name"); text = (out-Elem e).text }

    go : (t : Bool) → All IsMeta (if t then meta ∷ [] else [])
    go false = All-nil IsMeta
    go true = All-cons IsMeta meta [] (record { name = attr_utf8 e (codes "name") utf8; text = text_utf8 e utf8 }) (All-nil IsMeta)

meta_few : (e : Elem) → length (said_meta e) ≤ elements e
meta_few e = if_few e (has_tag e (codes "meta")) _

-- the metas that these elements say
pub metas_good : (elems : List Elem) → AreHeld elems → AreMetas (said_metas elems)
metas_good elems held = record {
  each = flat_with IsMeta IsUtf8Elem (within (codes "metadata") said_meta) (within_all IsMeta (codes "metadata") said_meta one_meta) elems held.utf8;
  few = flat_short (within (codes "metadata") said_meta) (within_few (codes "metadata") said_meta meta_few) elems held;
}

one_pattern : (e : Elem) → IsUtf8Elem e → All IsPattern (said_pattern e)
one_pattern e utf8 = go (has_tag e (codes "pack_pattern"))
  where
    pattern : Pattern
    pattern = record { name = attr_of e (codes "name"); in_port = attr_of e (codes "in_port"); out_port = attr_of e (codes "out_port") }

    go : (t : Bool) → All IsPattern (if t then pattern ∷ [] else [])
    go false = All-nil IsPattern
    go true =
        All-cons IsPattern pattern []
        (record { name = attr_utf8 e (codes "name") utf8; in_port = attr_utf8 e (codes "in_port") utf8; out_port = attr_utf8 e (codes "out_port") utf8 })
        (All-nil IsPattern)

-- the patterns that these elements say
pub patterns_good : (elems : List Elem) → AreHeld elems → ArePatterns (flat_map said_pattern elems)
patterns_good elems held = record {
  each = flat_with IsPattern IsUtf8Elem said_pattern one_pattern elems held.utf8;
  few = flat_short said_pattern (λ e. if_few e (has_tag e (codes "pack_pattern")) _) elems held;
}
