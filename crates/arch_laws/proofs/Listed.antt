-- What holds of all that the elements in the lists of an element say.
use Rattle.std.proofs.Common.{◌≤◌, ℕ, Bool, true, false, List, [], if◌then◌else◌, length}
use Rattle.std.specs.List.{All, flat_map}
use Rattle.std.proofs.lemmas.List.Elements.{All-nil}
use Rattle.elem_text.specs.declared.elem.Elem.{Elem}
use Rattle.elem_text.specs.Held.{elements}
use Rattle.elem_attrs.specs.Attributes.{has_tag}
use Rattle.arch_build.specs.Said.{inside, within}
use Rattle.arch_types.specs.Counts.{IsShort}
use Rattle.arch_laws.proofs.Lists.{flat_with}
use Rattle.arch_laws.proofs.Held.{within_few}
use Rattle.arch_laws.proofs.HeldBlocks.{IsHeld, held_kids, held_each, flat_short}

pub kids_held : (e : Elem) → IsHeld e → All IsHeld (inside e)
kids_held e held = held_each (inside e) (held_kids e held)

-- of the children themselves
pub kids_all : {X : Type 0} (P : X → Type 0) (f : Elem → List X) → ((e : Elem) → IsHeld e → All P (f e)) → (e : Elem) → IsHeld e → All P (flat_map f (inside e))
kids_all P f gives e held = flat_with P IsHeld f gives (inside e) (kids_held e held)

pub kids_short : {X : Type 0} (f : Elem → List X) → ((e : Elem) → length (f e) ≤ elements e) → (e : Elem) → IsHeld e → IsShort (flat_map f (inside e))
kids_short f few e held = flat_short f few (inside e) (held_kids e held)

-- of the elements in the children of this name
module _ {X : Type 0} (word : List ℕ) (f : Elem → List X) where
  one_list : (P : X → Type 0) → ((e : Elem) → IsHeld e → All P (f e)) → (e : Elem) → IsHeld e → All P (within word f e)
  one_list P gives e held = go (has_tag e word)
    where
      go : (t : Bool) → All P (if t then flat_map f (inside e) else [])
      go false = All-nil P
      go true = kids_all P f gives e held

  pub listed_all : (P : X → Type 0) → ((e : Elem) → IsHeld e → All P (f e)) → (e : Elem) → IsHeld e → All P (flat_map (within word f) (inside e))
  listed_all P gives e held = kids_all P (within word f) (one_list P gives) e held

  pub listed_short : ((e : Elem) → length (f e) ≤ elements e) → (e : Elem) → IsHeld e → IsShort (flat_map (within word f) (inside e))
  listed_short few e held = kids_short (within word f) (within_few word f few) e held
