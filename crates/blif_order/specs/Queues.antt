-- Lines that are taken one by one.
use denote.Bor.{Bor}
use Rattle.std.specs.Prelude.{◌≡◌, ◌≤◌, ◌<◌, ◌+◌, ◌⊎◌, ℕ, List, [], ◌∷◌, map}
use Rattle.net_types.specs.declared.atom.Atom.{Atom}
use Rattle.blif_order.specs.declared.queues.Queues.{Queues}
use Rattle.blif_order.specs.Tops.{top_of}

abbrev pub seen : List (Bor Atom) → List Atom
seen atoms = map (λ a. a.now) atoms

-- the first of these mentions a net behind the next one
abbrev pub IsBlocked : List Atom → ℕ → Type 0
IsBlocked [] known = Unit {0}
IsBlocked (atom ∷ atoms) known = known + 1 < top_of known atom

pub record TakesInput (old : Queues) (atom : Atom) (new : Queues) : Type 0 where
  pub first : seen old.inputs.now ≡ atom ∷ seen new.inputs.now
  pub outputs : seen new.outputs.now ≡ seen old.outputs.now
  pub elements : seen new.elements.now ≡ seen old.elements.now
  pub known : new.known ≡ top_of old.known atom
  pub near : new.known ≤ old.known + 1

pub record TakesOutput (old : Queues) (atom : Atom) (new : Queues) : Type 0 where
  pub first : seen old.outputs.now ≡ atom ∷ seen new.outputs.now
  pub inputs : seen new.inputs.now ≡ seen old.inputs.now
  pub elements : seen new.elements.now ≡ seen old.elements.now
  pub known : new.known ≡ top_of old.known atom
  pub near : new.known ≤ old.known + 1

pub record TakesElement (old : Queues) (atom : Atom) (new : Queues) : Type 0 where
  pub first : seen old.elements.now ≡ atom ∷ seen new.elements.now
  pub inputs : seen new.inputs.now ≡ seen old.inputs.now
  pub outputs : seen new.outputs.now ≡ seen old.outputs.now
  pub known : new.known ≡ top_of old.known atom

-- no input and no output can be next
pub record AreBlocked (q : Queues) : Type 0 where
  pub inputs : IsBlocked (seen q.inputs.now) q.known
  pub outputs : IsBlocked (seen q.outputs.now) q.known

-- the line of this atom is taken
abbrev pub Takes : Queues → Atom → Queues → Type 0
Takes old atom new =
    TakesInput old atom new
    ⊎ (TakesOutput old atom new ⊎ (AreBlocked old × TakesElement old atom new))

-- no line can be taken
pub record IsAllTaken (q : Queues) : Type 0 where
  pub blocked : AreBlocked q
  pub elements : seen q.elements.now ≡ []
