-- How a part of a file is read: its items one by one, each under a key of its own.
use Rattle.std.specs.Prelude.{◌≡◌, ◌⊎◌, List, [], ◌∷◌, ◌++◌, map}
use Rattle.list_laws.specs.Orders.{Once}
use Rattle.rr_places.specs.declared.error.PlaceError.{PlaceError}
use Rattle.rr_places.specs.declared.error.PlaceError.TheVariants.{OutOfMemory}

-- each item says the value at its place
abbrev pub EachSays : {A B : Type 0} → (A → B → Type 0) → List A → List B → Type 0
EachSays Says [] [] = Unit {0}
EachSays Says [] (b ∷ bs) = ⊥
EachSays Says (a ∷ zs) [] = ⊥
EachSays Says (a ∷ zs) (b ∷ bs) = Says a b × EachSays Says zs bs

-- the items say these values, and no two have one key
pub record AreRead {A B K : Type 0} (Says : A → B → Type 0) (key : B → K) (items : List A)
    (values : List B) : Type 0 where
  pub each : EachSays Says items values
  pub once : Once (map key values)

-- one item is refused so after the items before it were read
pub record IsFirstRefused {A B K E : Type 0} (Says : A → B → Type 0) (key : B → K)
    (Refused : List B → A → E → Type 0) (items : List A) (error : E) : Type 0 where
  pub before : List A
  pub item : A
  pub behind : List A
  pub spelled : items ≡ before ++ item ∷ behind
  pub values : List B
  pub read : AreRead Says key before values
  pub refused : Refused values item error

-- a refusal for this reason, or want of memory
abbrev pub OrMemory : (PlaceError → Type 0) → PlaceError → Type 0
OrMemory Refused error = (error ≡ OutOfMemory) ⊎ Refused error
