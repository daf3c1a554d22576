-- What realises a task.
use Rattle.std.specs.Prelude.{◌≡◌, ◌<◌, ◌==◌, ◌⊎◌, ℕ, Bool, true, List, [], ◌∷◌, Option, Some, None, length, slice_get, slice_index_or, if◌then◌else◌}
use Rattle.std.specs.List.{list_any}
use Rattle.pb_expand.specs.declared.number.PbIx.{PbIx}
use Rattle.pb_expand.specs.Graph.{Graph, pb_ix}
use Rattle.prog_map.specs.declared.choice.LSite.{LSite}
use Rattle.prog_map.specs.declared.choice.LutChoice.TheVariants.{Wire}
use Rattle.prog_map.specs.Choices.{Choices, IsProgOf, mode_of, is_used, lut_of}
use Rattle.prog_map.specs.Live.{IsLiveAt, IsLiveSite}
use Rattle.prog_map.specs.Sites.{HasChoice}
use Rattle.prog_map.specs.Walk.{Carried}
use Rattle.task_types.specs.declared.task.Task.{Task}
use Rattle.task_types.specs.declared.task.Need.{Need}
use Rattle.task_types.specs.declared.task.Entry.{Entry}
use Rattle.task_types.specs.declared.task.Entries.TheVariants.{Fixed}
use Rattle.task_types.specs.declared.real.Real.{Real}
use Rattle.task_types.specs.Nets.{NetSaid}
use Rattle.task_types.specs.Ends.{IsEnd, IsSource, IsActive, IsRootInput}

-- the leaf is among those that the task lists for the atom at that place
abbrev pub can_hold : Task → ℕ → ℕ → Bool
can_hold t place leaf = list_any (λ (pb : PbIx). pb.0 == leaf) (slice_index_or t.homes place [])

-- the net that comes in at a pin
abbrev pub net_at : List Entry → ℕ → Option ℕ
net_at [] pin = None
net_at (e ∷ es) pin = if e.pin.0 == pin then Some e.net else net_at es pin

-- the home of the atom at that place is the leaf
abbrev pub IsAt : Real → ℕ → ℕ → Type 0
IsAt r place leaf = slice_get r.homes place ≡ Some (pb_ix leaf)

-- the net comes in at the pin
abbrev pub Enters : Real → ℕ → ℕ → Type 0
Enters r net pin = net_at r.entries pin ≡ Some net

-- the leaf is a LUT that passes an input on
pub record PassesOn (c : Choices) (leaf : ℕ) : Type 0 where
  pub input : ℕ
  pub holds : lut_of c leaf ≡ Some (Wire input)

-- each atom has a home of its own, which can hold it, is live and used, and whose table is left open
pub record HasHomes (g : Graph) (t : Task) (r : Real) : Type 0 where
  pub each : length r.homes ≡ length t.atoms
  pub holds : (place leaf : ℕ) → IsAt r place leaf → can_hold t place leaf ≡ true
  pub live : (place leaf : ℕ) → IsAt r place leaf → IsLiveAt g (mode_of r.prog) leaf
  pub used : (place leaf : ℕ) → IsAt r place leaf → is_used r.prog leaf ≡ true
  pub open' : (place leaf : ℕ) → IsAt r place leaf → lut_of r.prog leaf ≡ None
  pub apart : (i j leaf : ℕ) → IsAt r i leaf → IsAt r j leaf → i ≡ j

-- entries are nets of the task at input or clock pins of the block, by ascending pins; where the task
-- fixes them they are those
pub record HasEntries (g : Graph) (t : Task) (r : Real) : Type 0 where
  pub pins : (k : ℕ) (e : Entry) → slice_get r.entries k ≡ Some e → IsRootInput g e.pin.0
  pub nets : (k : ℕ) (e : Entry) → slice_get r.entries k ≡ Some e → e.net < length t.nets
  pub ascending : (i j : ℕ) (e f : Entry) → i < j → slice_get r.entries i ≡ Some e → slice_get r.entries j ≡ Some f → e.pin.0 < f.pin.0
  pub fixed : (es : List Entry) → t.entries ≡ Fixed es → r.entries ≡ es

-- the need is met: a pin at which it can be is carried from a pin from which its net comes
pub record IsMet (g : Graph) (n : NetSaid) (t : Task) (r : Real) (need : Need) : Type 0 where
  pub last : ℕ
  pub is_end : IsEnd g n t (IsAt r) need last
  pub source : ℕ
  pub is_source : IsSource g n t (IsAt r) (Enters r) need source
  pub carried : Carried g r.prog last source

-- the programming with these homes and entries realises the task
pub record Realises (g : Graph) (n : NetSaid) (t : Task) (r : Real) : Type 0 where
  pub of : IsProgOf g r.prog
  pub homes : HasHomes g t r
  -- a leaf in use is a home, or a LUT that passes an input on
  pub leaves : (leaf : ℕ) → is_used r.prog leaf ≡ true → ((place : ℕ) × IsAt r place leaf) ⊎ PassesOn r.prog leaf
  pub entries : HasEntries g t r
  -- choices stand at live sites alone
  pub live : (site : LSite) → HasChoice r.prog site → IsLiveSite g (mode_of r.prog) (is_used r.prog) site
  pub met : (k : ℕ) (need : Need) → slice_get t.needs k ≡ Some need → IsActive t (Enters r) need → IsMet g n t r need

abbrev pub NothingRealises : Graph → NetSaid → Task → Type 0
NothingRealises g n t = (r : Real) → Realises g n t r → ⊥
