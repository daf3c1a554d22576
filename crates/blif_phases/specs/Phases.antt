-- Where the lines of a file stand (BLIF, "Models"): the first line with a word begins the model,
-- `.end` ends it, and later models are black boxes, which are passed over.
use Rattle.std.specs.Prelude.{◌≡◌, ◌⊎◌, ℕ, true, false, List, [], ◌∷◌, codes}
use Rattle.vtr_base.specs.Spans.{AreWords}
use Rattle.blif_lines.specs.Lines.{LineSaid}
use Rattle.blif_elems.specs.Statements.{Said, says_nothing, says_model, says_inputs, says_outputs, says_names, says_latch, says_box, says_param, says_passed, says_end, says_row, WordsSay}
use Rattle.blif_elems.specs.Faults.{FaultSaid, is_bad, is_wide, is_other_latch, is_unread, IsFault}
use Rattle.blif_phases.specs.declared.phase.Phase.{Phase}
use Rattle.blif_phases.specs.declared.phase.Phase.TheVariants.{Before, Inside, Behind, Later, BlackBox}

-- the words of a line; one that isn't UTF-8 has none that are read
pub record HasWords (l : LineSaid) (words : List (List ℕ)) : Type 0 where
  pub utf8 : l.is_utf8 ≡ true
  pub are : AreWords l.text words

-- what a line says may stand in this phase, and the other one follows
abbrev pub Leads : Phase → Said → Phase → Type 0
Leads Before says_nothing next = next ≡ Before
Leads Before (says_model name) next = next ≡ Inside
Leads Before _ next = ⊥
Leads Inside (says_model name) next = ⊥
Leads Inside says_end next = next ≡ Behind
Leads Inside _ next = next ≡ Inside
Leads Behind says_nothing next = next ≡ Behind
Leads Behind (says_model name) next = next ≡ Later
Leads Behind _ next = ⊥
Leads Later _ next = ⊥
Leads BlackBox _ next = ⊥

-- the line is read and says this
pub record IsReadAt (phase : Phase) (l : LineSaid) (next : Phase) (s : Said) : Type 0 where
  pub words : List (List ℕ)
  pub has : HasWords l words
  pub says : WordsSay words s
  pub leads : Leads phase s next

-- the line has this one word
abbrev pub IsLone : LineSaid → List ℕ → Type 0
IsLone l word = HasWords l (word ∷ [])

-- a line of a later model is passed over; of its lines only `.blackbox` and `.end` are looked for
abbrev pub PassesOver : Phase → LineSaid → Phase → Type 0
PassesOver Later l next =
    (IsLone l (codes ".blackbox") × (next ≡ BlackBox))
    ⊎ ((IsLone l (codes ".blackbox") → ⊥) × (IsLone l (codes ".end") → ⊥) × (next ≡ Later))
PassesOver BlackBox l next =
    (IsLone l (codes ".end") × (next ≡ Behind))
    ⊎ ((IsLone l (codes ".end") → ⊥) × (next ≡ BlackBox))
PassesOver _ l next = ⊥

-- a line leads from the one phase to the other, and says this to those who read the model
abbrev pub GoesOn : Phase → LineSaid → Phase → Said → Type 0
GoesOn phase l next s =
    IsReadAt phase l next s ⊎ (PassesOver phase l next × (s ≡ says_nothing))

-- why a line stops
pub data StopSaid : Type 0 where
  stops_bad : StopSaid
  stops_wide : (output : List ℕ) → StopSaid
  stops_latch : (made : List ℕ) → StopSaid
  stops_unread : (word : List ℕ) → StopSaid
  stops_stray : (model : List ℕ) → StopSaid

-- outside the model a `.names` isn't of the format, however many inputs it has
abbrev pub wide : Phase → List ℕ → StopSaid
wide Inside output = stops_wide output
wide _ output = stops_bad

-- by a fault of its words
abbrev pub stop_of : Phase → FaultSaid → StopSaid
stop_of phase is_bad = stops_bad
stop_of phase (is_wide output) = wide phase output
stop_of phase (is_other_latch made) = stops_latch made
stop_of phase (is_unread word) = stops_unread word

-- by what it says, where that doesn't stand in the phase
abbrev pub stray : Said → StopSaid
stray (says_box model pins) = stops_stray model
stray _ = stops_bad

pub record HasFault (phase : Phase) (l : LineSaid) (stop : StopSaid) : Type 0 where
  pub words : List (List ℕ)
  pub has : HasWords l words
  pub fault : FaultSaid
  pub is_fault : IsFault words fault
  pub stop_is : stop ≡ stop_of phase fault

pub record IsStray (phase : Phase) (l : LineSaid) (stop : StopSaid) : Type 0 where
  pub words : List (List ℕ)
  pub has : HasWords l words
  pub said : Said
  pub says : WordsSay words said
  pub none : (next : Phase) → Leads phase said next → ⊥
  pub stop_is : stop ≡ stray said

-- a line that is to be read stops
abbrev pub IsRefused : Phase → LineSaid → StopSaid → Type 0
IsRefused phase l stop =
    ((l.is_utf8 ≡ false) × (stop ≡ stops_bad)) ⊎ (HasFault phase l stop ⊎ IsStray phase l stop)

-- a later model that ends without a `.blackbox` line stops there, for its first word
abbrev pub StopsAt : Phase → LineSaid → StopSaid → Type 0
StopsAt Later l stop = IsLone l (codes ".end") × (stop ≡ stops_unread (codes ".model"))
StopsAt BlackBox l stop = ⊥
StopsAt phase l stop = IsRefused phase l stop
