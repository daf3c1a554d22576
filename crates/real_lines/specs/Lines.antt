-- What a line of a realisation's text says: where an atom is at home, which net comes in at a pin, or a
-- choice of the programming; and what a line lacks that says nothing.
use Rattle.std.specs.Prelude.{◌≡◌, ◌⊎◌, ℕ, false, true, List, [], ◌∷◌, codes, IsUtf8}
use Rattle.pb_expand.specs.Graph.{Graph}
use Rattle.prog_map.specs.Leaves.{IsLeaf}
use Rattle.prog_text.specs.declared.error.ProgError.{ProgError}
use Rattle.prog_text.specs.declared.error.ProgError.TheVariants.{BadLine, NoSuchSite, NoSuchChoice, TwiceSet, OutOfMemory}
use Rattle.prog_text.specs.Names.{NamesInstance, NamesPin}
use Rattle.prog_text.specs.Sayings.{AreWords, Saying, Says}
use Rattle.prog_text.specs.Settings.{IsNamed, LacksInstance, LacksSite, LacksChoice}
use Rattle.task_types.specs.declared.task.Task.{Task}
use Rattle.task_types.specs.Ends.{IsRootInput}
use Rattle.task_types.specs.Realises.{can_hold}
use Rattle.tree_lines.specs.Words.{NamesAtom}
use Rattle.real_lines.specs.declared.line.RealLine.{RealLine}
use Rattle.real_lines.specs.declared.line.RealLine.TheVariants.{Home, Enter, Choice}

-- the line is this keyword and two words more
pub record SaysTwo (line keyword first second : List ℕ) : Type 0 where
  pub utf8 : IsUtf8 line
  pub divided : AreWords line (keyword ∷ first ∷ second ∷ [])

-- an atom of the task, by its place, and a leaf that the task lists for it; `atoms` has the names of the
-- task's atoms
pub record NamesHome (g : Graph) (t : Task) (atoms : List (List ℕ)) (atom instance : List ℕ) (place leaf : ℕ) : Type 0 where
  pub is_atom : NamesAtom atoms atom place
  pub is_instance : NamesInstance g instance leaf
  pub is_leaf : IsLeaf g leaf
  pub holds : can_hold t place leaf ≡ true

-- an input or clock pin of the block, and a net of the task, by its place; `nets` has the names of the
-- task's nets
pub record NamesEnter (g : Graph) (nets : List (List ℕ)) (at name : List ℕ) (pin net : ℕ) : Type 0 where
  pub is_pin : NamesPin g at pin
  pub is_input : IsRootInput g pin
  pub is_net : NamesAtom nets name net

-- the line spells this: `home ATOM INST`, `enter PIN NET`, or what a line of a programming says
abbrev pub SpellsLine : Graph → Task → List (List ℕ) → List (List ℕ) → List ℕ → RealLine → Type 0
SpellsLine g t atoms nets line (Home place leaf) =
    (atom instance : List ℕ) × SaysTwo line (codes "home") atom instance × NamesHome g t atoms atom instance place leaf.0
SpellsLine g t atoms nets line (Enter entry) =
    (at name : List ℕ) × SaysTwo line (codes "enter") at name × NamesEnter g nets at name entry.pin.0 entry.net
SpellsLine g t atoms nets line (Choice setting) = IsNamed g (Says line) setting

-- the line is of no form
pub record SaysNothing (line : List ℕ) : Type 0 where
  pub no_home : (atom instance : List ℕ) → SaysTwo line (codes "home") atom instance → ⊥
  pub no_enter : (at name : List ℕ) → SaysTwo line (codes "enter") at name → ⊥
  pub no_choice : (saying : Saying) → Says line saying → ⊥

-- the atom isn't one of the task, or the instance isn't there or no leaf
abbrev pub LacksHome : Graph → List (List ℕ) → List ℕ → List ℕ → Type 0
LacksHome g atoms atom instance = ((place : ℕ) → NamesAtom atoms atom place → ⊥) ⊎ LacksInstance g instance (IsLeaf g)

-- atom and leaf are there, but the task doesn't list the leaf for the atom
pub record LacksLeaf (g : Graph) (t : Task) (atoms : List (List ℕ)) (atom instance : List ℕ) : Type 0 where
  pub place : ℕ
  pub leaf : ℕ
  pub is_atom : NamesAtom atoms atom place
  pub is_instance : NamesInstance g instance leaf
  pub is_leaf : IsLeaf g leaf
  pub fails : can_hold t place leaf ≡ false

-- the pin isn't there, or is no input or clock pin of the block
abbrev pub LacksPin : Graph → List ℕ → Type 0
LacksPin g at = (pin : ℕ) → NamesPin g at pin → IsRootInput g pin → ⊥

-- the pin is there, but the net isn't one of the task
pub record LacksNet (g : Graph) (nets : List (List ℕ)) (at name : List ℕ) : Type 0 where
  pub pin : ℕ
  pub is_pin : NamesPin g at pin
  pub is_input : IsRootInput g pin
  pub lacks : (net : ℕ) → NamesAtom nets name net → ⊥

-- what the words behind `home` lack, in the line with this number
abbrev pub LacksAtHome : Graph → Task → List (List ℕ) → List ℕ → List ℕ → ℕ → ProgError → Type 0
LacksAtHome g t atoms atom instance number (NoSuchSite at) = (at ≡ number) × LacksHome g atoms atom instance
LacksAtHome g t atoms atom instance number (NoSuchChoice at) = (at ≡ number) × LacksLeaf g t atoms atom instance
LacksAtHome g t atoms atom instance number (BadLine at) = ⊥
LacksAtHome g t atoms atom instance number (TwiceSet at) = ⊥
LacksAtHome g t atoms atom instance number OutOfMemory = ⊥

-- what the words behind `enter` lack
abbrev pub LacksAtEnter : Graph → List (List ℕ) → List ℕ → List ℕ → ℕ → ProgError → Type 0
LacksAtEnter g nets at name number (NoSuchSite line) = (line ≡ number) × LacksPin g at
LacksAtEnter g nets at name number (NoSuchChoice line) = (line ≡ number) × LacksNet g nets at name
LacksAtEnter g nets at name number (BadLine line) = ⊥
LacksAtEnter g nets at name number (TwiceSet line) = ⊥
LacksAtEnter g nets at name number OutOfMemory = ⊥

-- why the line with this number spells nothing: it is of no form, or what it says lacks something
abbrev pub LacksLine : Graph → Task → List (List ℕ) → List (List ℕ) → List ℕ → ℕ → ProgError → Type 0
LacksLine g t atoms nets line number (BadLine at) = (at ≡ number) × SaysNothing line
LacksLine g t atoms nets line number (NoSuchSite at) =
    (at ≡ number)
    × (((atom instance : List ℕ) × SaysTwo line (codes "home") atom instance × LacksHome g atoms atom instance)
    ⊎ (((pin name : List ℕ) × SaysTwo line (codes "enter") pin name × LacksPin g pin)
    ⊎ ((saying : Saying) × Says line saying × LacksSite g saying)))
LacksLine g t atoms nets line number (NoSuchChoice at) =
    (at ≡ number)
    × (((atom instance : List ℕ) × SaysTwo line (codes "home") atom instance × LacksLeaf g t atoms atom instance)
    ⊎ (((pin name : List ℕ) × SaysTwo line (codes "enter") pin name × LacksNet g nets pin name)
    ⊎ ((saying : Saying) × Says line saying × LacksChoice g saying)))
LacksLine g t atoms nets line number (TwiceSet at) = ⊥
LacksLine g t atoms nets line number OutOfMemory = Unit {0}
