-- What clauses see of a draft: the lines that are read say this model.
use Rattle.std.specs.Prelude.{◌≡◌, ◌≤◌, ℕ, List, count_by, length}
use Rattle.arch_types.specs.declared.arch.CellModel.{CellModel}
use Rattle.blif_elems.specs.Statements.{Said, says_names}
use Rattle.blif_items.specs.declared.open.Open.{Open}
use Rattle.blif_items.specs.declared.open.Open.TheVariants.{Nothing as OpenNothing, Lut as OpenLut, Latch as OpenLatch, Box as OpenBox}
use Rattle.blif_items.specs.Items.{ElemSaid}
use Rattle.blif_items.specs.Seen.{AreElems, IsOpen}
use Rattle.blif_parts.specs.Models.{ModelSaid, inputs_of, outputs_of, elems_of, is_cell_elem}
use Rattle.blif_parts.specs.Adds.{Adds}
use Rattle.blif_drafts.specs.declared.draft.Draft.{Draft}
use Rattle.blif_drafts.specs.declared.elements.Elements.{Elements}

-- how many boxes an element is
abbrev pub box_count : Open → ℕ
box_count OpenNothing = 0
box_count (OpenLut name inputs output cover) = 0
box_count (OpenLatch name loaded made control) = 0
box_count (OpenBox name model pins params) = 1

-- these are the elements
pub record HoldsElems (all : List ElemSaid) (d : Elements) : Type 0 where
  pub front : List ElemSaid
  pub whole : AreElems front d.whole.items
  pub last : IsOpen front all d.last
  pub boxes : d.boxes ≡ count_by is_cell_elem all

pub record Holds (m : ModelSaid) (d : Draft) : Type 0 where
  pub book : d.book ≡ m.book
  pub inputs : d.inputs ≡ inputs_of m.items
  pub outputs : d.outputs ≡ outputs_of m.items
  pub elems : HoldsElems (elems_of m.items) d.elements

-- the line adds something to the model, which is the draft's now
pub record Grows (models : List CellModel) (m : ModelSaid) (s : Said) (d : Draft) : Type 0 where
  pub new : ModelSaid
  pub adds : Adds models m s new
  pub holds : Holds new d

-- a `.names` has no more inputs than a table takes
abbrev pub IsNarrow : Said → Type 0
IsNarrow (says_names inputs output) = length inputs ≤ 8
IsNarrow _ = Unit {0}
