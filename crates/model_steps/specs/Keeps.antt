-- What a model keeps, line by line.
use Rattle.std.specs.Prelude.{◌≡◌, ◌≤◌, ℕ, List, length}
use Rattle.std.specs.List.{All, flat_map}
use Rattle.list_laws.specs.Orders.{Once}
use Rattle.arch_types.specs.declared.arch.CellModel.{CellModel}
use Rattle.net_types.specs.Words.{IsNetName}
use Rattle.net_types.specs.Merges.{Mention}
use Rattle.blif_parts.specs.Models.{ModelSaid, elems_of}
use Rattle.model_steps.specs.Items.{nets_by, outs_by, AreCalled}
use Rattle.model_steps.specs.Fits.{FitElems}

-- its lines have up to so many words
pub record Keeps (models : List CellModel) (words : ℕ) (m : ModelSaid) : Type 0 where
  pub nets : All IsNetName m.book.nets
  pub nets_once : Once m.book.nets
  pub nets_few : length m.book.nets ≤ words
  -- the items, in the order of the file, number the nets by first mention
  pub mentioned : Mention 0 (flat_map nets_by m.items) (length m.book.nets)
  pub few : length (flat_map nets_by m.items) ≤ words
  pub driven : m.book.driven ≡ flat_map outs_by m.items
  pub driven_once : Once m.book.driven
  pub named : AreCalled m.book.nets m.items m.book.names
  pub names_once : Once m.book.names
  pub fit : FitElems models m.book.nets 0 (elems_of m.items)
