-- Netlists for an architecture: each box is of a model, and its connections are of ports of that.
use Rattle.std.specs.Prelude.{◌≡◌, ℕ, List, Some, codes, slice_get}
use Rattle.std.specs.List.{All}
use Rattle.vtr_base.specs.Lists.{Has}
use Rattle.arch_types.specs.declared.arch.CellModel.{CellModel}
use Rattle.arch_types.specs.declared.block.AtomKind.TheVariants.{Cell}
use Rattle.net_types.specs.declared.atom.Atom.{Atom}
use Rattle.net_types.specs.declared.atom.Conn.{Conn}
use Rattle.net_types.specs.declared.parts.NetlistParts.{NetlistParts}
use Rattle.net_types.specs.Words.{IsWord}

-- a net of the name `unconn` isn't connected to boxes, since the word stands for no net there
abbrev pub IsConnectable : List (List ℕ) → Conn → Type 0
IsConnectable nets conn = slice_get nets conn.net ≡ Some (codes "unconn") → ⊥

-- a port whose name stands among the inputs and among the outputs is an output
pub record IsInput (nets : List (List ℕ)) (model : CellModel) (conn : Conn) : Type 0 where
  pub port : Has model.ins conn.port
  pub not_output : Has model.outs conn.port → ⊥
  pub net : IsConnectable nets conn

pub record IsOutput (nets : List (List ℕ)) (model : CellModel) (conn : Conn) : Type 0 where
  pub port : Has model.outs conn.port
  pub net : IsConnectable nets conn

-- the box is of this model
pub record IsOfModel (models : List CellModel) (nets : List (List ℕ)) (number : ℕ) (atom : Atom) :
    Type 0 where
  pub model : CellModel
  pub there : slice_get models number ≡ Some model
  pub word : IsWord model.name
  pub ins : All (IsInput nets model) atom.ins
  pub outs : All (IsOutput nets model) atom.outs

-- all boxes are of these models
abbrev pub FitsModels : List CellModel → NetlistParts → Type 0
FitsModels models n =
    (number : ℕ) (atom : Atom) → Has n.atoms atom → atom.kind ≡ Cell number →
    IsOfModel models n.nets number atom
