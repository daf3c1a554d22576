-- The edges into a pin are all of one instance.
use Rattle.std.specs.Prelude.{◌≡◌}
use Rattle.vtr_base.specs.Lists.{Has}
use Rattle.pb_expand.specs.declared.number.Edge.{Edge}
use Rattle.pb_expand.specs.Graph.{Graph}

-- edges into one pin have one owner: the pin's own instance where it is an output, else its parent
pub record HasOneOwner (g : Graph) : Type 0 where
  pub one : (e f : Edge) → Has g.edges e → Has g.edges f → e.dst ≡ f.dst → e.owner ≡ f.owner
