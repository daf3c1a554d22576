-- The graphs of all block types, or the first block type that has none.
use Rattle.std.proofs.Common.{List, ℕ}
use Rattle.arch_types.specs.declared.arch.Arch.{Arch}
use Rattle.pb_expand.specs.declared.all.BlockError.{BlockError}
use Rattle.pb_expand.specs.All as all
use Rattle.pb_expand.specs.Graph.{Graph}
use Rattle.pb_expand.specs.Telling as expand
use Rattle.run_base.specs.declared.stop.Stop.{Stop}
use Rattle.run_base.specs.declared.stop.Stop.TheVariants.{Refused, Outside, Memory}
use Rattle.run_base.specs.Stops.{StopsAfter, IsRefusedBy}
use Rattle.run_inputs.specs.Architectures.{AreGraphs, TellsFirstUnexpanded}

pub graphs_are : (a : Arch) (graphs : List Graph) → all.AreGraphs a.blocks graphs → AreGraphs a graphs
graphs_are a graphs made = record {
  all = made.all;
  each = λ number g there. record {
    block = made.number number g there;
    root = made.root number g there;
    expandable = record { sound = made.sound number g there; fits = made.fits number g there };
    expansion = made.expansion number g there;
  };
}

-- the first block type that has no graph
pub first_unexpanded : (a : Arch) (file : List ℕ) (refused : BlockError) (s : Stop) → all.IsFirstRefused a.blocks refused →
    IsRefusedBy file (expand.is_want_of_memory refused.error) (expand.expand_text refused.error) s → StopsAfter (Unit {0}) file (TellsFirstUnexpanded a) s
first_unexpanded a file refused (Refused name why) first is = (
  is.0,
  tt,
  record {
    number = refused.block;
    root = first.root;
    there = first.is_root;
    tells = record { error = refused.error; cause = first.refusal; counts = is.1; is = is.2 };
    before = λ k earlier low at. record { sound = first.sound k earlier low at; fits = first.fits k earlier low at };
  },
)
first_unexpanded a file refused (Outside name) first is = absurd is
first_unexpanded a file refused Memory first is = tt
