-- What follows from the rules of tasks.
use Rattle.std.proofs.Common.{◌≡◌, ◌<◌, ℕ, List, [], ◌∷◌, Some, map, slice_get, refl, sym, ap, ◌∙◌, subst, arith}
use Rattle.std.specs.Option.{option_map}
use Rattle.std.proofs.lemmas.Option.{slice_get-map}
use Rattle.vtr_base.specs.Lists.{Has}
use Rattle.list_laws.specs.Orders.{Once, Ordered}
use Rattle.list_laws.proofs.Onces.{once_at}
use Rattle.pb_expand.specs.Graph.{Graph}
use Rattle.task_types.specs.declared.task.Task.{Task}
use Rattle.task_types.specs.declared.task.TaskNet.{TaskNet}
use Rattle.task_types.specs.Nets.{NetSaid}
use Rattle.task_types.specs.Tasks.{HasNetsOnce}
use Rattle.task_rules.specs.Joined.{numbers_of}
use Rattle.task_rules.specs.Valid.{IsValid}

ordered_once : (xs : List ℕ) → Ordered ◌<◌ xs → Once xs
ordered_once [] order = tt
ordered_once (x ∷ xs) order = (λ has. (let less = order.0 x has in omega (arith, less)), ordered_once xs order.1)

number_at : (nets : List TaskNet) (k : ℕ) (of : TaskNet) → slice_get nets k ≡ Some of → slice_get (numbers_of nets) k ≡ Some of.net
number_at nets k of at = slice_get-map (λ (x : TaskNet). x.net) nets k ∙ ap (option_map (λ (x : TaskNet). x.net)) at

pub nets_once : (g : Graph) (n : NetSaid) (t : Task) → IsValid g n t → HasNetsOnce t
nets_once g n t valid = record {
  once = λ i j a b at_i at_j same.
      once_at (numbers_of t.nets) (ordered_once (numbers_of t.nets) valid.nets.ascend) i j a.net (number_at t.nets i a at_i) (number_at t.nets j b at_j ∙ ap Some (sym same));
}
