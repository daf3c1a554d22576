use Rattle.std.proofs.Common.{ℕ, List, get_or, ap, ◌∙◌}
use Rattle.std.proofs.lemmas.Option.{slice_get-get_or}
use Rattle.list_laws.proofs.Members.{has_at}
use Rattle.flat_tables.specs.Groups.{groups_of}
use Rattle.joint_classes.specs.Classes.{AreConnected}
use Rattle.joint_classes.specs.Members.{Reaches}
use Rattle.joint_classes.proofs.Tables.{turned_low, are_tables, connected}
use Rattle.joint_classes.proofs.Classing.{classes_by}
use Rattle.joint_classes.proofs.joined.classes.Goals as goal

pub from_pairs-requires-2-clause-keys : goal.from_pairs-requires-2-clause-keys
from_pairs-requires-2-clause-keys c k d low =
    turned_low c.args.joints.now c.as_slice.result.now c.args.count (c.as_slice.ensures.value ∙ c.in_ok-turned.ensures) c.requires.low (get_or c.as_slice.result.now k d)
    (has_at c.as_slice.result.now k (get_or c.as_slice.result.now k d) (slice_get-get_or c.as_slice.result.now k d low))

pub found-requires-clause-tables : goal.found-requires-clause-tables
found-requires-clause-tables c =
    are_tables c.args.joints.now c.args.count c.in_ok-nexts.nexts c.in_ok-prevs.prevs c.in_ok-nexts.ensures
    (c.in_ok-prevs.ensures ∙ ap (λ (l : List (ℕ × ℕ)). groups_of l c.args.count) (c.as_slice.ensures.value ∙ c.in_ok-turned.ensures)) c.requires.low

pub returns : goal.returns
returns c =
    classes_by (Reaches c.in_ok-nexts.nexts c.in_ok-prevs.prevs) (AreConnected c.args.joints.now) c.args.count c.in_ok-found.field-0
    (λ a b low. connected c.args.joints.now c.args.count c.in_ok-nexts.nexts c.in_ok-prevs.prevs c.in_ok-nexts.ensures
    (c.in_ok-prevs.ensures ∙ ap (λ (l : List (ℕ × ℕ)). groups_of l c.args.count) (c.as_slice.ensures.value ∙ c.in_ok-turned.ensures)) c.requires.low a b low)
    c.in_ok-found.ensures
