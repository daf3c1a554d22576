-- Trees of a search that gave up after so many branches.
use Rattle.std.specs.Prelude.{◌≡◌, ◌≢◌, ◌<◌, ◌+◌, ℕ, List, [], ◌∷◌, ◌++◌, Some, IsSome, length, slice_get}
use Rattle.vtr_base.specs.Lists.{Has}
use Rattle.pb_expand.specs.declared.number.PinIx.{PinIx}
use Rattle.pb_expand.specs.Graph.{Graph, pin_ix}
use Rattle.prog_map.specs.Leaves.{HasModes}
use Rattle.prog_map.specs.Live.{IsLiveAt}
use Rattle.task_types.specs.declared.task.Task.{Task}
use Rattle.task_types.specs.declared.task.Need.{Need}
use Rattle.task_types.specs.declared.tree.Var.{Var}
use Rattle.task_types.specs.declared.tree.Var.TheVariants as var
use Rattle.task_types.specs.declared.tree.TreeNode.{TreeNode}
use Rattle.task_types.specs.declared.tree.TreeNode.TheVariants.{Branch, Homeless, Cut, Crowd, Loose}
use Rattle.task_types.specs.declared.decision.Decision.{Decision}
use Rattle.task_types.specs.Nets.{NetSaid}
use Rattle.task_types.specs.Ends.{net_of, IsFed}
use Rattle.task_types.specs.Decisions.{mode_in}
use Rattle.task_types.specs.Open.{AllowsStep, MayEnd, MayStart, IsActiveNeed}
use Rattle.task_types.specs.Nodes.{IsHomeless, IsCut}
use Rattle.task_types.specs.Trees.{Visit, visits_of, branches, IsWholeTree, AreAccepted}

-- the pins are a way: a step back that may be taken leads from each to the next
pub record IsWay (g : Graph) (made : List Decision) (way : List PinIx) : Type 0 where
  pub steps : (k : ℕ) (p q : PinIx) → slice_get way k ≡ Some p → slice_get way (k + 1) ≡ Some q → AllowsStep g made p.0 q.0

-- the first active need of its net, of those that a net may feed from outside
pub record IsFirstOfNet (t : Task) (made : List Decision) (number : ℕ) : Type 0 where
  pub need : Need
  pub active : IsActiveNeed t made number need
  pub fed : IsFed need
  pub first : (k : ℕ) (other : Need) → k < number → IsActiveNeed t made k other → IsFed other → net_of other ≢ net_of need

-- the list has just those needs, each once
pub record AreFirsts (t : Task) (made : List Decision) (needs : List ℕ) : Type 0 where
  pub exact_to : (number : ℕ) → Has needs number → IsFirstOfNet t made number
  pub exact_from : (number : ℕ) → IsFirstOfNet t made number → Has needs number
  pub ascending : (i j x y : ℕ) → i < j → slice_get needs i ≡ Some x → slice_get needs j ≡ Some y → x < y

-- a way from an end of one of the needs to a source of one of them
pub record LeadsAcross (g : Graph) (n : NetSaid) (t : Task) (made : List Decision) (needs : List ℕ) (way : List PinIx) : Type 0 where
  pub is_way : IsWay g made way
  pub last : PinIx
  pub begins : slice_get way 0 ≡ Some last
  pub source : PinIx
  pub rest : List PinIx
  pub ends : way ≡ rest ++ source ∷ []
  pub one : ℕ
  pub other : ℕ
  pub one_of : Has needs one
  pub other_of : Has needs other
  pub end_need : Need
  pub source_need : Need
  pub is_one : slice_get t.needs one ≡ Some end_need
  pub is_other : slice_get t.needs other ≡ Some source_need
  pub is_end : MayEnd g n t made end_need last.0
  pub is_source : MayStart g n t made source_need source.0

-- as many ways as needs, no two of which have a pin in common
pub record HaveWays (g : Graph) (n : NetSaid) (t : Task) (made : List Decision) (needs : List ℕ) : Type 0 where
  pub ways : List (List PinIx)
  pub each : length ways ≡ length needs
  pub across : (way : List PinIx) → Has ways way → LeadsAcross g n t made needs way
  pub apart : (i j : ℕ) (a b : List PinIx) (p : PinIx) → slice_get ways i ≡ Some a → slice_get ways j ≡ Some b → Has a p → Has b p → i ≡ j

-- nothing shows at once that all is lost here: no need has a cut, no atoms are homeless, and the nets'
-- first needs don't crowd
pub record HasHope (g : Graph) (n : NetSaid) (t : Task) (made : List Decision) : Type 0 where
  pub uncut : (number : ℕ) (pins : List PinIx) → IsCut g n t made number pins → ⊥
  pub housed : (atoms : List ℕ) → IsHomeless g t made atoms → ⊥
  pub ways : (needs : List ℕ) → AreFirsts t made needs → HaveWays g n t made needs

-- the pin lies on a way from an end to a source of one active need
pub record IsOnWay (g : Graph) (n : NetSaid) (t : Task) (made : List Decision) (pin : ℕ) : Type 0 where
  pub number : ℕ
  pub need : Need
  pub active : IsActiveNeed t made number need
  pub way : List PinIx
  pub across : LeadsAcross g n t made (number ∷ []) way
  pub on : Has way (pin_ix pin)

-- each mode that is live is decided
pub record AreModesDecided (g : Graph) (made : List Decision) : Type 0 where
  pub each : (pb : ℕ) → HasModes g pb → IsLiveAt g (mode_in made) pb → IsSome (mode_in made pb)

-- it may be branched on: modes come first, and then an edge or an entry only where its pin is on a way
abbrev pub IsWorthwhile : Graph → NetSaid → Task → List Decision → Var → Type 0
IsWorthwhile g n t made (var.Mode pb) = Unit {0}
IsWorthwhile g n t made (var.Occupant pb) = AreModesDecided g made
IsWorthwhile g n t made (var.Edge pin mode) = AreModesDecided g made × IsOnWay g n t made pin.0
IsWorthwhile g n t made (var.Entry pin) = AreModesDecided g made × IsOnWay g n t made pin.0

-- the node stands where it should: a branch and a loose node only where nothing shows at once that all
-- is lost
abbrev pub IsTidy : Graph → NetSaid → Task → List Decision → TreeNode → Type 0
IsTidy g n t made (Branch v kids) = HasHope g n t made × IsWorthwhile g n t made v
IsTidy g n t made (Homeless atoms) = Unit {0}
IsTidy g n t made (Cut need pins) = Unit {0}
IsTidy g n t made (Crowd needs pins) = Unit {0}
IsTidy g n t made Loose = HasHope g n t made

abbrev pub IsBranchNode : TreeNode → Type 0
IsBranchNode (Branch v kids) = Unit {0}
IsBranchNode (Homeless atoms) = ⊥
IsBranchNode (Cut need pins) = ⊥
IsBranchNode (Crowd needs pins) = ⊥
IsBranchNode Loose = ⊥

-- more is decided above the node at place `below` than above the one at place `above`, and all of that
-- too: it stands under it
pub record StandsUnder (visits : List Visit) (above below : ℕ) : Type 0 where
  pub upper : Visit
  pub is_upper : slice_get visits above ≡ Some upper
  pub lower : Visit
  pub is_lower : slice_get visits below ≡ Some lower
  pub more : List Decision
  pub some : more ≢ []
  pub made : lower.made ≡ more ++ upper.made

-- the node at place `child` is a branch and a child of the one at place `above`, and a loose node
-- stands under it
pub record IsLooseChild (visits : List Visit) (above child : ℕ) : Type 0 where
  pub upper : Visit
  pub is_upper : slice_get visits above ≡ Some upper
  pub lower : Visit
  pub is_lower : slice_get visits child ≡ Some lower
  pub option : Decision
  pub made : lower.made ≡ option ∷ upper.made
  pub branch : IsBranchNode lower.node
  pub loose : ℕ
  pub is_loose : (v : Visit) → slice_get visits loose ≡ Some v → v.node ≡ Loose
  pub under : StandsUnder visits child loose

-- the tree is that of a search that gave up at its limit of branches: all but those on one way down from
-- the root stand in parts that refute
pub record IsSpent (g : Graph) (n : NetSaid) (t : Task) (nodes : List TreeNode) (limit : ℕ) : Type 0 where
  pub whole : IsWholeTree nodes
  pub accepted : AreAccepted g n t (visits_of g t nodes)
  pub full : branches nodes ≡ limit
  pub loose : Has nodes Loose
  pub one_way : (above i j : ℕ) → IsLooseChild (visits_of g t nodes) above i → IsLooseChild (visits_of g t nodes) above j → i ≡ j
  pub tidy : (v : Visit) → Has (visits_of g t nodes) v → IsTidy g n t v.made v.node
