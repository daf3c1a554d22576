-- The walk over the nodes of a tree.
use Rattle.std.proofs.Common.{◌≡◌, ◌<◌, ◌≤◌, ◌+◌, inl, inr, ℕ, zero, suc, List, [], ◌∷◌, ◌++◌, Some, length, slice_get, drop, refl, sym, ap, ◌∙◌, subst, append_assoc, arith, length-append}
use Rattle.std.specs.Prelude.{IsSome}
use Rattle.std.proofs.lemmas.Bool.Decides.{eqb_tells}
use Rattle.vtr_base.specs.Lists.{Has}
use Rattle.list_laws.proofs.Members.{has_at, has_either, has_pushed}
use Rattle.list_laws.proofs.Places.{get_after, get_either}
use Rattle.pb_expand.specs.Graph.{Graph}
use Rattle.task_types.specs.declared.task.Task.{Task}
use Rattle.task_types.specs.declared.tree.TreeNode.{TreeNode}
use Rattle.task_types.specs.declared.tree.TreeNode.TheVariants.{Branch, Homeless, Cut, Crowd, Loose}
use Rattle.task_types.specs.declared.decision.Decision.{Decision}
use Rattle.task_types.specs.declared.decision.Decision.TheVariants as decision
use Rattle.task_types.specs.Nets.{NetSaid}
use Rattle.task_types.specs.Decisions.{entry_in}
use Rattle.task_types.specs.Ends.{IsRootInput}
use Rattle.task_types.specs.Nodes.{IsAccepted}
use Rattle.task_types.specs.Trees.{AreTrees, IsWholeTree, kids_of, children, under, Visit, visit_of, visits, visits_of, AreAccepted, IsFirstWrong, branches, loose_ends}
use Rattle.task_types.specs.Options.{options}
use Rattle.task_reach.specs.Valid.{EntersAtRoot}
use Rattle.tree_steps.specs.Owing.{Owes, StandsAt, IsEntered, IsPath}
use Rattle.tree_verdict.specs.Verdicts.{IsVerdict}
use Rattle.tree_verdict.specs.declared.verdict.Verdict.{Verdict}
use Rattle.tree_verdict.specs.declared.verdict.Verdict.TheVariants as verdict

some_same : {X : Type 0} {x y : X} → Some x ≡ Some y → x ≡ y
some_same e = cc

-- so far the nodes are accepted, and the trail stands at the next tree
pub record IsWalked (g : Graph) (n : NetSaid) (t : Task) (nodes : List TreeNode) (k : ℕ) (made : List Decision) (count loose : ℕ) : Type 0 where
  pub seen : List Visit
  pub todo : List (List Decision)
  pub splits : visits_of g t nodes ≡ seen ++ visits g t todo (drop k nodes)
  pub long : length seen ≡ k
  pub accepted : (v : Visit) → Has seen v → IsAccepted g n t v.made v.node
  pub trees : AreTrees (length todo) (drop k nodes)
  pub stands : StandsAt g t made todo
  pub counted : count + branches (drop k nodes) ≡ branches nodes
  pub loosed : loose + loose_ends (drop k nodes) ≡ loose_ends nodes
  pub few : count ≤ k
  pub little : loose ≤ k

pub walk_begins : (g : Graph) (n : NetSaid) (t : Task) (nodes : List TreeNode) → IsWholeTree nodes → IsWalked g n t nodes 0 [] 0 0
walk_begins g n t nodes whole = record {
  seen = [];
  todo = [] ∷ [];
  splits = refl;
  long = refl;
  accepted = λ v has. absurd has;
  trees = whole.one;
  stands = (refl, refl);
  counted = omega arith;
  loosed = omega arith;
  few = omega arith;
  little = omega arith;
}

-- entries are decided at input and clock pins of the block alone
pub enters_at_root : (g : Graph) (t : Task) (made : List Decision) (todo : List (List Decision)) → Owes g t made todo → EntersAtRoot g made
enters_at_root g t made todo owes = record { each = λ pin some. by made todo owes pin some }
  where
    by : (made : List Decision) (todo : List (List Decision)) → Owes g t made todo → (pin : ℕ) → IsSome (entry_in made pin) → IsRootInput g pin
    by [] todo owes pin some = absurd (let bad : ⊥ = cc some in bad)
    by (decision.Mode q k ∷ made) todo owes pin some = by made owes.0 owes.2 pin some
    by (decision.Occupant q o ∷ made) todo owes pin some = by made owes.0 owes.2 pin some
    by (decision.Edge q k o ∷ made) todo owes pin some = by made owes.0 owes.2 pin some
    by (decision.Entry q o ∷ made) todo owes pin some = elim (eqb_tells q.0 pin) [
      | inl same ↦ subst (λ k. IsRootInput g k) same.1 owes.1.live.0
      | inr apart ↦ by made owes.0 owes.2 pin (rw apart.0 at some)
    ]

drop_at : (nodes : List TreeNode) (k : ℕ) (node : TreeNode) → slice_get nodes k ≡ Some node → drop k nodes ≡ node ∷ drop (k + 1) nodes
drop_at [] k node is = absurd (let bad : ⊥ = cc is in bad)
drop_at (x ∷ nodes) zero node is = let same : x ≡ node = some_same is in ap (λ y. y ∷ nodes) same
drop_at (x ∷ nodes) (suc k) node is = let next : suc k + 1 ≡ suc (k + 1) = omega arith in drop_at nodes k node is ∙ ap (λ j. node ∷ drop j (x ∷ nodes)) (sym next)

-- where a tree is to come, the trail stands at it
record Next (g : Graph) (t : Task) (made : List Decision) (todo : List (List Decision)) : Type 0 where
  pub rest : List (List Decision)
  pub is : todo ≡ made ∷ rest
  pub owes : Owes g t made rest

next_tree : (g : Graph) (t : Task) (made : List Decision) (todo : List (List Decision)) (node : TreeNode) (nodes : List TreeNode) → AreTrees (length todo) (node ∷ nodes) → StandsAt g t made todo → Next g t made todo
next_tree g t made [] node nodes trees stands = absurd trees
next_tree g t made (first ∷ rest) node nodes trees stands = record { rest = rest; is = ap (λ m. m ∷ rest) stands.0; owes = stands.1 }

module _ (g : Graph) (n : NetSaid) (t : Task) (nodes : List TreeNode) (k : ℕ) (made : List Decision) (count loose : ℕ) (node : TreeNode) (is : slice_get nodes k ≡ Some node) (walked : IsWalked g n t nodes k made count loose) where
  here : Next g t made walked.todo
  here = next_tree g t made walked.todo node (drop (k + 1) nodes) (subst (λ ns. AreTrees (length walked.todo) ns) (drop_at nodes k node is) walked.trees) walked.stands

  pub path : IsPath g t made
  path = (here.rest, here.owes)

  pub at_root : EntersAtRoot g made
  at_root = enters_at_root g t made here.rest here.owes

  split_here : visits_of g t nodes ≡ walked.seen ++ visit_of made node ∷ visits g t (under g t made node ++ here.rest) (drop (k + 1) nodes)
  split_here = walked.splits ∙ ap (λ ns. walked.seen ++ visits g t walked.todo ns) (drop_at nodes k node is) ∙ ap (λ todo. walked.seen ++ visits g t todo (node ∷ drop (k + 1) nodes)) here.is

  -- a node that isn't accepted is the first
  pub wrong_here : (IsAccepted g n t made node → ⊥) → IsFirstWrong g n t nodes k
  wrong_here refused = record {
    wrong = visit_of made node;
    is = ap (λ vs. slice_get vs k) split_here ∙ get_after walked.seen (visits g t (under g t made node ++ here.rest) (drop (k + 1) nodes)) (visit_of made node) k (sym walked.long);
    refused = refused;
    before = λ j v less found. elim (get_either walked.seen (visit_of made node ∷ visits g t (under g t made node ++ here.rest) (drop (k + 1) nodes)) j v (ap (λ vs. slice_get vs j) (sym split_here) ∙ found)) [
      | inl front ↦ walked.accepted v (has_at walked.seen j v front)
      | inr behind ↦ absurd (let far = behind.1 in omega (arith, far, less, walked.long))
    ];
  }

  pub entered : IsAccepted g n t made node → ((v : _) (kids : ℕ) → node ≡ Branch v kids → 0 < kids) → IsEntered g t made node
  entered accepted kids = by node refl accepted
    where
      by : (x : TreeNode) → node ≡ x → IsAccepted g n t made x → IsEntered g t made x
      by (Branch v k) same accepted = (accepted, kids v k same)
      by (Homeless atoms) same accepted = tt
      by (Cut need pins) same accepted = tt
      by (Crowd needs pins) same accepted = tt
      by Loose same accepted = tt

-- one node more

child_count : (made : List Decision) (kids : ℕ) (os : List Decision) → length (children made kids os) ≡ kids
child_count made zero os = refl
child_count made (suc kids) [] = ap suc (child_count made kids [])
child_count made (suc kids) (o ∷ os) = ap suc (child_count made kids os)

under_count : (g : Graph) (t : Task) (made : List Decision) (node : TreeNode) → length (under g t made node) ≡ kids_of node
under_count g t made (Branch v kids) = child_count made kids (options g t made v)
under_count g t made (Homeless atoms) = refl
under_count g t made (Cut need pins) = refl
under_count g t made (Crowd needs pins) = refl
under_count g t made Loose = refl

branches_more : (node : TreeNode) (nodes : List TreeNode) → branches (node ∷ nodes) ≡ branches (node ∷ []) + branches nodes
branches_more (Branch v kids) nodes = omega arith
branches_more (Homeless atoms) nodes = omega arith
branches_more (Cut need pins) nodes = omega arith
branches_more (Crowd needs pins) nodes = omega arith
branches_more Loose nodes = omega arith

loose_more : (node : TreeNode) (nodes : List TreeNode) → loose_ends (node ∷ nodes) ≡ loose_ends (node ∷ []) + loose_ends nodes
loose_more (Branch v kids) nodes = omega arith
loose_more (Homeless atoms) nodes = omega arith
loose_more (Cut need pins) nodes = omega arith
loose_more (Crowd needs pins) nodes = omega arith
loose_more Loose nodes = omega arith

one_branch : (node : TreeNode) → branches (node ∷ []) ≤ 1
one_branch (Branch v kids) = omega arith
one_branch (Homeless atoms) = omega arith
one_branch (Cut need pins) = omega arith
one_branch (Crowd needs pins) = omega arith
one_branch Loose = omega arith

one_loose : (node : TreeNode) → loose_ends (node ∷ []) ≤ 1
one_loose (Branch v kids) = omega arith
one_loose (Homeless atoms) = omega arith
one_loose (Cut need pins) = omega arith
one_loose (Crowd needs pins) = omega arith
one_loose Loose = omega arith

module _ (g : Graph) (n : NetSaid) (t : Task) (nodes : List TreeNode) (k : ℕ) (made : List Decision) (count loose : ℕ) (node : TreeNode) (is : slice_get nodes k ≡ Some node) (walked : IsWalked g n t nodes k made count loose) where
  pub walks_on : (new : List Decision) (count2 loose2 : ℕ) → IsAccepted g n t made node → ((todo : List (List Decision)) → Owes g t made todo → StandsAt g t new (under g t made node ++ todo)) →
      count2 ≡ count + branches (node ∷ []) → loose2 ≡ loose + loose_ends (node ∷ []) → IsWalked g n t nodes (k + 1) new count2 loose2
  walks_on new count2 loose2 accepted stands counts looses =
      let at = here g n t nodes k made count loose node is walked in
      let rest = drop (k + 1) nodes in
      let all = drop_at nodes k node is in
      record {
        seen = walked.seen ++ visit_of made node ∷ [];
        todo = under g t made node ++ at.rest;
        splits = split_here g n t nodes k made count loose node is walked ∙ sym (append_assoc walked.seen (visit_of made node ∷ []) (visits g t (under g t made node ++ at.rest) rest));
        long = (let l = length-append walked.seen (visit_of made node ∷ []) in omega (arith, l, walked.long));
        accepted = λ v has. elim (has_pushed walked.seen (visit_of made node) v has) [
          | inl old ↦ walked.accepted v old
          | inr last ↦ subst (λ (w : Visit). IsAccepted g n t w.made w.node) (sym last) accepted
        ];
        trees = (
            let before : AreTrees (length (made ∷ at.rest)) (node ∷ rest) = subst (λ ts. AreTrees (length ts) (node ∷ rest)) at.is (subst (λ ns. AreTrees (length walked.todo) ns) all walked.trees) in
            let same : kids_of node + length at.rest ≡ length (under g t made node ++ at.rest) = (let l = length-append (under g t made node) at.rest in omega (arith, l, under_count g t made node)) in
            subst (λ m. AreTrees m rest) same before);
        stands = stands at.rest at.owes;
        counted = (let b = branches_more node rest in let s = ap branches all in omega (arith, b, s, walked.counted, counts));
        loosed = (let b = loose_more node rest in let s = ap loose_ends all in omega (arith, b, s, walked.loosed, looses));
        few = (let one = one_branch node in omega (arith, one, counts, walked.few));
        little = (let one = one_loose node in omega (arith, one, looses, walked.little));
      }

-- the end

drop_all : (nodes : List TreeNode) (k : ℕ) → length nodes ≤ k → drop k nodes ≡ []
drop_all [] zero all = refl
drop_all [] (suc k) all = refl
drop_all (x ∷ nodes) zero all = absurd (omega arith)
drop_all (x ∷ nodes) (suc k) all = drop_all nodes k (omega arith)

loose_there : (nodes : List TreeNode) → Has nodes Loose → 0 < loose_ends nodes
loose_there [] has = absurd has
loose_there (x ∷ nodes) (inl is) = let more = loose_more x nodes in let one = ap (λ y. loose_ends (y ∷ [])) (sym is) in omega (arith, more, one)
loose_there (x ∷ nodes) (inr has) = let more = loose_more x nodes in let later = loose_there nodes has in omega (arith, more, later)

module _ (g : Graph) (n : NetSaid) (t : Task) (nodes : List TreeNode) (k : ℕ) (made : List Decision) (count loose : ℕ) (all : length nodes ≤ k) (walked : IsWalked g n t nodes k made count loose) where
  no_more : drop k nodes ≡ []
  no_more = drop_all nodes k all

  pub nothing_made : made ≡ []
  nothing_made = by walked.todo (subst (λ ns. AreTrees (length walked.todo) ns) no_more walked.trees) walked.stands
    where
      by : (todo : List (List Decision)) → length todo ≡ 0 → StandsAt g t made todo → made ≡ []
      by [] none stands = stands
      by (x ∷ todo) none stands = absurd (omega (arith, none))

  none_left : (todo : List (List Decision)) → visits g t todo [] ≡ []
  none_left todo = refl

  all_accepted : AreAccepted g n t (visits_of g t nodes)
  all_accepted = record {
    each = λ v has.
        let is : visits_of g t nodes ≡ walked.seen ++ [] = walked.splits ∙ ap (λ ns. walked.seen ++ visits g t walked.todo ns) no_more in
        elim (has_either walked.seen [] v (subst (λ vs. Has vs v) is has)) [ inl front ↦ walked.accepted v front | inr none ↦ absurd none ];
  }

  pub verdict_is : (v : Verdict) → IsWholeTree nodes → (loose ≡ 0 → v ≡ verdict.Refutes) → (0 < loose → v ≡ verdict.Partial count loose) → IsVerdict g n t nodes v
  verdict_is v whole refutes partial =
      let counted : count ≡ branches nodes = (let c = walked.counted in let d = ap branches no_more in omega (arith, c, d)) in
      let loosed : loose ≡ loose_ends nodes = (let c = walked.loosed in let d = ap loose_ends no_more in omega (arith, c, d)) in
      elim (eqb_tells loose 0) [
        | inl none ↦ subst (λ x. IsVerdict g n t nodes x) (sym (refutes none.1)) (record {
          whole = whole;
          accepted = all_accepted;
          tight = λ has. (let some = loose_there nodes has in let zero = none.1 in absurd (omega (arith, some, zero, loosed)));
        })
        | inr apart ↦ (
            let some : 0 < loose = (let no = apart.1 in omega (arith, no)) in
            subst (λ x. IsVerdict g n t nodes x) (sym (partial some)) (record { accepted = all_accepted; branches_are = counted; loose_are = loosed; some = some }))
      ]
