-- No two nodes of a tree have the same decisions above them.
use Rattle.std.proofs.Common.{◌≡◌, ◌≢◌, ◌⊎◌, inl, inr, ℕ, zero, suc, List, [], ◌∷◌, ◌++◌, Option, Some, None, map, filter, length, slice_get, refl, sym, ap, ◌∙◌, subst, arith, append_assoc, length-append}
use Rattle.std.proofs.lemmas.Bool.Decides.{leb_tells}
use Rattle.vtr_base.specs.Lists.{Has, up_from}
use Rattle.list_laws.specs.Orders.{Once, Ordered}
use Rattle.list_laws.proofs.Members.{has_at, has_either, from_map}
use Rattle.list_laws.proofs.Onces.{once_of, once_append, once_map, once_filter, once_up}
use Rattle.list_laws.proofs.Sorting.{ordered_map}
use Rattle.pb_expand.specs.declared.number.EdgeIx.{EdgeIx}
use Rattle.pb_expand.specs.Ends.{ListsEnds}
use Rattle.pb_expand.specs.Graph.{Graph, into_from}
use Rattle.prog_map.specs.Leaves.{kind_at}
use Rattle.prog_map.specs.Order.{count_of}
use Rattle.task_types.specs.declared.task.Task.{Task}
use Rattle.task_types.specs.declared.tree.Var.{Var}
use Rattle.task_types.specs.declared.tree.Var.TheVariants as var
use Rattle.task_types.specs.declared.tree.TreeNode.{TreeNode}
use Rattle.task_types.specs.declared.tree.TreeNode.TheVariants.{Branch, Homeless, Cut, Crowd, Loose}
use Rattle.task_types.specs.declared.decision.Decision.{Decision}
use Rattle.task_types.specs.declared.decision.Decision.TheVariants as decision
use Rattle.task_types.specs.declared.decision.Occupant.TheVariants.{Nobody, Atom, Wire}
use Rattle.task_types.specs.Nets.{NetSaid}
use Rattle.task_types.specs.Nodes.{IsAccepted}
use Rattle.task_types.specs.Options.{options, occupants, may_hold, wires_at}
use Rattle.task_types.specs.Trees.{Visit, visit_of, visits, under, children}

-- options are different

once_some : {X : Type 0} (xs : List X) → Once xs → Once (None ∷ map (λ x. Some x) xs)
once_some xs once = (
  λ has. (let r = from_map (λ x. Some x) xs None has in let bad : ⊥ = cc r.is in bad),
  once_map (λ x. Some x) xs once (λ x z hx hz is. cc is),
)

once_into : (g : Graph) → ListsEnds g → (pin mode : ℕ) → Once (into_from 0 g.edges pin mode)
once_into g ends pin mode = once_of (into_from 0 g.edges pin mode) (λ i j x at_i at_j. elim (leb_tells i j) [
  | inl up ↦ elim (leb_tells j i) [
    | inl down ↦ omega (arith, up.1, down.1)
    | inr less ↦ absurd (let more = (ends pin mode).ascending i j x x less.1 at_i at_j in omega (arith, more))
  ]
  | inr less ↦ absurd (let more = (ends pin mode).ascending j i x x less.1 at_j at_i in omega (arith, more))
])

once_occupants : (g : Graph) (t : Task) (made : List Decision) (leaf : ℕ) → Once (occupants g t made leaf)
once_occupants g t made leaf =
    let atoms = filter (may_hold t made leaf) (up_from 0 (length t.atoms)) in
    let wires = up_from 0 (wires_at g leaf) in (
      λ has. elim (has_either (map (λ place. Atom place) atoms) (map (λ input. Wire input) wires) Nobody has) [
        | inl held ↦ (let r = from_map (λ place. Atom place) atoms Nobody held in let bad : ⊥ = cc r.is in bad)
        | inr wire ↦ (let r = from_map (λ input. Wire input) wires Nobody wire in let bad : ⊥ = cc r.is in bad)
      ],
      once_append (map (λ place. Atom place) atoms) (map (λ input. Wire input) wires)
          (once_map (λ place. Atom place) atoms (once_filter (may_hold t made leaf) (up_from 0 (length t.atoms)) (once_up 0 (length t.atoms))) (λ x z hx hz is. cc is))
          (once_map (λ input. Wire input) wires (once_up 0 (wires_at g leaf)) (λ x z hx hz is. cc is))
          (λ o held wire. let r = from_map (λ place. Atom place) atoms o held in let q = from_map (λ input. Wire input) wires o wire in let bad : ⊥ = cc (sym r.is ∙ q.is) in bad),
    )

pub once_options : (g : Graph) (t : Task) (made : List Decision) (v : Var) → ListsEnds g → Once (options g t made v)
once_options g t made (var.Mode pb) ends = once_map (λ mode. decision.Mode pb mode) (up_from 0 (count_of (kind_at g pb.0))) (once_up 0 (count_of (kind_at g pb.0))) (λ x z hx hz is. cc is)
once_options g t made (var.Occupant pb) ends = once_map (λ o. decision.Occupant pb o) (occupants g t made pb.0) (once_occupants g t made pb.0) (λ x z hx hz is. cc is)
once_options g t made (var.Edge pin mode) ends =
    let into = into_from 0 g.edges pin.0 mode in
    once_map (λ (e : Option EdgeIx). decision.Edge pin mode e) (None ∷ map (λ (e : EdgeIx). Some e) into) (once_some into (once_into g ends pin.0 mode)) (λ x z hx hz is. cc is)
once_options g t made (var.Entry pin) ends =
    once_map (λ (net : Option ℕ). decision.Entry pin net) (None ∷ map (λ (net : ℕ). Some net) (up_from 0 (length t.nets))) (once_some (up_from 0 (length t.nets)) (once_up 0 (length t.nets))) (λ x z hx hz is. cc is)

-- one list of decisions stands at or under another: it ends with it

pub record EndsWith (long short : List Decision) : Type 0 where
  pub more : List Decision
  pub is : long ≡ more ++ short

pub ends_itself : (made : List Decision) → EndsWith made made
ends_itself made = record { more = []; is = refl }

pub ends_over : (a b c : List Decision) → EndsWith a b → EndsWith b c → EndsWith a c
ends_over a b c e f = record { more = e.more ++ f.more; is = e.is ∙ ap (λ l. e.more ++ l) f.is ∙ sym (append_assoc e.more f.more c) }

pub ends_below : (o : Decision) (long short : List Decision) → EndsWith long (o ∷ short) → EndsWith long short
ends_below o long short e = record { more = e.more ++ o ∷ []; is = e.is ∙ sym (append_assoc e.more (o ∷ []) short) }

pub ends_either : (o : Decision) (made short : List Decision) → EndsWith (o ∷ made) short → (o ∷ made ≡ short) ⊎ EndsWith made short
ends_either o made short e = by e.more e.is
  where
    by : (more : List Decision) → o ∷ made ≡ more ++ short → (o ∷ made ≡ short) ⊎ EndsWith made short
    by [] is = inl is
    by (d ∷ more) is = let rest : made ≡ more ++ short = cc is in inr (record { more = more; is = rest })

pub not_under : (o : Decision) (made : List Decision) → EndsWith made (o ∷ made) → ⊥
not_under o made e = omega (arith, ap length e.is, length-append e.more (o ∷ made))

pub same_ends : (whole a b : List Decision) → EndsWith whole a → EndsWith whole b → length a ≡ length b → a ≡ b
same_ends whole a b e f long = by e.more f.more (sym e.is ∙ f.is)
  where
    by : (m k : List Decision) → m ++ a ≡ k ++ b → a ≡ b
    by [] [] is = is
    by [] (y ∷ ks) is = absurd (omega (arith, ap length is, length-append ks b, long))
    by (x ∷ ms) [] is = absurd (omega (arith, ap length is, length-append ms a, long))
    by (x ∷ ms) (y ∷ ks) is = let rest : ms ++ a ≡ ks ++ b = cc is in by ms ks rest

-- neither stands at or under the other

pub record AreBeside (a b : List Decision) : Type 0 where
  pub forth : EndsWith a b → ⊥
  pub back : EndsWith b a → ⊥

ordered_append : {X : Type 0} (R : X → X → Type 0) (xs ys : List X) → Ordered R xs → Ordered R ys → ((x y : X) → Has xs x → Has ys y → R x y) → Ordered R (xs ++ ys)
ordered_append R [] ys left right across = right
ordered_append R (x ∷ xs) ys left right across = (
  λ y has. elim (has_either xs ys y has) [ inl here ↦ left.0 y here | inr there ↦ across x y (inl refl) there ],
  ordered_append R xs ys left.1 right (λ a b ha hb. across a b (inr ha) hb),
)

beside_options : (made os : List Decision) → Once os → Ordered (λ a b. AreBeside (a ∷ made) (b ∷ made)) os
beside_options made [] once = tt
beside_options made (o ∷ os) once = (
  λ b has. (
      let apart : o ≢ b = λ is. once.0 (subst (λ x. Has os x) (sym is) has) in
      record { forth = λ e. apart (head (same_ends (o ∷ made) (o ∷ made) (b ∷ made) (ends_itself (o ∷ made)) e refl)); back = λ e. apart (head (sym (same_ends (b ∷ made) (b ∷ made) (o ∷ made) (ends_itself (b ∷ made)) e refl))) }),
  beside_options made os once.1,
)
  where
    head : {a b : Decision} → a ∷ made ≡ b ∷ made → a ≡ b
    head is = cc is

-- a child for each option
each_child : (made : List Decision) (kids : ℕ) (os : List Decision) → kids ≡ length os → children made kids os ≡ map (λ o. o ∷ made) os
each_child made zero [] is = refl
each_child made zero (o ∷ os) is = absurd (omega (arith, is))
each_child made (suc kids) [] is = absurd (omega (arith, is))
each_child made (suc kids) (o ∷ os) is = ap (λ rest. (o ∷ made) ∷ rest) (each_child made kids os (omega (arith, is)))

module _ (g : Graph) (n : NetSaid) (t : Task) (ends : ListsEnds g) where
  -- below an accepted node stand different options
  record IsChild (made r : List Decision) : Type 0 where
    pub option : Decision
    pub is : r ≡ option ∷ made

  child_of : (made : List Decision) (node : TreeNode) (r : List Decision) → IsAccepted g n t made node → Has (under g t made node) r → IsChild made r
  child_of made (Branch v kids) r accepted has =
      let f = from_map (λ o. o ∷ made) (options g t made v) r (subst (λ l. Has l r) (each_child made kids (options g t made v) accepted.each) has) in
      record { option = f.item; is = f.is }
  child_of made (Homeless atoms) r accepted has = absurd has
  child_of made (Cut need pins) r accepted has = absurd has
  child_of made (Crowd needs pins) r accepted has = absurd has
  child_of made Loose r accepted has = absurd has

  beside_children : (made : List Decision) (node : TreeNode) → IsAccepted g n t made node → Ordered AreBeside (under g t made node)
  beside_children made (Branch v kids) accepted = subst (λ l. Ordered AreBeside l) (sym (each_child made kids (options g t made v) accepted.each))
      (ordered_map AreBeside (λ o. o ∷ made) (options g t made v) (beside_options made (options g t made v) (once_options g t made v ends)))
  beside_children made (Homeless atoms) accepted = tt
  beside_children made (Cut need pins) accepted = tt
  beside_children made (Crowd needs pins) accepted = tt
  beside_children made Loose accepted = tt

  beside_next : (made : List Decision) (node : TreeNode) (todo : List (List Decision)) → IsAccepted g n t made node → Ordered AreBeside (made ∷ todo) → Ordered AreBeside (under g t made node ++ todo)
  beside_next made node todo accepted beside = ordered_append AreBeside (under g t made node) todo (beside_children made node accepted) beside.1
      (λ r q child later. let c = child_of made node r accepted child in let apart = beside.0 q later in subst (λ x. AreBeside x q) (sym c.is) (deeper c.option q apart))
    where
      deeper : (o : Decision) (q : List Decision) → AreBeside made q → AreBeside (o ∷ made) q
      deeper o q apart = record {
        forth = λ e. elim (ends_either o made q e) [
          | inl is ↦ apart.back (ends_below o q made (subst (λ l. EndsWith l (o ∷ made)) is (ends_itself (o ∷ made))))
          | inr rest ↦ apart.forth rest
        ];
        back = λ e. apart.back (ends_below o q made e);
      }

  -- each node stands at or under one of the trees to come
  visit_under : (todo : List (List Decision)) (nodes : List TreeNode) → ((v : Visit) → Has (visits g t todo nodes) v → IsAccepted g n t v.made v.node) →
      (v : Visit) → Has (visits g t todo nodes) v → (r : List Decision) × Has todo r × EndsWith v.made r
  visit_under todo [] accepted v has = absurd has
  visit_under [] (x ∷ nodes) accepted v has = absurd has
  visit_under (s ∷ todo) (x ∷ nodes) accepted v (inl is) = (s, inl refl, subst (λ (u : Visit). EndsWith u.made s) (sym is) (ends_itself s))
  visit_under (s ∷ todo) (x ∷ nodes) accepted v (inr has) =
      let rest = visit_under (under g t s x ++ todo) nodes (λ u later. accepted u (inr later)) v has in
      elim (has_either (under g t s x) todo rest.0 rest.1) [
        | inl child ↦ (
            let c = child_of s x rest.0 (accepted (visit_of s x) (inl refl)) child in
            (s, inl refl, ends_below c.option v.made s (subst (λ r. EndsWith v.made r) c.is rest.2)))
        | inr later ↦ (rest.0, inr later, rest.2)
      ]

  behind_apart : (s : List Decision) (x : TreeNode) (todo : List (List Decision)) (nodes : List TreeNode) → Ordered AreBeside (s ∷ todo) →
      ((v : Visit) → Has (visits g t (s ∷ todo) (x ∷ nodes)) v → IsAccepted g n t v.made v.node) →
      (v : Visit) → Has (visits g t (under g t s x ++ todo) nodes) v → v.made ≡ s → ⊥
  behind_apart s x todo nodes beside accepted v has same =
      let r = visit_under (under g t s x ++ todo) nodes (λ u later. accepted u (inr later)) v has in
      let at : EndsWith s r.0 = subst (λ m. EndsWith m r.0) same r.2 in
      elim (has_either (under g t s x) todo r.0 r.1) [
        | inl child ↦ (let c = child_of s x r.0 (accepted (visit_of s x) (inl refl)) child in not_under c.option s (subst (λ m. EndsWith s m) c.is at))
        | inr later ↦ (let apart = beside.0 r.0 later in apart.forth at)
      ]

  pub visits_once : (todo : List (List Decision)) (nodes : List TreeNode) → Ordered AreBeside todo → ((v : Visit) → Has (visits g t todo nodes) v → IsAccepted g n t v.made v.node) →
      (i j : ℕ) (a b : Visit) → slice_get (visits g t todo nodes) i ≡ Some a → slice_get (visits g t todo nodes) j ≡ Some b → a.made ≡ b.made → i ≡ j
  visits_once todo [] beside accepted i j a b at_i at_j same = absurd (let bad : ⊥ = cc at_i in bad)
  visits_once [] (x ∷ nodes) beside accepted i j a b at_i at_j same = absurd (let bad : ⊥ = cc at_i in bad)
  visits_once (s ∷ todo) (x ∷ nodes) beside accepted zero zero a b at_i at_j same = refl
  visits_once (s ∷ todo) (x ∷ nodes) beside accepted zero (suc j) a b at_i at_j same =
      let first : visit_of s x ≡ a = cc at_i in
      absurd (behind_apart s x todo nodes beside accepted b (has_at (visits g t (under g t s x ++ todo) nodes) j b at_j) (sym same ∙ ap (λ (v : Visit). v.made) (sym first)))
  visits_once (s ∷ todo) (x ∷ nodes) beside accepted (suc i) zero a b at_i at_j same =
      let first : visit_of s x ≡ b = cc at_j in
      absurd (behind_apart s x todo nodes beside accepted a (has_at (visits g t (under g t s x ++ todo) nodes) i a at_i) (same ∙ ap (λ (v : Visit). v.made) (sym first)))
  visits_once (s ∷ todo) (x ∷ nodes) beside accepted (suc i) (suc j) a b at_i at_j same =
      ap suc (visits_once (under g t s x ++ todo) nodes (beside_next s x todo (accepted (visit_of s x) (inl refl)) beside) (λ u later. accepted u (inr later)) i j a b at_i at_j same)
