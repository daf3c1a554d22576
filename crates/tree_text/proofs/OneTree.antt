-- A text spells one tree, or is refused in one way.
use Rattle.std.proofs.Common.{◌≡◌, ◌+◌, ◌⊎◌, ℕ, zero, suc, List, [], ◌∷◌, ◌++◌, refl, sym, ap, subst, ◌∙◌, inl, inr, arith, append-nil}
use Rattle.std.specs.Str.Lines.{lines}
use Rattle.std.proofs.lemmas.List.{append_cancel_left}
use Rattle.pb_expand.specs.Graph.{Graph}
use Rattle.task_types.specs.declared.task.Task.{Task}
use Rattle.task_types.specs.declared.tree.TreeNode.{TreeNode}
use Rattle.task_types.specs.Trees.{kids_of}
use Rattle.tree_lines.specs.Nodes.{SpellsNode}
use Rattle.tree_text.specs.declared.error.TreeError.{TreeError}
use Rattle.tree_text.specs.declared.error.TreeError.TheVariants.{BadTree, TreeShape, OutOfMemory}
use Rattle.tree_text.specs.Text.{SpellNodes, LeaveTrees, Fails, StopsAt, SpellsTree, Refuses, line_number}
use Rattle.tree_text.proofs.Reading.{leave_whole}

module _ (g : Graph) (t : Task) (names : List (List ℕ)) (one : (line : List ℕ) (a b : TreeNode) → SpellsNode g t names line a → SpellsNode g t names line b → a ≡ b) where
  pub one_list : (front : List (List ℕ)) (xs ys : List TreeNode) → SpellNodes g t names front xs → SpellNodes g t names front ys → xs ≡ ys
  one_list [] [] [] a b = refl
  one_list [] [] (y ∷ ys) a b = absurd b
  one_list [] (x ∷ xs) ys a b = absurd a
  one_list (l ∷ front) [] ys a b = absurd a
  one_list (l ∷ front) (x ∷ xs) [] a b = absurd b
  one_list (l ∷ front) (x ∷ xs) (y ∷ ys) a b =
      let here : x ≡ y = one l x y a.0 b.0 in
      let rest : xs ≡ ys = one_list front xs ys a.1 b.1 in
      cc

  one_left : (trees : ℕ) (nodes : List TreeNode) (a b : ℕ) → LeaveTrees trees nodes a → LeaveTrees trees nodes b → a ≡ b
  one_left trees [] a b in_a in_b = in_a ∙ sym in_b
  one_left zero (n ∷ nodes) a b in_a in_b = absurd in_a
  one_left (suc trees) (n ∷ nodes) a b in_a in_b = one_left (kids_of n + trees) nodes a b in_a in_b

  -- no node that is to come follows
  pub record IsEnd (left : ℕ) (rest : List (List ℕ)) : Type 0 where
    pub ends : (line : List ℕ) (behind : List (List ℕ)) (node : TreeNode) (more : ℕ) → rest ≡ line ∷ behind → SpellsNode g t names line node → left ≡ suc more → ⊥

  nothing_ends : (left : ℕ) (rest : List (List ℕ)) → rest ≡ [] → IsEnd left rest
  nothing_ends left rest none = record { ends = λ line behind node more is spells some. by line behind (sym none ∙ is) }
    where
      by : (line : List ℕ) (behind : List (List ℕ)) → [] ≡ line ∷ behind → ⊥
      by line behind e = cc

  fails_ends : (left : ℕ) (rest : List (List ℕ)) (number : ℕ) (e : TreeError) → Fails g t names left rest number e → IsEnd left rest
  fails_ends left [] number e fails = nothing_ends left [] refl
  fails_ends left (l ∷ rest) number (BadTree at) fails = record { ends = λ line behind node more is spells some. fails.1 node (subst (λ v. SpellsNode g t names v node) (by line behind is) spells) }
    where
      by : (line : List ℕ) (behind : List (List ℕ)) → l ∷ rest ≡ line ∷ behind → line ≡ l
      by line behind e = cc
  fails_ends left (l ∷ rest) number (TreeShape at) fails = record { ends = λ line behind node more is spells some. by more (sym fails.1 ∙ some) }
    where
      by : (more : ℕ) → 0 ≡ suc more → ⊥
      by more e = omega arith
  fails_ends left (l ∷ rest) number OutOfMemory fails = absurd fails

  -- the lines before the end are the same ones
  one_place : (trees : ℕ) (f h r s : List (List ℕ)) (xs ys : List TreeNode) (a b : ℕ) → f ++ r ≡ h ++ s → SpellNodes g t names f xs → SpellNodes g t names h ys →
      LeaveTrees trees xs a → LeaveTrees trees ys b → IsEnd a r → IsEnd b s → f ≡ h
  one_place trees [] [] r s xs ys a b e in_f in_h to_a to_b end_a end_b = refl
  one_place trees [] (k ∷ h) r s xs [] a b e in_f in_h to_a to_b end_a end_b = absurd in_h
  one_place trees [] (k ∷ h) r s (x ∷ xs) (y ∷ ys) a b e in_f in_h to_a to_b end_a end_b = absurd in_f
  one_place zero [] (k ∷ h) r s [] (y ∷ ys) a b e in_f in_h to_a to_b end_a end_b = absurd to_b
  one_place (suc trees) [] (k ∷ h) r s [] (y ∷ ys) a b e in_f in_h to_a to_b end_a end_b = absurd (end_a.ends k (h ++ s) y trees e in_h.0 to_a)
  one_place trees (l ∷ f) [] r s [] ys a b e in_f in_h to_a to_b end_a end_b = absurd in_f
  one_place trees (l ∷ f) [] r s (x ∷ xs) (y ∷ ys) a b e in_f in_h to_a to_b end_a end_b = absurd in_h
  one_place zero (l ∷ f) [] r s (x ∷ xs) [] a b e in_f in_h to_a to_b end_a end_b = absurd to_a
  one_place (suc trees) (l ∷ f) [] r s (x ∷ xs) [] a b e in_f in_h to_a to_b end_a end_b = absurd (end_b.ends l (f ++ r) x trees (sym e) in_f.0 to_b)
  one_place trees (l ∷ f) (k ∷ h) r s [] ys a b e in_f in_h to_a to_b end_a end_b = absurd in_f
  one_place trees (l ∷ f) (k ∷ h) r s (x ∷ xs) [] a b e in_f in_h to_a to_b end_a end_b = absurd in_h
  one_place zero (l ∷ f) (k ∷ h) r s (x ∷ xs) (y ∷ ys) a b e in_f in_h to_a to_b end_a end_b = absurd to_a
  one_place (suc trees) (l ∷ f) (k ∷ h) r s (x ∷ xs) (y ∷ ys) a b e in_f in_h to_a to_b end_a end_b =
      let here : l ≡ k = cc in
      let rest : f ++ r ≡ h ++ s = cc in
      let node : x ≡ y = one k x y (subst (λ v. SpellsNode g t names v x) here in_f.0) in_h.0 in
      let same = one_place (kids_of x + trees) f h r s xs ys a b rest in_f.1 in_h.1 to_a (subst (λ (n : TreeNode). LeaveTrees (kids_of n + trees) ys b) (sym node) to_b) end_a end_b in
      both here same
    where
      both : l ≡ k → f ≡ h → l ∷ f ≡ k ∷ h
      both e f = cc

  same_stop : (all : List (List ℕ)) (e f : TreeError) (a : StopsAt g t names all e) (b : StopsAt g t names all f) → a.front ≡ b.front
  same_stop all e f a b =
      one_place 1 a.front b.front a.rest b.rest a.read.nodes b.read.nodes a.left b.left (sym a.are ∙ b.are) a.read.each b.read.each a.read.leave b.read.leave
      (fails_ends a.left a.rest (line_number a.front) e a.fails) (fails_ends b.left b.rest (line_number b.front) f b.fails)

  same_failure : (a b : ℕ) (rest : List (List ℕ)) (number : ℕ) (e f : TreeError) → Fails g t names a rest number e → Fails g t names b rest number f → e ≡ f
  same_failure a b [] number (BadTree i) f x y = absurd x
  same_failure a b [] number OutOfMemory f x y = absurd x
  same_failure a b [] number (TreeShape i) (BadTree j) x y = absurd y
  same_failure a b [] number (TreeShape i) OutOfMemory x y = absurd y
  same_failure a b [] number (TreeShape i) (TreeShape j) x y = ap (λ (k : ℕ). TreeShape k) (x.0 ∙ sym y.0)
  same_failure a b (l ∷ rest) number OutOfMemory f x y = absurd x
  same_failure a b (l ∷ rest) number (BadTree i) OutOfMemory x y = absurd y
  same_failure a b (l ∷ rest) number (TreeShape i) OutOfMemory x y = absurd y
  same_failure a b (l ∷ rest) number (BadTree i) (BadTree j) x y = ap (λ (k : ℕ). BadTree k) (x.0 ∙ sym y.0)
  same_failure a b (l ∷ rest) number (BadTree i) (TreeShape j) x y = absurd (x.1 y.2.0 y.2.1)
  same_failure a b (l ∷ rest) number (TreeShape i) (BadTree j) x y = absurd (y.1 x.2.0 x.2.1)
  same_failure a b (l ∷ rest) number (TreeShape i) (TreeShape j) x y = ap (λ (k : ℕ). TreeShape k) (x.0 ∙ sym y.0)

  one_stop : (all : List (List ℕ)) (e f : TreeError) → StopsAt g t names all e → StopsAt g t names all f → e ≡ f
  one_stop all e f a b =
      let front : a.front ≡ b.front = same_stop all e f a b in
      let rest : a.rest ≡ b.rest = append_cancel_left b.front a.rest b.rest (ap (λ l. l ++ a.rest) (sym front) ∙ sym a.are ∙ b.are) in
      let numbered = subst (λ l. Fails g t names a.left a.rest (line_number l) e) front a.fails in
      same_failure a.left b.left b.rest (line_number b.front) e f (subst (λ l. Fails g t names a.left l (line_number b.front) e) rest numbered) b.fails

  pub one_refusal : (bytes : List ℕ) (e f : TreeError) → Refuses g t names bytes e → Refuses g t names bytes f → (e ≡ f) ⊎ ((e ≡ OutOfMemory) ⊎ (f ≡ OutOfMemory))
  one_refusal bytes OutOfMemory f a b = inr (inl refl)
  one_refusal bytes (BadTree i) OutOfMemory a b = inr (inr refl)
  one_refusal bytes (TreeShape i) OutOfMemory a b = inr (inr refl)
  one_refusal bytes (BadTree i) (BadTree j) a b = inl (one_stop (lines bytes) (BadTree i) (BadTree j) a b)
  one_refusal bytes (BadTree i) (TreeShape j) a b = inl (one_stop (lines bytes) (BadTree i) (TreeShape j) a b)
  one_refusal bytes (TreeShape i) (BadTree j) a b = inl (one_stop (lines bytes) (TreeShape i) (BadTree j) a b)
  one_refusal bytes (TreeShape i) (TreeShape j) a b = inl (one_stop (lines bytes) (TreeShape i) (TreeShape j) a b)

  -- where the lines spell a tree, none fails
  no_stop : (all : List (List ℕ)) (nodes : List TreeNode) (e : TreeError) → SpellNodes g t names all nodes → LeaveTrees 1 nodes 0 → StopsAt g t names all e → ⊥
  no_stop all nodes e each whole s =
      let front : all ≡ s.front =
      one_place 1 all s.front [] s.rest nodes s.read.nodes 0 s.left (append-nil all ∙ s.are) each s.read.each whole s.read.leave (nothing_ends 0 [] refl)
      (fails_ends s.left s.rest (line_number s.front) e s.fails) in
      let rest : s.rest ≡ [] = append_cancel_left s.front s.rest [] (sym s.are ∙ front ∙ sym (append-nil s.front)) in
      let same : nodes ≡ s.read.nodes = one_list s.front nodes s.read.nodes (subst (λ l. SpellNodes g t names l nodes) front each) s.read.each in
      let left : s.left ≡ 0 = one_left 1 s.read.nodes s.left 0 s.read.leave (subst (λ (l : List TreeNode). LeaveTrees 1 l 0) same whole) in
      by s.left e left (subst (λ l. Fails g t names s.left l (line_number s.front) e) rest s.fails)
    where
      by : (left : ℕ) (e : TreeError) → left ≡ 0 → Fails g t names left [] (line_number s.front) e → ⊥
      by left (BadTree i) none fails = fails
      by left OutOfMemory none fails = fails
      by left (TreeShape i) none fails = absurd (omega (arith, none, fails.1))

  pub never_both : (bytes : List ℕ) (nodes : List TreeNode) (e : TreeError) → SpellsTree g t names bytes nodes → Refuses g t names bytes e → e ≡ OutOfMemory
  never_both bytes nodes OutOfMemory spells refuses = refl
  never_both bytes nodes (BadTree i) spells refuses = absurd (no_stop (lines bytes) nodes (BadTree i) spells.each (leave_whole 1 nodes spells.whole.one) refuses)
  never_both bytes nodes (TreeShape i) spells refuses = absurd (no_stop (lines bytes) nodes (TreeShape i) spells.each (leave_whole 1 nodes spells.whole.one) refuses)
