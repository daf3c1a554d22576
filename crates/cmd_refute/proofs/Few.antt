-- A tree has no more nodes than its file has lines.
use Rattle.std.proofs.Common.{◌≡◌, ◌<◌, ◌≤◌, ◌+◌, ◌-◌, ◌^◌, ℕ, zero, suc, Bool, true, false, List, [], ◌∷◌, length, refl, sym, ap, ◌∙◌, subst, arith}
use Rattle.std.specs.Prelude.{◌==◌, if◌then◌else◌}
use Rattle.std.specs.List.{slice_split}
use Rattle.std.specs.Str.Lines.{lines, lines_of_parts}
use Rattle.std.proofs.lemmas.List.Splits.{length-slice_split}
use Rattle.std.proofs.lemmas.List.Sums.{count_by-le-length}
use Rattle.pb_expand.specs.Graph.{Graph}
use Rattle.task_types.specs.declared.task.Task.{Task}
use Rattle.task_types.specs.declared.tree.TreeNode.{TreeNode}
use Rattle.tree_lines.specs.Words.{AreEach}
use Rattle.tree_text.specs.Text.{SpellsTree}
use Rattle.run_base.specs.Worlds.{room}

each_long : {X : Type 0} (Says : List ℕ → X → Type 0) (words : List (List ℕ)) (xs : List X) → AreEach Says words xs → length xs ≡ length words
each_long Says [] [] are = refl
each_long Says [] (x ∷ xs) are = absurd are
each_long Says (word ∷ words) [] are = absurd are
each_long Says (word ∷ words) (x ∷ xs) are = let rest = each_long Says words xs are.1 in omega (arith, rest)

last_few : (b : Bool) (x : List ℕ) → length (if b then [] else x ∷ []) ≤ 1
last_few true x = omega arith
last_few false x = omega arith

parts_few : (parts : List (List ℕ)) → length (lines_of_parts parts) ≤ length parts
parts_few [] = omega arith
parts_few (x ∷ []) = last_few (length x == 0) x
parts_few (x ∷ y ∷ more) = let rest = parts_few (y ∷ more) in omega (arith, rest)

lines_few : (bytes : List ℕ) → length (lines bytes) ≤ length bytes + 1
lines_few bytes =
    omega (arith, parts_few (slice_split (λ b. b == 10) bytes), length-slice_split (λ b. b == 10) bytes, count_by-le-length (λ b. b == 10) bytes)

pub nodes_few : (g : Graph) (t : Task) (names : List (List ℕ)) (bytes : List ℕ) (nodes : List TreeNode) → length bytes ≤ room → SpellsTree g t names bytes nodes →
    length nodes < 2 ^ 32 - 1
nodes_few g t names bytes nodes fits spells = omega (arith, fits, lines_few bytes, each_long _ (lines bytes) nodes spells.each)
