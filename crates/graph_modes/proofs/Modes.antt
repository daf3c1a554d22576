-- A pb_type that isn't a leaf has a mode.
use Rattle.std.proofs.Common.{◌≡◌, ◌<◌, ℕ, zero, suc, List, [], ◌∷◌, Option, Some, None, length, refl, sym, ap, ◌∙◌, subst, arith, rules}
use Rattle.std.specs.Prelude.{slice_get, option_and_then}
use Rattle.std.specs.Option.{option_map}
use Rattle.arch_types.specs.declared.arch.ArchParts.{ArchParts}
use Rattle.arch_types.specs.declared.block.PbType.{PbType}
use Rattle.arch_types.specs.declared.block.Mode.{Mode}
use Rattle.arch_types.specs.declared.block.Port.{Port}
use Rattle.arch_types.specs.declared.block.Kind.{Kind, Modes', out-Kind}
use Rattle.arch_types.specs.declared.block.Kind.TheViews.{the_lemmas}
use Rattle.arch_types.specs.Tree.{modes_of}
use Rattle.arch_types.specs.Address.{Address, at}
use Rattle.arch_types.specs.Blocks.{FitsKind, IsPbType, IsBlockType, IsTree}
use Rattle.arch_types.specs.WellFormed.{IsWellFormed}
use Rattle.arch_types.proofs.Uses.{all_get, own_of, instance_of}
use Rattle.pb_expand.specs.declared.number.PbKind.{PbKind}
use Rattle.pb_expand.specs.declared.number.PbKind.TheVariants.{Modes, Leaf}
use Rattle.pb_expand.specs.Graph.{Graph, block_at, kind_of}
use Rattle.prog_map.specs.Leaves.{kind_at, HasModes}
use Rattle.prog_map.specs.Order.{count_of}
use Rattle.search_rules.specs.Left.{HasSomeModes}

some_list : {X : Type 0} (xs : List X) → (xs ≡ [] → ⊥) → 0 < length xs
some_list [] some = absurd (some refl)
some_list (x ∷ xs) some = omega arith

-- the modes of a pb_type are counted
count_is : (k : Kind) → count_of (Some (kind_of k)) ≡ length (modes_of k)
unfolding out-Kind denote.Hole.Carrier.out
count_is (Modes' n modes) = search (rules, the_lemmas)
count_is _ = refl

module _ (models : ℕ) (name : List ℕ) (ports : List Port) where
  modes_some : (k : Kind) (count : ℕ) → FitsKind models name ports k → kind_of k ≡ Modes count → 0 < length (modes_of k)
  unfolding out-Kind denote.Hole.Carrier.out
  modes_some (Modes' n modes) count fits is = some_list _ fits.some
  modes_some _ count fits is = cc

  some_of : (k : Kind) (count : ℕ) → FitsKind models name ports k → kind_of k ≡ Modes count → 0 < count
  some_of k count fits is = omega (arith, modes_some k count fits is, count_is k, ap (λ x. count_of (Some x)) is)

counted : (o : Option PbKind) (count : ℕ) → o ≡ Some (Modes count) → count_of o ≡ count
counted o count is = ap count_of is

module _ (models : ℕ) (g : Graph) (tree : IsTree models g.root) where
  by_block : (o : Option PbType) → block_at g 0 ≡ block_at g 0 → (count : ℕ) → option_map (λ (block : PbType). kind_of block.kind) o ≡ Some (Modes count) →
      ((block : PbType) → o ≡ Some block → IsTree models block) → 0 < count
  by_block None same count is sound = cc
  by_block (Some block) same count is sound =
      let kind : kind_of block.kind ≡ Modes count = cc in
      let own = own_of models block (sound block refl) in
      some_of models block.name block.ports block.kind count own.kind kind

  sound_at : (o : Option Address) (block : PbType) → option_and_then (λ address. at g.root address) o ≡ Some block → IsTree models block
  sound_at None block is = cc
  sound_at (Some address) block is = instance_of models address g.root block tree is

  pub have_modes : HasSomeModes g
  have_modes = record {
    each = λ pb has. subst (λ n. 0 < n) (sym (counted (kind_at g pb) has.count has.is))
        (by_block (block_at g pb) refl has.count has.is (λ block is. sound_at (slice_get g.instances pb) block is));
  }

pub some_modes_of : (a : ArchParts) → IsWellFormed a → (n : ℕ) (root : PbType) (g : Graph) → slice_get a.blocks n ≡ Some root → g.root ≡ root → HasSomeModes g
some_modes_of a well n root g at_n same =
    let models = length a.models in
    let is = all_get (IsBlockType models) a.blocks n root well.blocks.each at_n in
    have_modes models g (subst (IsTree models) (sym same) is.tree)
