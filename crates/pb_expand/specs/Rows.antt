-- Instances as rows: row k is how instance k + 1 hangs on its parent. The root has no row.
use Rattle.std.specs.Prelude.{◌≡◌, ◌≤◌, ◌+◌, ℕ, List, [], ◌∷◌, ◌++◌, Some, length, slice_get, slice_index_or}
use Rattle.arch_types.specs.declared.block.Kind.{Kind}
use Rattle.arch_types.specs.Address.{Address, step_to, below}
use Rattle.pb_expand.specs.declared.number.Step.{Step}
use Rattle.pb_expand.specs.Graph.{step_from}

-- the address to which a step leads, where the instances before have these addresses
abbrev pub address_by : List Address → Step → Address
address_by before s = step_to (slice_index_or before s.parent.0 []) s.mode s.child s.instance

-- the addresses of all instances, where the first ones have the addresses `before`
abbrev pub addresses_after : List Address → List Step → List Address
addresses_after before [] = before
addresses_after before (row ∷ rows) = addresses_after (before ++ address_by before row ∷ []) rows

abbrev pub addresses : List Step → List Address
addresses rows = addresses_after ([] ∷ []) rows

-- each row comes after its parent
pub record IsTree (rows : List Step) : Type 0 where
  pub earlier : (k : ℕ) (s : Step) → slice_get rows k ≡ Some s → s.parent.0 ≤ k

-- rows that begin as others did, where each one behind those hangs on instance `here` or on a later one
pub record GoesOn (old rows : List Step) (here : ℕ) : Type 0 where
  pub more : List Step
  pub is : rows ≡ old ++ more
  pub later : (k : ℕ) (s : Step) → slice_get more k ≡ Some s → here ≤ s.parent.0

-- a row like this one, whose parent stands further on
abbrev pub moved : ℕ → Step → Step
moved further s = step_from (s.parent.0 + further) s.mode s.child s.instance

-- rows at whose end stand the row of an instance and those of the instances below it, as its block says
pub record EndsWith (rows : List Step) (own : Step) (number : ℕ) (kind : Kind) : Type 0 where
  pub before : List Step
  pub more : List Step
  pub is : rows ≡ before ++ own ∷ more
  pub place : number ≡ length before + 1
  pub later : (k : ℕ) (s : Step) → slice_get more k ≡ Some s → number ≤ s.parent.0
  pub under : addresses rows ≡ addresses before ++ address_by (addresses before) own ∷ below kind (address_by (addresses before) own)
