-- The steps of an instance's text, and the instance that they lead to.
use Rattle.std.specs.Prelude.{◌≡◌, ◌<◌, ◌^◌, ℕ, List, [], ◌∷◌, ◌++◌, Some, slice_get}
use Rattle.std.specs.Fmt.{decimal}
use Rattle.vtr_base.specs.Spans.{Lacks}
use Rattle.arch_types.specs.declared.block.PbType.{PbType}
use Rattle.arch_types.specs.Address.{Address, at}
use Rattle.pb_expand.specs.Graph.{Graph, LeadsTo, step_from}
use Rattle.prog_text.specs.Names.{steps_text, NamesMode, NamesChild}

-- the text is NAME[INDEX], and the rest follows
pub record IsIndexed (text name : List ℕ) (index : ℕ) (rest : List ℕ) : Type 0 where
  pub spelled : text ≡ name ++ 91 ∷ (decimal index ++ 93 ∷ rest)
  pub lacks : Lacks name 91
  pub small : index < 2 ^ 32

-- the text begins with the step /MODE:CHILD[INSTANCE], and the rest follows
pub record IsFirstStep (text mode child : List ℕ) (instance : ℕ) (rest : List ℕ) : Type 0 where
  pub behind : List ℕ
  pub spelled : text ≡ 47 ∷ (mode ++ 58 ∷ behind)
  pub lacks : Lacks mode 58
  pub indexed : IsIndexed behind child instance rest

-- the instance of number n hangs on that of number pb by a mode and a child of these names
pub record IsChildNamed (g : Graph) (pb : ℕ) (mode child : List ℕ) (instance n : ℕ) : Type 0 where
  pub in_mode : ℕ
  pub is_mode : NamesMode g pb mode in_mode
  pub place : ℕ
  pub is_child : NamesChild g pb in_mode child place
  pub leads : LeadsTo g.instances (step_from pb in_mode place instance) n

-- the instance of number n is that of number pb, or stands below it, and the text is how the steps
-- from there on are written
pub record IsBelow (g : Graph) (pb : ℕ) (text : List ℕ) (n : ℕ) : Type 0 where
  pub address : Address
  pub is_above : slice_get g.instances pb ≡ Some address
  pub block : PbType
  pub is_block : at g.root address ≡ Some block
  pub steps : Address
  pub is_below : slice_get g.instances n ≡ Some (address ++ steps)
  pub spelled : text ≡ steps_text block steps
