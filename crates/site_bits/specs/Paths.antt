-- Prefixes along the way to an instance (FPGA assembly metadata: `fasm_prefix`): a word of each instance
-- from the root on whose pb_type has one.
use Rattle.std.specs.Prelude.{◌≡◌, ℕ, List, [], ◌∷◌, ◌++◌, Option, Some, None, slice_get}
use Rattle.arch_types.specs.declared.block.PbType.{PbType}
use Rattle.arch_types.specs.Address.{Hop, Address, child_at}
use Rattle.meta_lines.specs.declared.types.Feature.{Feature}
use Rattle.meta_said.specs.declared.types.OwnerMeta.{OwnerMeta}
use Rattle.meta_said.specs.Owners.{Says}

-- a word that may be there, as a list
abbrev pub word_there : Option (List ℕ) → List (List ℕ)
word_there None = []
word_there (Some word) = word ∷ []

-- the word of an instance among the prefixes of its pb_type
abbrev pub word_of : Option (List (List ℕ)) → ℕ → List (List ℕ)
word_of None instance = []
word_of (Some words) instance = word_there (slice_get words instance)

-- the word that a pb_type gives one of its instances
pub record GivesWord (p : PbType) (instance : ℕ) (words : List (List ℕ)) : Type 0 where
  pub said : OwnerMeta
  pub says : Says (Some p.count) p.metas said
  pub is : words ≡ word_of said.prefixes instance

-- the words below a pb_type, down to the instance at the address
abbrev pub AreWordsBelow : PbType → Address → List (List ℕ) → Type 0
AreWordsBelow p [] words = words ≡ []
AreWordsBelow p (hop ∷ hops) words =
    (kid : PbType) × (child_at p hop ≡ Some kid)
    × ((own : List (List ℕ)) × GivesWord kid hop.instance own × ((rest : List (List ℕ)) × AreWordsBelow kid hops rest × (words ≡ own ++ rest)))

-- the words from the root of a block type down to the instance at the address
pub record AreWords (block : PbType) (a : Address) (words : List (List ℕ)) : Type 0 where
  pub own : List (List ℕ)
  pub gives : GivesWord block 0 own
  pub rest : List (List ℕ)
  pub below : AreWordsBelow block a rest
  pub is : words ≡ own ++ rest

-- a name behind prefixes, joined by `.`
abbrev pub joined : List (List ℕ) → List ℕ → List ℕ
joined [] name = name
joined (word ∷ words) name = word ++ 46 ∷ joined words name

-- a feature behind prefixes
abbrev pub prefixed : List (List ℕ) → Feature → Feature
prefixed words f = record { name = joined words f.name; bit = f.bit; text = joined words f.text }
