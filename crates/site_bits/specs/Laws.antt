-- That metadata says one thing of each site and choice.
use Rattle.std.specs.Prelude.{◌≡◌, ℕ, List, Some}
use Rattle.arch_types.specs.declared.block.PbType.{PbType}
use Rattle.arch_types.specs.Address.{Address, at}
use Rattle.mode_edges.specs.declared.pin.LocalPin.{LocalPin}
use Rattle.meta_lines.specs.declared.types.Feature.{Feature}
use Rattle.site_bits.specs.Paths.{AreWords}
use Rattle.site_bits.specs.Choices.{AreRootBits, AreModeBits, AreUseBits, AreEdgeBits}

-- two values of which this holds are one
abbrev pub IsOne : {X : Type 0} → (X → Type 0) → Type 0
IsOne {X = X} Holds = (a b : X) → Holds a → Holds b → a ≡ b

-- each way has one list of words, and each choice one list of bits
pub record AreBitsOnce (block : PbType) : Type 0 where
  pub words : (a : Address) → IsOne (AreWords block a)
  pub root : IsOne (AreRootBits block)
  pub modes : (a : Address) (number : ℕ) → IsOne (AreModeBits block a number)
  pub uses : (a : Address) → IsOne (AreUseBits block a)
  pub edges : (a : Address) (number place : ℕ) (source : LocalPin) → IsOne (AreEdgeBits block a number place source)

-- each instance has words on the way to it
abbrev pub HasWords : PbType → Type 0
HasWords block = (a : Address) (p : PbType) → at block a ≡ Some p → (words : List (List ℕ)) × AreWords block a words
