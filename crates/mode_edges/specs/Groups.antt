-- What the words of a list were found to name, word by word.
use Rattle.std.specs.Prelude.{ℕ, List, [], ◌∷◌}
use Rattle.vtr_base.specs.Lists.{Has}
use Rattle.vtr_base.specs.Spans.{AreWords}
use Rattle.arch_types.specs.declared.block.PbType.{PbType}
use Rattle.arch_types.specs.declared.block.Mode.{Mode}
use Rattle.mode_edges.specs.declared.names.PinGroup.{PinGroup}
use Rattle.mode_edges.specs.declared.pin.LocalPin.{LocalPin}
use Rattle.mode_edges.specs.declared.pin.EdgeEnd.{EdgeEnd}
use Rattle.mode_edges.specs.PinWords.{Names, without_braces}
use Rattle.mode_edges.specs.Readers.{pins_of}

-- each word names the pins of its group
abbrev pub AreNamed : PbType → Mode → EdgeEnd → List (List ℕ) → List PinGroup → Type 0
AreNamed block mode role [] [] = Unit {0}
AreNamed block mode role (word ∷ words) (group ∷ groups) = Names block mode role word (pins_of group) × AreNamed block mode role words groups
AreNamed block mode role _ _ = ⊥

-- one of the words names no pin, or a pin on the wrong side
pub record SomeUnnamed (block : PbType) (mode : Mode) (role : EdgeEnd) (words : List (List ℕ)) : Type 0 where
  pub word : List ℕ
  pub among : Has words word
  pub none : (pins : List LocalPin) → Names block mode role word pins → ⊥

-- the words of a text name the pins of the groups
pub record ReadsGroups (block : PbType) (mode : Mode) (role : EdgeEnd) (text : List ℕ) (groups : List PinGroup) : Type 0 where
  pub words : List (List ℕ)
  pub are_words : AreWords (without_braces text) words
  pub named : AreNamed block mode role words groups
