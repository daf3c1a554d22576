-- What the readers of pin words keep: where a text is cut, the ends of a range, and what a word
-- was found to name.
use Rattle.std.specs.Prelude.{◌≡◌, ◌≤◌, ◌-◌, ℕ, min, List, ◌∷◌, ◌++◌, Option, Some, None, map, MatchOption}
use Rattle.std.specs.List.{flat_map}
use Rattle.vtr_base.specs.Lists.{up_from}
use Rattle.vtr_base.specs.Spans.{Lacks}
use Rattle.mode_edges.specs.PinWords.{Index, AreDigits, IsRange, IsPart, Word, IsWord, own_pin, child_pin, NamesPort}
use Rattle.arch_types.specs.declared.block.Port.{Port}
use Rattle.arch_types.specs.declared.block.Side.{Side}
use Rattle.mode_edges.specs.declared.pin.LocalPin.{LocalPin}
use Rattle.mode_edges.specs.declared.names.SidedBits.{SidedBits}
use Rattle.mode_edges.specs.declared.pin.ChildAt.{ChildAt}
use Rattle.mode_edges.specs.declared.names.Members.{Members}
use Rattle.mode_edges.specs.declared.names.PinGroup.{PinGroup}
use Rattle.mode_edges.specs.declared.names.Instances.{Instances}
use Rattle.mode_edges.specs.declared.word.Ends.{Ends}
use Rattle.mode_edges.specs.declared.word.PinWord.{PinWord}

-- the text is cut at the first byte of that value
pub record IsCut (text : List ℕ) (at : ℕ) (front back : List ℕ) : Type 0 where
  pub spelled : text ≡ front ++ at ∷ back
  pub lacks : Lacks front at

-- what stands for a number that may be larger than any count
abbrev pub capped : ℕ → ℕ
capped n = min n 4294967295

abbrev pub ReadsNumber : List ℕ → ℕ → Type 0
ReadsNumber text value = (n : ℕ) × AreDigits text n × (value ≡ capped n)

-- what stands for an index: its ends, where they aren't too large
abbrev pub Stands : Option Ends → Index → Type 0
Stands None None = Unit {0}
Stands None (Some range) = ⊥
Stands (Some ends) None = ⊥
Stands (Some ends) (Some range) = (range.low ≤ range.high) × (ends.low ≡ capped range.low) × (ends.high ≡ capped range.high)

abbrev pub ReadsRange : List ℕ → Ends → Type 0
ReadsRange text ends = (range : Ends) × IsRange text range.low range.high × Stands (Some ends) (Some range)

abbrev pub ReadsPart : List ℕ → List ℕ → Option Ends → Type 0
ReadsPart text name ends = (index : Index) × IsPart text name index × Stands ends index

-- a word that was read, with its own index
abbrev pub word_with : PinWord → Index → Word
word_with w index = record { head = w.head.now; port = w.port.now; bits = index }

abbrev pub ReadsWord : List ℕ → PinWord → Type 0
ReadsWord text w = (index : Index) × IsWord text (word_with w index) × Stands w.bits index

-- the members of a range, in order
abbrev pub member_list : Members → List ℕ
member_list m = up_from m.low (m.end - m.low)

abbrev pub pin_of : Option ChildAt → ℕ → ℕ → LocalPin
pin_of owner port bit = record { owner = owner; port = port; bit = bit }

-- the pins of a port with these bits: instance by instance, and of each the bits
abbrev pub pins_at : ℕ → List ℕ → Option Instances → List LocalPin
pins_at port bits None = map (own_pin port) bits
pins_at port bits (Some of) = flat_map (λ instance. map (child_pin of.child instance port) bits) (member_list of.members)

-- the pins of what a word names
abbrev pub pins_of : PinGroup → List LocalPin
pins_of named = pins_at named.bits.port (member_list named.bits.bits) named.of

-- the port of the word's name with the bits that it wants, or none
abbrev pub NamesBits : List Port → PinWord → Option SidedBits → Type 0
NamesBits ports w found =
    MatchOption found
    ((index : Index) (side : Side) (port : ℕ) (bits : List ℕ) → Stands w.bits index → NamesPort ports (λ s. s ≡ side) (word_with w index) port bits → ⊥)
    (λ b. (index : Index) → Stands w.bits index → NamesPort ports (λ s. s ≡ b.side) (word_with w index) b.of.port (member_list b.of.bits))
