-- Pin words (VTR architecture reference, "Interconnect"): `NAME.PORT`, with an index or a range
-- behind NAME, behind PORT, or behind both, and the pins of a pb_type and a mode that a word names.
use Rattle.std.specs.Prelude.{◌≡◌, ◌==◌, ◌||◌, ◌<◌, ◌+◌, ◌-◌, ◌⊎◌, ℕ, not, min, max, List, [], ◌∷◌, ◌++◌, Option, Some, None, map, filter, slice_get, codes}
use Rattle.std.specs.List.{flat_map}
use Rattle.std.specs.Str.Parse.{IsNumeral, digits_value}
use Rattle.vtr_base.specs.Lists.{up_from, IsFirstPlace}
use Rattle.vtr_base.specs.Spans.{Lacks, AreWords}
use Rattle.arch_types.specs.declared.block.PbType.{PbType}
use Rattle.arch_types.specs.declared.block.Mode.{Mode}
use Rattle.arch_types.specs.declared.block.Port.{Port}
use Rattle.arch_types.specs.declared.block.Side.{Side}
use Rattle.arch_types.specs.declared.block.Side.TheVariants.{Input, Output, Clock}
use Rattle.arch_types.specs.Tree.{kids_of}
use Rattle.mode_edges.specs.declared.word.Ends.{Ends}
use Rattle.mode_edges.specs.declared.pin.EdgeEnd.{EdgeEnd}
use Rattle.mode_edges.specs.declared.pin.EdgeEnd.TheVariants.{Source, End}
use Rattle.mode_edges.specs.declared.pin.LocalPin.{LocalPin}

-- what stands in brackets: nothing, or a range
abbrev pub Index : Type 0
Index = Option Ends

-- decimal digits of any length, and their value
pub record AreDigits (text : List ℕ) (n : ℕ) : Type 0 where
  pub digits : IsNumeral 10 text
  pub value : digits_value 10 text ≡ n

-- `m:l`, whichever of the two is larger
pub record IsRangeOf (text : List ℕ) (lo hi : ℕ) : Type 0 where
  pub one : List ℕ
  pub other : List ℕ
  pub m : ℕ
  pub l : ℕ
  pub spelled : text ≡ one ++ 58 ∷ other
  pub reads_m : AreDigits one m
  pub reads_l : AreDigits other l
  pub is_lo : lo ≡ min m l
  pub is_hi : hi ≡ max m l

-- `n` or `m:l`
abbrev pub IsRange : List ℕ → ℕ → ℕ → Type 0
IsRange text lo hi = (AreDigits text lo × (hi ≡ lo)) ⊎ IsRangeOf text lo hi

-- a name, alone or with an index or a range in brackets behind it
abbrev pub IsPart : List ℕ → List ℕ → Index → Type 0
IsPart text name None = (text ≡ name) × Lacks name 91
IsPart text name (Some r) =
    (inside : List ℕ) × (text ≡ name ++ 91 ∷ (inside ++ 93 ∷ [])) × Lacks name 91 × IsRange inside r.low r.high

-- a word: what stands before its one dot, and the port behind it
pub record Word : Type 0 where
  pub head : List ℕ
  pub port : List ℕ
  pub bits : Index

pub record IsWord (text : List ℕ) (w : Word) : Type 0 where
  pub tail : List ℕ
  pub spelled : text ≡ w.head ++ 46 ∷ tail
  pub head_lacks : Lacks w.head 46
  pub tail_lacks : Lacks tail 46
  pub is_port : IsPart tail w.port w.bits

-- the members of `count` that an index names: all without one, else from the smaller to the larger
abbrev pub AreMembers : Index → ℕ → List ℕ → Type 0
AreMembers None count members = members ≡ up_from 0 count
AreMembers (Some r) count members = (r.high < count) × (members ≡ up_from r.low ((r.high + 1) - r.low))

-- a port of the block itself: a source is an input or a clock, an end is an output
abbrev pub IsOwnSide : EdgeEnd → Side → Type 0
IsOwnSide Source Input = Unit {0}
IsOwnSide Source Clock = Unit {0}
IsOwnSide Source Output = ⊥
IsOwnSide End Output = Unit {0}
IsOwnSide End _ = ⊥

-- a port of a child: a source is an output, an end is an input or a clock
abbrev pub IsChildSide : EdgeEnd → Side → Type 0
IsChildSide Source Output = Unit {0}
IsChildSide Source _ = ⊥
IsChildSide End Input = Unit {0}
IsChildSide End Clock = Unit {0}
IsChildSide End Output = ⊥

-- the port of that name, on the right side, and which of its bits the word names
pub record NamesPort (ports : List Port) (Fits : Side → Type 0) (w : Word) (port : ℕ) (bits : List ℕ) : Type 0 where
  pub first : IsFirstPlace (map (λ p. p.name) ports) w.port port
  pub is : Port
  pub there : slice_get ports port ≡ Some is
  pub side : Fits is.side
  pub members : AreMembers w.bits is.width bits

-- the block's own name, which may carry the index `[0]` alone
abbrev pub IsOwnHead : List ℕ → List ℕ → Type 0
IsOwnHead name head = (head ≡ name) ⊎ (head ≡ name ++ codes "[0]")

abbrev pub own_pin : ℕ → ℕ → LocalPin
own_pin port bit = record { owner = None; port = port; bit = bit }

abbrev pub child_pin : ℕ → ℕ → ℕ → ℕ → LocalPin
child_pin child instance port bit =
    record { owner = Some (record { child = child; instance = instance }); port = port; bit = bit }

-- the word names pins of the block itself
pub record NamesOwn (block : PbType) (role : EdgeEnd) (w : Word) (pins : List LocalPin) : Type 0 where
  pub head : IsOwnHead block.name w.head
  pub port : ℕ
  pub bits : List ℕ
  pub names : NamesPort block.ports (IsOwnSide role) w port bits
  pub are : pins ≡ map (own_pin port) bits

-- the word names pins of instances of a child: instance by instance, and of each the bits
pub record NamesChild (block : PbType) (mode : Mode) (role : EdgeEnd) (w : Word) (pins : List LocalPin) : Type 0 where
  pub other : IsOwnHead block.name w.head → ⊥
  pub name : List ℕ
  pub index : Index
  pub part : IsPart w.head name index
  pub child : ℕ
  pub first : IsFirstPlace (map (λ kid. kid.name) (kids_of mode)) name child
  pub kid : PbType
  pub there : slice_get (kids_of mode) child ≡ Some kid
  pub instances : List ℕ
  pub members : AreMembers index kid.count instances
  pub port : ℕ
  pub bits : List ℕ
  pub names : NamesPort kid.ports (IsChildSide role) w port bits
  pub are : pins ≡ flat_map (λ instance. map (child_pin child instance port) bits) instances

-- the pins that one word names
pub record Names (block : PbType) (mode : Mode) (role : EdgeEnd) (text : List ℕ) (pins : List LocalPin) : Type 0 where
  pub word : Word
  pub is : IsWord text word
  pub named : NamesOwn block role word pins ⊎ NamesChild block mode role word pins

-- the pins that a list of words names, word by word
abbrev pub NamesAll : PbType → Mode → EdgeEnd → List (List ℕ) → List LocalPin → Type 0
NamesAll block mode role [] pins = pins ≡ []
NamesAll block mode role (text ∷ texts) pins =
    (first rest : List LocalPin) × Names block mode role text first × NamesAll block mode role texts rest × (pins ≡ first ++ rest)

-- braces may stand anywhere in a list of words and mean nothing
abbrev pub without_braces : List ℕ → List ℕ
without_braces text = filter (λ b. not ((b == 123) || (b == 125))) text

-- the pins that the `input` or the `output` of an interconnect names
pub record ReadsPins (block : PbType) (mode : Mode) (role : EdgeEnd) (text : List ℕ) (pins : List LocalPin) : Type 0 where
  pub words : List (List ℕ)
  pub are_words : AreWords (without_braces text) words
  pub names : NamesAll block mode role words pins

-- a text names one list of pins at most
abbrev pub HasOneReading : Type 0
HasOneReading = (block : PbType) (mode : Mode) (role : EdgeEnd) (text : List ℕ) (ps qs : List LocalPin) → ReadsPins block mode role text ps → ReadsPins block mode role text qs → ps ≡ qs

-- the text names no list of pins: one of its words names none, or pins on the wrong side
abbrev pub ReadsNoPins : PbType → Mode → EdgeEnd → List ℕ → Type 0
ReadsNoPins block mode role text = (pins : List LocalPin) → ReadsPins block mode role text pins → ⊥

-- the text names this pin and no other
abbrev pub ReadsPin : PbType → Mode → EdgeEnd → List ℕ → LocalPin → Type 0
ReadsPin block mode role text pin = ReadsPins block mode role text (pin ∷ [])
