-- What can be wrong with the interconnects of a mode, and which one is told (VTR architecture
-- reference, "Interconnect").
use Rattle.std.specs.Prelude.{◌≡◌, ◌<◌, ◌⊎◌, ℕ, List, Some, length, slice_get}
use Rattle.vtr_base.specs.Lists.{Has}
use Rattle.vtr_base.specs.Spans.{AreWords}
use Rattle.arch_types.specs.declared.block.PbType.{PbType}
use Rattle.arch_types.specs.declared.block.Mode.{Mode}
use Rattle.arch_types.specs.declared.block.Inter.{Inter}
use Rattle.arch_types.specs.declared.block.InterKind.TheVariants.{Direct, Mux}
use Rattle.arch_types.specs.Tree.{inters_of}
use Rattle.mode_edges.specs.PinWords.{without_braces, Names, ReadsPins}
use Rattle.mode_edges.specs.declared.faults.EdgeError.{EdgeError}
use Rattle.mode_edges.specs.declared.faults.EdgeError.TheVariants.{NoSuchPin, Width, WideMux, OutOfMemory}
use Rattle.mode_edges.specs.declared.pin.EdgeEnd.{EdgeEnd}
use Rattle.mode_edges.specs.declared.pin.EdgeEnd.TheVariants.{Source, End}
use Rattle.mode_edges.specs.declared.pin.LocalPin.{LocalPin}

-- the word is one of the words of the text
pub record HasWord (text word : List ℕ) : Type 0 where
  pub words : List (List ℕ)
  pub are_words : AreWords (without_braces text) words
  pub among : Has words word

-- a word of the text names no pin, or a pin on the wrong side
pub record NamesNoPin (block : PbType) (mode : Mode) (role : EdgeEnd) (text : List ℕ) : Type 0 where
  pub word : List ℕ
  pub here : HasWord text word
  pub none : (pins : List LocalPin) → Names block mode role word pins → ⊥

-- a word of the text names more than one pin
pub record NamesManyPins (block : PbType) (mode : Mode) (role : EdgeEnd) (text : List ℕ) : Type 0 where
  pub word : List ℕ
  pub here : HasWord text word
  pub pins : List LocalPin
  pub names : Names block mode role word pins
  pub many : 1 < length pins

-- the pins of an interconnect, all of whose words name pins on the right side
pub record NamesPins (block : PbType) (mode : Mode) (inter : Inter) (ins outs : List LocalPin) : Type 0 where
  pub reads_ins : ReadsPins block mode Source inter.input ins
  pub reads_outs : ReadsPins block mode End inter.output outs

-- a word of the input or of the output names no pin, or a pin on the wrong side
abbrev pub LacksPin : PbType → Mode → Inter → Type 0
LacksPin block mode inter = NamesNoPin block mode Source inter.input ⊎ NamesNoPin block mode End inter.output

-- a `direct` whose lists have two lengths
pub record HasTwoWidths (block : PbType) (mode : Mode) (inter : Inter) : Type 0 where
  pub is_direct : inter.kind ≡ Direct
  pub ins : List LocalPin
  pub outs : List LocalPin
  pub names : NamesPins block mode inter ins outs
  pub two_widths : length ins ≡ length outs → ⊥

-- a `mux` with an input word that names more than one pin, or whose output isn't one pin
pub record IsWideMux (block : PbType) (mode : Mode) (inter : Inter) : Type 0 where
  pub is_mux : inter.kind ≡ Mux
  pub ins : List LocalPin
  pub outs : List LocalPin
  pub names : NamesPins block mode inter ins outs
  pub wide : NamesManyPins block mode Source inter.input ⊎ (length outs ≡ 1 → ⊥)

-- an interconnect with none of these three faults
pub record IsFaultless (block : PbType) (mode : Mode) (inter : Inter) : Type 0 where
  pub ins : List LocalPin
  pub outs : List LocalPin
  pub names : NamesPins block mode inter ins outs
  pub one_width : inter.kind ≡ Direct → length ins ≡ length outs
  pub narrow : inter.kind ≡ Mux → (NamesManyPins block mode Source inter.input → ⊥) × (length outs ≡ 1)

-- every interconnect of the mode names pins rightly
abbrev pub IsSoundMode : PbType → Mode → Type 0
IsSoundMode block mode = (n : ℕ) (inter : Inter) → slice_get (inters_of mode) n ≡ Some inter → IsFaultless block mode inter

-- the error tells the interconnect's fault, by its name. Where a word names no pin, neither of the
-- other two holds, so that an interconnect has one fault
abbrev pub IsFault : PbType → Mode → Inter → EdgeError → Type 0
IsFault block mode inter (NoSuchPin name) = LacksPin block mode inter × (name ≡ inter.name)
IsFault block mode inter (Width name) = HasTwoWidths block mode inter × (name ≡ inter.name)
IsFault block mode inter (WideMux name) = IsWideMux block mode inter × (name ≡ inter.name)
IsFault block mode inter OutOfMemory = ⊥

-- an error other than want of memory tells the interconnect's fault
abbrev pub TellsFault : PbType → Mode → Inter → EdgeError → Type 0
TellsFault block mode inter (NoSuchPin name) = IsFault block mode inter (NoSuchPin name)
TellsFault block mode inter (Width name) = IsFault block mode inter (Width name)
TellsFault block mode inter (WideMux name) = IsFault block mode inter (WideMux name)
TellsFault block mode inter OutOfMemory = Unit {0}

-- the error tells the first interconnect of the mode that has a fault
pub record IsFirstFault (block : PbType) (mode : Mode) (e : EdgeError) : Type 0 where
  pub place : ℕ
  pub inter : Inter
  pub is : slice_get (inters_of mode) place ≡ Some inter
  pub fault : IsFault block mode inter e
  pub first : (n : ℕ) (before : Inter) → n < place → slice_get (inters_of mode) n ≡ Some before → IsFaultless block mode before

-- an error other than want of memory tells the first interconnect that has a fault
abbrev pub TellsFirst : PbType → Mode → EdgeError → Type 0
TellsFirst block mode (NoSuchPin name) = IsFirstFault block mode (NoSuchPin name)
TellsFirst block mode (Width name) = IsFirstFault block mode (Width name)
TellsFirst block mode (WideMux name) = IsFirstFault block mode (WideMux name)
TellsFirst block mode OutOfMemory = Unit {0}
