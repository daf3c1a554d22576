-- The edges of a mode of a pb_type: the pairs of pins that its interconnects give (VTR
-- architecture reference, "Interconnect": direct, complete and mux).
use Rattle.std.specs.Prelude.{◌≡◌, ◌<◌, ◌⊎◌, ℕ, List, Some, length, slice_get}
use Rattle.vtr_base.specs.Lists.{Has}
use Rattle.arch_types.specs.declared.block.PbType.{PbType}
use Rattle.arch_types.specs.declared.block.Mode.{Mode}
use Rattle.arch_types.specs.declared.block.Inter.{Inter}
use Rattle.arch_types.specs.declared.block.InterKind.{InterKind}
use Rattle.arch_types.specs.declared.block.InterKind.TheVariants.{Direct, Complete, Mux}
use Rattle.arch_types.specs.Tree.{inters_of}
use Rattle.mode_edges.specs.PinWords.{ReadsPins}
use Rattle.mode_edges.specs.declared.pin.EdgeEnd.TheVariants.{Source, End}
use Rattle.mode_edges.specs.declared.pin.LocalPin.{LocalPin}
use Rattle.mode_edges.specs.declared.pin.LocalEdge.{LocalEdge}

-- the pair that a kind of interconnect gives from a place of its input pins to its output pins
abbrev pub IsPairFrom : InterKind → List LocalPin → List LocalPin → ℕ → LocalPin → LocalPin → Type 0
IsPairFrom Direct ins outs n s d = (slice_get ins n ≡ Some s) × (slice_get outs n ≡ Some d)
IsPairFrom Complete ins outs n s d = (slice_get ins n ≡ Some s) × Has outs d
IsPairFrom Mux ins outs n s d = (slice_get ins n ≡ Some s) × Has outs d

-- the interconnect of that number gives the pair from that place of its input pins
pub record GivesFrom (block : PbType) (mode : Mode) (inter place : ℕ) (s d : LocalPin) : Type 0 where
  pub here : Inter
  pub is : slice_get (inters_of mode) inter ≡ Some here
  pub ins : List LocalPin
  pub outs : List LocalPin
  pub reads_ins : ReadsPins block mode Source here.input ins
  pub reads_outs : ReadsPins block mode End here.output outs
  pub pair : IsPairFrom here.kind ins outs place s d

-- the interconnect of that number gives the pair
abbrev pub Gives : PbType → Mode → ℕ → LocalPin → LocalPin → Type 0
Gives block mode inter s d = (place : ℕ) × GivesFrom block mode inter place s d

-- the pair is an edge of the mode, owned by the first interconnect that gives it
pub record IsEdge (block : PbType) (mode : Mode) (inter : ℕ) (s d : LocalPin) : Type 0 where
  pub gives : Gives block mode inter s d
  pub first : (k : ℕ) → k < inter → Gives block mode k s d → ⊥

-- where an edge is given: by which interconnect, from which of its input pins, and to which of its
-- output pins
pub record EdgePlace : Type 0 where
  pub inter : ℕ
  pub source : ℕ
  pub end : ℕ

-- by the interconnect, then by the input pin, then by the output pin
abbrev pub IsBefore : EdgePlace → EdgePlace → Type 0
IsBefore p q = (p.inter < q.inter) ⊎ ((p.inter ≡ q.inter) × ((p.source < q.source) ⊎ ((p.source ≡ q.source) × (p.end < q.end))))

-- the place among the output pins to which a kind of interconnect leads a source
abbrev pub IsPairTo : InterKind → List LocalPin → ℕ → ℕ → LocalPin → Type 0
IsPairTo Direct outs source end d = end ≡ source
IsPairTo Complete outs source end d = slice_get outs end ≡ Some d
IsPairTo Mux outs source end d = slice_get outs end ≡ Some d

-- the pair is given at that place
pub record GivesAt (block : PbType) (mode : Mode) (at : EdgePlace) (s d : LocalPin) : Type 0 where
  pub from : GivesFrom block mode at.inter at.source s d
  pub to : IsPairTo from.here.kind from.outs at.source at.end d

-- the edge's place is the first at which its pair is given
pub record StandsAt (block : PbType) (mode : Mode) (e : LocalEdge) (at : EdgePlace) : Type 0 where
  pub owner : at.inter ≡ e.inter
  pub gives : GivesAt block mode at e.src e.dst
  pub first : (other : EdgePlace) → IsBefore other at → GivesAt block mode other e.src e.dst → ⊥

-- the place of e is before that of f
pub record StandsBefore (block : PbType) (mode : Mode) (e f : LocalEdge) : Type 0 where
  pub at : EdgePlace
  pub next : EdgePlace
  pub stands : StandsAt block mode e at
  pub follows : StandsAt block mode f next
  pub before : IsBefore at next

-- the list holds exactly the edges of the mode, each pair once, in the order of their places: by
-- their owners, then as the owner's input names their sources, then as its output names their ends
pub record AreEdges (block : PbType) (mode : Mode) (edges : List LocalEdge) : Type 0 where
  pub each : (e : LocalEdge) → Has edges e → IsEdge block mode e.inter e.src e.dst
  pub all : (inter : ℕ) (s d : LocalPin) → IsEdge block mode inter s d → Has edges (record { src = s; dst = d; inter = inter })
  pub once : (i j : ℕ) (e f : LocalEdge) → slice_get edges i ≡ Some e → slice_get edges j ≡ Some f → e.src ≡ f.src → e.dst ≡ f.dst → i ≡ j
  pub ordered : (i j : ℕ) (e f : LocalEdge) → i < j → slice_get edges i ≡ Some e → slice_get edges j ≡ Some f → StandsBefore block mode e f

-- a mode has one list of edges at most
abbrev pub HasOneList : Type 0
HasOneList = (block : PbType) (mode : Mode) (xs ys : List LocalEdge) → AreEdges block mode xs → AreEdges block mode ys → xs ≡ ys

-- the mode has more edges than that
pub record HasMoreEdges (block : PbType) (mode : Mode) (most : ℕ) : Type 0 where
  pub edges : List LocalEdge
  pub are : AreEdges block mode edges
  pub more : most < length edges
