-- The elements that are open at a place of a file, and how a piece changes them.
use Rattle.std.specs.Prelude.{◌≡◌, ◌≤◌, ◌<◌, ◌⊎◌, ℕ, List, [], ◌∷◌, ◌++◌, length}
use Rattle.vtr_base.specs.declared.place.Place.{Place}
use Rattle.elem_text.specs.declared.elem.Attr.{Attr}
use Rattle.elem_text.specs.declared.elem.Elem.{Elem}
use Rattle.elem_text.specs.declared.stack.Frame.{Frame}
use Rattle.elem_text.specs.declared.stack.Opened.{Opened}
use Rattle.elem_text.specs.Bytes.{AreAll, is_white}
use Rattle.elem_text.specs.References.{decoded}
use Rattle.elem_text.specs.Tree.{Piece, opens, closes, hollow, run, skip, elem}

-- the innermost open element, and those around it from the inside out; the last stands for the file
pub record Stack : Type 0 where
  pub top : Frame
  pub below : List Frame

abbrev pub top_first : List Frame → List Frame
top_first [] = []
top_first (f ∷ fs) = top_first fs ++ f ∷ []

abbrev pub stack_of : Opened → Stack
stack_of o = record { top = o.top; below = top_first o.below }

abbrev pub frame : List ℕ → List Attr → Place → Frame
frame name attrs place = record { name = name; attrs = attrs; text = []; kids = []; place = place }

abbrev pub with_kid : Frame → Elem → Frame
with_kid f e = record f { kids = f.kids ++ e ∷ [] }

abbrev pub with_text : Frame → List ℕ → Frame
with_text f raw = record f { text = f.text ++ decoded raw }

-- a file has one root
abbrev pub HasRoom : Frame → List Frame → Type 0
HasRoom f [] = f.kids ≡ []
HasRoom f (g ∷ gs) = Unit {0}

-- beside the root stands only white space
abbrev pub MayHold : List Frame → List ℕ → Type 0
MayHold [] raw = AreAll is_white raw
MayHold (g ∷ gs) raw = Unit {0}

-- an end tag closes the innermost open element
abbrev pub MayClose : Frame → List Frame → List ℕ → Type 0
MayClose f [] name = ⊥
MayClose f (g ∷ gs) name = name ≡ f.name

abbrev pub IsAllowed : Stack → Piece → Type 0
IsAllowed s (opens n a at) = HasRoom s.top s.below
IsAllowed s (hollow n a at) = HasRoom s.top s.below
IsAllowed s (closes n) = MayClose s.top s.below n
IsAllowed s (run raw) = MayHold s.below raw
IsAllowed s skip = Unit {0}

abbrev pub closed : Frame → Elem
closed f = elem f.name f.attrs f.text f.kids f.place

abbrev pub close_top : Frame → List Frame → Stack
close_top f [] = record { top = f; below = [] }
close_top f (g ∷ gs) = record { top = with_kid g (closed f); below = gs }

-- what is open behind a piece; where the piece isn't allowed the value doesn't matter
abbrev pub next : Stack → Piece → Stack
next s (opens n a at) = record { top = frame n a at; below = s.top ∷ s.below }
next s (hollow n a at) = record { top = with_kid s.top (elem n a [] [] at); below = s.below }
next s (closes n) = close_top s.top s.below
next s (run raw) = record { top = with_text s.top raw; below = s.below }
next s skip = s

abbrev pub AreAllowed : Stack → List Piece → Type 0
AreAllowed s [] = Unit {0}
AreAllowed s (p ∷ ps) = IsAllowed s p × AreAllowed (next s p) ps

abbrev pub after : Stack → List Piece → Stack
after s [] = s
after s (p ∷ ps) = after (next s p) ps

-- nothing is open but the file
abbrev pub outside : Stack
outside = record { top = frame [] [] (record { line = 1; byte = 1 }); below = [] }

-- only the file is open, and this element, the last of its children, is its root
abbrev pub IsFinished : Stack → Elem → Type 0
IsFinished s e = (s.below ≡ []) × (kids : List Elem) × (s.top.kids ≡ kids ++ e ∷ [])

-- an element is open, or none was read
abbrev pub IsUnfinished : Stack → Type 0
IsUnfinished s = (s.below ≡ [] → ⊥) ⊎ (s.top.kids ≡ [])

-- the piece may stand here and opens an element at level 65
abbrev pub IsTooDeepFor : Stack → Piece → Type 0
IsTooDeepFor s (opens n a at) = HasRoom s.top s.below × (64 ≤ length s.below)
IsTooDeepFor s (hollow n a at) = HasRoom s.top s.below × (64 ≤ length s.below)
IsTooDeepFor s _ = ⊥

-- an element may open here as far as the depth goes
abbrev pub IsShallowFor : Stack → Piece → Type 0
IsShallowFor s (opens n a at) = length s.below < 64
IsShallowFor s (hollow n a at) = length s.below < 64
IsShallowFor s _ = Unit {0}
