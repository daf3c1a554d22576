-- The words that begin the lines of a BLIF file.
use Rattle.std.specs.Prelude.{◌≡◌, ℕ, List, ◌∷◌, codes}
use Rattle.blif_elems.specs.declared.keyword.Keyword.{Keyword}
use Rattle.blif_elems.specs.declared.keyword.Keyword.TheVariants.{Model, Inputs, Outputs, Names, Latch, Subckt, Param, Attr, Cname, End}

abbrev pub keyword_text : Keyword → List ℕ
keyword_text Model = codes ".model"
keyword_text Inputs = codes ".inputs"
keyword_text Outputs = codes ".outputs"
keyword_text Names = codes ".names"
keyword_text Latch = codes ".latch"
keyword_text Subckt = codes ".subckt"
keyword_text Param = codes ".param"
keyword_text Attr = codes ".attr"
keyword_text Cname = codes ".cname"
keyword_text End = codes ".end"

-- the word begins with a dot
abbrev pub HasDot : List ℕ → Type 0
HasDot word = (behind : List ℕ) × (word ≡ 46 ∷ behind)
