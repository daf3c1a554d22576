-- Keywords are told apart by their second character.
use Rattle.std.proofs.Common.{◌≡◌, ◌==◌, ℕ, List, [], ◌∷◌, refl, sym, ap, ◌∙◌}
use Rattle.std.specs.Prelude.{if◌then◌else◌}
use Rattle.blif_elems.specs.declared.keyword.Keyword.{Keyword}
use Rattle.blif_elems.specs.declared.keyword.Keyword.TheVariants.{Model, Inputs, Outputs, Names, Latch, Subckt, Param, Attr, Cname, End}
use Rattle.blif_elems.specs.Keywords.{keyword_text, HasDot}

abbrev of_second : ℕ → Keyword
of_second b =
    if b == 109 then Model
    else if b == 105 then Inputs
    else if b == 111 then Outputs
    else if b == 110 then Names
    else if b == 108 then Latch
    else if b == 115 then Subckt
    else if b == 112 then Param
    else if b == 97 then Attr
    else if b == 99 then Cname
    else End

abbrev told : List ℕ → Keyword
told [] = End
told (a ∷ []) = End
told (a ∷ b ∷ rest) = of_second b

told_back : (k : Keyword) → told (keyword_text k) ≡ k
told_back Model = refl
told_back Inputs = refl
told_back Outputs = refl
told_back Names = refl
told_back Latch = refl
told_back Subckt = refl
told_back Param = refl
told_back Attr = refl
told_back Cname = refl
told_back End = refl

pub one_keyword : (word : List ℕ) (j k : Keyword) → word ≡ keyword_text j → word ≡ keyword_text k → j ≡ k
one_keyword word j k is also = sym (told_back j) ∙ (ap told (sym is ∙ also) ∙ told_back k)

behind_dot : List ℕ → List ℕ
behind_dot [] = []
behind_dot (a ∷ rest) = rest

pub keyword_dot : (k : Keyword) → HasDot (keyword_text k)
unfolding behind_dot
keyword_dot Model = (behind_dot (keyword_text Model), refl)
keyword_dot Inputs = (behind_dot (keyword_text Inputs), refl)
keyword_dot Outputs = (behind_dot (keyword_text Outputs), refl)
keyword_dot Names = (behind_dot (keyword_text Names), refl)
keyword_dot Latch = (behind_dot (keyword_text Latch), refl)
keyword_dot Subckt = (behind_dot (keyword_text Subckt), refl)
keyword_dot Param = (behind_dot (keyword_text Param), refl)
keyword_dot Attr = (behind_dot (keyword_text Attr), refl)
keyword_dot Cname = (behind_dot (keyword_text Cname), refl)
keyword_dot End = (behind_dot (keyword_text End), refl)
