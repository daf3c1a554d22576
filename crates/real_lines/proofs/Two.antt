-- Lines of three words.
use Rattle.std.proofs.Common.{◌≡◌, ℕ, List, [], ◌∷◌, IsUtf8, subst}
use Rattle.prog_text.specs.LineLaws.{HasOneWords}
use Rattle.prog_text.specs.Sayings.{AreWords}
use Rattle.real_lines.specs.Lines.{SaysTwo}

pub other_keyword : HasOneWords → (line word first second keyword : List ℕ) → AreWords line (word ∷ first ∷ second ∷ []) → (word ≡ keyword → ⊥) → (a b : List ℕ) →
    SaysTwo line keyword a b → ⊥
other_keyword one line word first second keyword are other a b says =
    other (heads (one line (word ∷ first ∷ second ∷ []) (keyword ∷ a ∷ b ∷ []) are says.divided))
  where
    heads : {x y : List ℕ} {xs ys : List (List ℕ)} → x ∷ xs ≡ y ∷ ys → x ≡ y
    heads e = cc

pub two_said : (line word first second keyword : List ℕ) → AreWords line (word ∷ first ∷ second ∷ []) → word ≡ keyword → IsUtf8 line → SaysTwo line keyword first second
two_said line word first second keyword are same utf8 =
    record { utf8 = utf8; divided = subst (λ w. AreWords line (w ∷ first ∷ second ∷ [])) same are }
