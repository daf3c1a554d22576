-- The lines of atoms, one atom after the other.
use Rattle.std.proofs.Common.{◌≡◌, ◌<◌, ◌+◌, ℕ, Bor, List, [], ◌∷◌, ◌++◌, map, length, get_or, take, append_assoc, append-nil, refl, sym, ap, ◌∙◌, subst}
use Rattle.std.proofs.lemmas.List.{map-append, take_more}
use Rattle.arch_types.specs.declared.arch.CellModel.{CellModel}
use Rattle.net_types.specs.declared.atom.Atom.{Atom}
use Rattle.blif_text.specs.Atoms.{IsAtomText}
use Rattle.blif_text.specs.Text.{AreAtomTexts}

texts_push : (models : List CellModel) (nets : List (List ℕ)) (atoms : List Atom) (a : Atom) (text here : List ℕ) → AreAtomTexts models nets atoms text → IsAtomText models nets a here →
    AreAtomTexts models nets (atoms ++ a ∷ []) (text ++ here)
texts_push models nets [] a text here are is = (here, [], is, ap (λ l. l ++ here) are ∙ sym (append-nil here), refl)
texts_push models nets (b ∷ atoms) a text here are is =
    (are.0, are.1 ++ here, are.2, ap (λ l. l ++ here) are.3 ∙ append_assoc are.0 are.1 here, texts_push models nets atoms a are.1 here are.4 is)

-- the lines of so many of the atoms are appended
pub record AreBegun (models : List CellModel) (nets : List (List ℕ)) (atoms : List (Bor Atom)) (k : ℕ) (old new : List ℕ) : Type 0 where
  pub text : List ℕ
  pub are : AreAtomTexts models nets (map (λ b. b.now) (take k atoms)) text
  pub is : new ≡ old ++ text

pub begun_none : (models : List CellModel) (nets : List (List ℕ)) (atoms : List (Bor Atom)) (old : List ℕ) → AreBegun models nets atoms 0 old old
begun_none models nets atoms old = record { text = []; are = refl; is = sym (append-nil old) }

pub begun_more : (models : List CellModel) (nets : List (List ℕ)) (atoms : List (Bor Atom)) (k : ℕ) (d : Bor Atom) (start old new here : List ℕ) → k < length atoms →
    IsAtomText models nets (get_or atoms k d).now here → new ≡ old ++ here → AreBegun models nets atoms k start old → AreBegun models nets atoms (k + 1) start new
begun_more models nets atoms k d start old new here within is grown so_far =
    let cut : map (λ b. b.now) (take (k + 1) atoms) ≡ map (λ b. b.now) (take k atoms) ++ (get_or atoms k d).now ∷ [] =
    ap (map (λ (b : Bor Atom). b.now)) (take_more atoms k d within) ∙ map-append (λ (b : Bor Atom). b.now) (take k atoms) (get_or atoms k d ∷ []) in
    record {
      text = so_far.text ++ here;
      are = subst (λ l. AreAtomTexts models nets l (so_far.text ++ here)) (sym cut) (texts_push models nets (map (λ b. b.now) (take k atoms)) (get_or atoms k d).now so_far.text here so_far.are is);
      is = grown ∙ (ap (λ l. l ++ here) so_far.is ∙ append_assoc start so_far.text here);
    }
