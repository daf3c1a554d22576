-- A list that is looked at entry by entry.
use Rattle.std.proofs.Common.{◌≡◌, ◌<◌, ◌≤◌, ◌+◌, ◌⊎◌, ℕ, Bool, true, false, MatchBool, List, [], ◌∷◌, ◌++◌, length, take, get_or, sym, ap, ◌∙◌, subst, inl, inr, arith}
use Rattle.std.proofs.lemmas.List.{take_more, take_all}
use Rattle.std.proofs.lemmas.Option.{slice_get-get_or}
use Rattle.vtr_base.specs.Lists.{Has}
use Rattle.list_laws.proofs.Members.{has_pushed}
use Rattle.list_laws.proofs.Onces.{once_pushed}
use Rattle.net_types.specs.declared.atom.Atom.{Atom}
use Rattle.task_make.specs.Lists.{AreAtoms, IsFirstWrong, IsNoAtom, IsAgain}

-- the entries before that place are kept
pub record KeepsBefore (known : List Atom) (atoms listed : List ℕ) (place : ℕ) : Type 0 where
  pub kept : listed ≡ take place atoms
  pub fine : AreAtoms known (take place atoms)

pub none_kept : (known : List Atom) (atoms listed : List ℕ) → listed ≡ [] → KeepsBefore known atoms listed 0
none_kept known atoms listed none = record { kept = none; fine = record { there = λ number has. absurd has; once = tt } }

abbrev pub Adds : List ℕ → ℕ → Bool → List ℕ → Type 0
Adds old x is_new new = MatchBool is_new ((Has old x → ⊥) × (new ≡ old ++ x ∷ [])) (Has old x × (new ≡ old))

module _ (known : List Atom) (atoms listed : List ℕ) (place d : ℕ) (few : length atoms ≤ 4096) (low : place < length atoms) (keeps : KeepsBefore known atoms listed place) where
  abbrev number : ℕ
  number = get_or atoms place d

  wrong : IsFirstWrong known atoms place (get_or atoms place d)
  wrong = record { few = few; before = keeps.fine; is = slice_get-get_or atoms place d low }

  pub no_atom : length known ≤ get_or atoms place d → IsNoAtom known atoms place
  no_atom past = record { number = get_or atoms place d; wrong = wrong; past = past }

  pub again : (new : List ℕ) → Adds listed (get_or atoms place d) false new → IsAgain known atoms place
  again new adds = record { number = get_or atoms place d; wrong = wrong; again = subst (λ (l : List ℕ). Has l (get_or atoms place d)) keeps.kept adds.0 }

  pub kept_more : (new : List ℕ) → get_or atoms place d < length known → Adds listed (get_or atoms place d) true new → KeepsBefore known atoms new (place + 1)
  kept_more new there adds = record {
    kept = adds.1 ∙ ap (λ (l : List ℕ). l ++ get_or atoms place d ∷ []) keeps.kept ∙ sym (take_more atoms place d low);
    fine = subst (λ (l : List ℕ). AreAtoms known l) (sym (take_more atoms place d low)) (record {
      there = λ k has. by k (has_pushed (take place atoms) (get_or atoms place d) k has);
      once = once_pushed (take place atoms) (get_or atoms place d) keeps.fine.once (λ has. adds.0 (subst (λ (l : List ℕ). Has l (get_or atoms place d)) (sym keeps.kept) has));
    });
  }
    where
      by : (k : ℕ) → Has (take place atoms) k ⊎ (k ≡ get_or atoms place d) → k < length known
      by k (inl has) = keeps.fine.there k has
      by k (inr last) = omega (arith, there, last)

pub kept_all : (known : List Atom) (atoms listed : List ℕ) (place : ℕ) → length atoms ≤ place → KeepsBefore known atoms listed place → (listed ≡ atoms) × AreAtoms known atoms
kept_all known atoms listed place past keeps =
    (keeps.kept ∙ take_all place atoms past, subst (λ (l : List ℕ). AreAtoms known l) (take_all place atoms past) keeps.fine)
