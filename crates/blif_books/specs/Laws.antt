-- Lines mention, drive and name in one way, or can't in one way.
use Rattle.std.specs.Prelude.{◌≡◌, ℕ, List}
use Rattle.vtr_base.specs.declared.place.Place.{Place}
use Rattle.blif_errors.specs.declared.error.BlifError.{BlifError}
use Rattle.blif_books.specs.Books.{BookSaid, Mentions, MentionsAll, Makes, CantMake}

-- what holds of all books
pub record HasOneBook : Type 0 where
  pub mention : (old : BookSaid) (name : List ℕ) (a b : BookSaid) (m n : ℕ) → Mentions old name a m → Mentions old name b n → (a ≡ b) × (m ≡ n)
  pub mentions : (old : BookSaid) (names : List (List ℕ)) (a b : BookSaid) (ms ns : List ℕ) → MentionsAll old names a ms → MentionsAll old names b ns → (a ≡ b) × (ms ≡ ns)
  pub makes : (old : BookSaid) (driven : List ℕ) (atoms : List (List ℕ)) (a b : BookSaid) → Makes old driven atoms a → Makes old driven atoms b → a ≡ b
  pub fails : (old : BookSaid) (driven : List ℕ) (atoms : List (List ℕ)) (place : Place) (e f : BlifError) → CantMake old driven atoms place e → CantMake old driven atoms place f → e ≡ f
  pub never : (old : BookSaid) (driven : List ℕ) (atoms : List (List ℕ)) (place : Place) (new : BookSaid) (e : BlifError) → Makes old driven atoms new → CantMake old driven atoms place e → ⊥
