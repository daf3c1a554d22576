-- Lines mention, drive and name in one way.
use Rattle.std.proofs.Common.{◌≡◌, inl, inr, ℕ, List, [], ◌∷◌, Some, slice_get, refl, sym, ap, ◌∙◌, subst}
use Rattle.vtr_base.specs.declared.place.Place.{Place}
use Rattle.blif_nets.specs.Growth.{AddsAll, FindsKnown, HasKnown}
use Rattle.blif_nets.specs.Laws.{HasOneNumbering, HasOneGrowth, HasOneKnown, NeverBoth}
use Rattle.blif_errors.specs.declared.error.BlifError.{BlifError}
use Rattle.blif_errors.specs.declared.error.BlifError.TheVariants.{BadLine, TwoDrivers}
use Rattle.blif_books.specs.Books.{BookSaid, Mentions, MentionsAll, Makes, DrivesAgain, NamesAgain, CantMake}

-- what a caller knows of lists
pub record Knows : Type 0 where
  pub numbers : HasOneNumbering
  pub nets : HasOneGrowth ℕ
  pub names : HasOneGrowth (List ℕ)
  pub known_net : HasOneKnown ℕ
  pub never_net : NeverBoth ℕ
  pub never_name : NeverBoth (List ℕ)

abbrev book_of : List (List ℕ) → List ℕ → List (List ℕ) → BookSaid
book_of nets driven names = record { nets = nets; driven = driven; names = names }

same_book : (a b : BookSaid) → a.nets ≡ b.nets → a.driven ≡ b.driven → a.names ≡ b.names → a ≡ b
same_book a b x y z = ap (λ l. book_of l a.driven a.names) x ∙ (ap (λ l. book_of b.nets l a.names) y ∙ ap (book_of b.nets b.driven) z)

pub one_mentions : Knows → (old : BookSaid) (names : List (List ℕ)) (a b : BookSaid) (ms ns : List ℕ) → MentionsAll old names a ms → MentionsAll old names b ns → (a ≡ b) × (ms ≡ ns)
one_mentions k old names a b ms ns x y =
    let same = k.numbers old.nets names a.nets b.nets ms ns x.numbered y.numbered in
    (same_book a b same.0 (x.driven ∙ sym y.driven) (x.names_kept ∙ sym y.names_kept), same.1)

pub one_mention : Knows → (old : BookSaid) (name : List ℕ) (a b : BookSaid) (m n : ℕ) → Mentions old name a m → Mentions old name b n → (a ≡ b) × (m ≡ n)
one_mention k old name a b m n x y =
    let same = k.numbers old.nets (name ∷ []) a.nets b.nets (m ∷ []) (n ∷ []) (a.nets, m, [], x.numbered, refl, (refl, refl)) (b.nets, n, [], y.numbered, refl, (refl, refl)) in
    let lists : m ∷ [] ≡ n ∷ [] = same.1 in
    (same_book a b same.0 (x.driven ∙ sym y.driven) (x.names ∙ sym y.names), cc)

pub one_making : Knows → (old : BookSaid) (driven : List ℕ) (atoms : List (List ℕ)) (a b : BookSaid) → Makes old driven atoms a → Makes old driven atoms b → a ≡ b
one_making k old driven atoms a b x y =
    same_book a b (x.nets ∙ sym y.nets) (k.nets old.driven driven a.driven b.driven x.drives y.drives) (k.names old.names atoms a.names b.names x.named y.named)

same_net : (nets : List (List ℕ)) (m n : ℕ) (a b : List ℕ) → m ≡ n → slice_get nets m ≡ Some a → slice_get nets n ≡ Some b → a ≡ b
same_net nets m n a b is x y =
    let e : Some a ≡ Some b = sym x ∙ (ap (slice_get nets) is ∙ y) in
    cc

pub one_failing : Knows → (old : BookSaid) (driven : List ℕ) (atoms : List (List ℕ)) (place : Place) (e f : BlifError) → CantMake old driven atoms place e → CantMake old driven atoms place f → e ≡ f
one_failing k old driven atoms place e f (inl x) (inl y) =
    let net = k.known_net old.driven driven x.net y.net x.known y.known in
    x.is ∙ (ap TwoDrivers (same_net old.nets x.net y.net x.name y.name net x.named y.named) ∙ sym y.is)
one_failing k old driven atoms place e f (inl x) (inr y) = absurd (k.never_net old.driven driven y.all x.net y.drives x.known)
one_failing k old driven atoms place e f (inr x) (inl y) = absurd (k.never_net old.driven driven x.all y.net x.drives y.known)
one_failing k old driven atoms place e f (inr x) (inr y) = x.is ∙ sym y.is

pub made_or_not : Knows → (old : BookSaid) (driven : List ℕ) (atoms : List (List ℕ)) (place : Place) (new : BookSaid) (e : BlifError) → Makes old driven atoms new → CantMake old driven atoms place e → ⊥
made_or_not k old driven atoms place new e x (inl y) = k.never_net old.driven driven new.driven y.net x.drives y.known
made_or_not k old driven atoms place new e x (inr y) = k.never_name old.names atoms new.names y.known.0 x.named y.known.1
