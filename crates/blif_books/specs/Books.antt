-- Nets and names of atoms, as lines mention, drive and give them.
use Rattle.std.specs.Prelude.{◌≡◌, ◌⊎◌, ℕ, List, [], Some, slice_get}
use Rattle.vtr_base.specs.Lists.{Has}
use Rattle.vtr_base.specs.declared.place.Place.{Place}
use Rattle.blif_nets.specs.Growth.{AddsAll, FindsKnown, HasKnown}
use Rattle.blif_nets.specs.Mentions.{IsNumbered, NumbersAll}
use Rattle.blif_errors.specs.declared.error.BlifError.{BlifError}
use Rattle.blif_errors.specs.declared.error.BlifError.TheVariants.{BadLine, TwoDrivers}

pub record BookSaid : Type 0 where
  -- the names of nets, in the order in which they were first mentioned
  pub nets : List (List ℕ)
  -- the nets that are driven, in the order in which lines drove them
  pub driven : List ℕ
  -- the names of atoms, in the order of their lines
  pub names : List (List ℕ)

abbrev pub no_book : BookSaid
no_book = record { nets = []; driven = []; names = [] }

-- the net of this name is driven
abbrev pub IsDriven : BookSaid → List ℕ → Type 0
IsDriven book name = (n : ℕ) × (slice_get book.nets n ≡ Some name) × Has book.driven n

-- a net is mentioned, and has this number
pub record Mentions (old : BookSaid) (name : List ℕ) (new : BookSaid) (number : ℕ) : Type 0 where
  pub numbered : IsNumbered old.nets name new.nets number
  pub driven : new.driven ≡ old.driven
  pub names : new.names ≡ old.names

-- nets are mentioned one after the other, and have these numbers
pub record MentionsAll (old : BookSaid) (names : List (List ℕ)) (new : BookSaid) (numbers : List ℕ) : Type 0 where
  pub numbered : NumbersAll old.nets names new.nets numbers
  pub driven : new.driven ≡ old.driven
  pub names_kept : new.names ≡ old.names

-- nets are driven that weren't, and atoms get names that no atom had
pub record Makes (old : BookSaid) (driven : List ℕ) (atoms : List (List ℕ)) (new : BookSaid) : Type 0 where
  pub drives : AddsAll old.driven driven new.driven
  pub named : AddsAll old.names atoms new.names
  pub nets : new.nets ≡ old.nets

-- the first of the nets that is driven already
pub record DrivesAgain (old : BookSaid) (driven : List ℕ) (e : BlifError) : Type 0 where
  pub net : ℕ
  pub name : List ℕ
  pub known : FindsKnown old.driven driven net
  pub named : slice_get old.nets net ≡ Some name
  pub is : e ≡ TwoDrivers name

-- no net is driven again, but an atom has one of the names
pub record NamesAgain (old : BookSaid) (driven : List ℕ) (atoms : List (List ℕ)) (place : Place) (e : BlifError) : Type 0 where
  pub all : List ℕ
  pub drives : AddsAll old.driven driven all
  pub known : HasKnown old.names atoms
  pub is : e ≡ BadLine place

abbrev pub CantMake : BookSaid → List ℕ → List (List ℕ) → Place → BlifError → Type 0
CantMake old driven atoms place e = DrivesAgain old driven e ⊎ NamesAgain old driven atoms place e
