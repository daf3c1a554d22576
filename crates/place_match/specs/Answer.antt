-- When there are no places, and why.
use Rattle.std.specs.Prelude.{ℕ, List, ⊤}
use Rattle.place_match.specs.declared.error.PlaceError.{PlaceError}
use Rattle.place_match.specs.declared.error.PlaceError.TheVariants.{NoRoom, OutOfMemory}
use Rattle.place_match.specs.Places.{Outnumber, HasNoPlaces}

-- the blocks of a refusal outnumber the sites that fit any of them, and these are its sites
abbrev pub IsRefused : List ℕ → List ℕ → List (ℕ × ℕ) → PlaceError → Type 0
IsRefused blocks sites fits (NoRoom short room) = Outnumber blocks sites fits short.items room.items
IsRefused blocks sites fits OutOfMemory = ⊤

-- where there is no room, no placing exists
abbrev pub HasNoPlacesAtRefusal : List ℕ → List ℕ → List (ℕ × ℕ) → PlaceError → Type 0
HasNoPlacesAtRefusal blocks sites fits (NoRoom short room) = HasNoPlaces blocks sites fits
HasNoPlacesAtRefusal blocks sites fits OutOfMemory = ⊤
