-- Which rule an architecture file breaks first: elements are looked at in the order in which they
-- begin in the file, and at each of them the rules in the order of `Refuses`.
use Rattle.std.specs.Prelude.{◌≡◌, ℕ, Result, Ok, Err, List, [], ◌∷◌, ◌++◌, flat_map, if◌then◌else◌, codes}
use Rattle.vtr_base.specs.declared.place.Place.{Place}
use Rattle.elem_text.specs.declared.elem.Elem.{Elem, out-Elem}
use Rattle.arch_rules.specs.declared.error.RuleError.{RuleError}
use Rattle.arch_rules.specs.declared.error.RuleError.TheVariants.{UnknownElement, MissingAttr, BadNumber, SameName, Unsupported, Limit, OutOfMemory}
use Rattle.arch_rules.specs.declared.error.LimitKind.{LimitKind}
use Rattle.arch_rules.specs.declared.role.Role.{Role}
use Rattle.arch_rules.specs.declared.role.Role.TheVariants as role
use Rattle.arch_rules.specs.Elements.{name_of, kids_of, is_named, text_at}
use Rattle.arch_rules.specs.Rules.{Inside, role_at, IsMissing, HasBadNumber, IsTaken, IsUnsupported, Passes}

-- the first rules hold, or all
abbrev pub IsKnown : Role → Type 0
IsKnown r = r ≡ role.Unknown → ⊥

abbrev pub IsComplete : Role → Elem → Type 0
IsComplete r e = IsKnown r × ((name : List ℕ) → IsMissing r e name → ⊥)

abbrev pub IsNumbered : Role → Elem → Type 0
IsNumbered r e = IsComplete r e × (HasBadNumber r e → ⊥)

-- the name isn't taken either
abbrev pub IsApart : Role → Type 0 → Elem → Type 0
IsApart r Taken e = IsNumbered r e × (Taken → ⊥)

abbrev pub IsSupported : Role → Type 0 → Elem → Type 0
IsSupported r Taken e = IsApart r Taken e × (IsUnsupported r e → ⊥)

abbrev pub IsFine : Role → Type 0 → Elem → Type 0
IsFine r Taken e = IsSupported r Taken e × ((which : LimitKind) → Passes r e which → ⊥)

abbrev pub place_of : Elem → Place
place_of e = (out-Elem e).place

-- the error tells the first of the rules on an element's own name and attributes that it breaks,
-- with its place. Want of memory says nothing
abbrev pub RefusesForm : Role → Elem → RuleError → Type 0
RefusesForm r e (UnknownElement name place) = (place ≡ place_of e) × (name ≡ name_of e) × (r ≡ role.Unknown)
RefusesForm r e (MissingAttr name place) = (place ≡ place_of e) × IsKnown r × IsMissing r e name
RefusesForm r e (BadNumber place) = (place ≡ place_of e) × IsComplete r e × HasBadNumber r e
RefusesForm r e OutOfMemory = Unit {0}
RefusesForm r e _ = ⊥

-- the error tells the first rule that the element breaks, with its place; `Taken` says that its name
-- is taken
abbrev pub Refuses : Role → Type 0 → Elem → RuleError → Type 0
Refuses r Taken e (SameName name place) = (place ≡ place_of e) × IsNumbered r e × (name ≡ text_at e (codes "name")) × Taken
Refuses r Taken e (Unsupported what place) = (place ≡ place_of e) × IsApart r Taken e × (what ≡ name_of e) × IsUnsupported r e
Refuses r Taken e (Limit which place) = (place ≡ place_of e) × IsSupported r Taken e × Passes r e which
Refuses r Taken e error = RefusesForm r e error

-- the same of an element where it stands
abbrev pub IsFineAt : Inside → List Elem → Elem → Type 0
IsFineAt at before e = IsFine (role_at at e) (IsTaken at before e) e

abbrev pub RefusesAt : Inside → List Elem → Elem → RuleError → Type 0
RefusesAt at before e error = Refuses (role_at at e) (IsTaken at before e) e error

-- where the children of an element stand
abbrev pub owner_in : Role → List ℕ → Elem → List ℕ
owner_in role.Block owner e = text_at e (codes "name")
owner_in role.PbType owner e = text_at e (codes "name")
owner_in _ owner e = owner

abbrev pub inside : Inside → Elem → Inside
inside at e = record { parent = role_at at e; owner = owner_in (role_at at e) at.owner e }

-- the children of those of these elements that have this name
abbrev pub in_lists : List ℕ → List Elem → List Elem
in_lists name before = flat_map (λ b. if is_named name b then kids_of b else []) before

-- the elements that count as earlier siblings of an element's children: all models of a file are
-- siblings, and so are all tiles and all block types, also where they stand in several lists
abbrev pub cousins : Role → List Elem → List Elem
cousins role.Models before = in_lists (codes "models") before
cousins role.Tiles before = in_lists (codes "tiles") before
cousins role.Blocks before = in_lists (codes "complexblocklist") before
cousins _ before = []

-- no rule is broken at these elements, nor inside them; `before` stands before them
pub data AreFine : Inside → List Elem → List Elem → Type 0 where
  none : (at : Inside) (before : List Elem) → AreFine at before []
  more : (at : Inside) (before : List Elem) (e : Elem) (rest : List Elem) → IsFineAt at before e →
      AreFine (inside at e) (cousins (role_at at e) before) (kids_of e) → AreFine at (before ++ e ∷ []) rest → AreFine at before (e ∷ rest)

-- the error tells the first rule that these elements break: at the first of them, inside it, or later
pub data FirstBreaks (error : RuleError) : Inside → List Elem → List Elem → Type 0 where
  here : (at : Inside) (before : List Elem) (e : Elem) (rest : List Elem) → RefusesAt at before e error → FirstBreaks error at before (e ∷ rest)
  deeper : (at : Inside) (before : List Elem) (e : Elem) (rest : List Elem) → IsFineAt at before e →
      FirstBreaks error (inside at e) (cousins (role_at at e) before) (kids_of e) → FirstBreaks error at before (e ∷ rest)
  later : (at : Inside) (before : List Elem) (e : Elem) (rest : List Elem) → IsFineAt at before e →
      AreFine (inside at e) (cousins (role_at at e) before) (kids_of e) → FirstBreaks error at (before ++ e ∷ []) rest → FirstBreaks error at before (e ∷ rest)

abbrev pub the_file : Inside
the_file = record { parent = role.File; owner = [] }

-- a file with this root element breaks no rule
abbrev pub IsFineFile : Elem → Type 0
IsFineFile root = AreFine the_file [] (root ∷ [])

-- this is said of the file where the error tells a rule; want of memory may come at any file
abbrev pub UnlessMemory : RuleError → Type 0 → Type 0
UnlessMemory OutOfMemory P = Unit {0}
UnlessMemory _ P = P

-- the error tells the first rule that a file with this root element breaks
abbrev pub BreaksFirst : Elem → RuleError → Type 0
BreaksFirst root error = UnlessMemory error (FirstBreaks error the_file [] (root ∷ []))

-- what an answer says of elements where they stand
abbrev pub Judges : {T : Type 0} → Result T RuleError → Inside → List Elem → List Elem → Type 0
Judges (Ok x) at before kids = AreFine at before kids
Judges (Err error) at before kids = UnlessMemory error (FirstBreaks error at before kids)

-- and of one of them
abbrev pub JudgesOne : {T : Type 0} → Result T RuleError → Inside → List Elem → Elem → Type 0
JudgesOne (Ok x) at before e = IsFineAt at before e
JudgesOne (Err error) at before e = RefusesAt at before e error
