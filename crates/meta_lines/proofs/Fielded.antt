-- Lines of fields that have no form, and texts at whose lines one stops.
use Rattle.std.proofs.Common.{◌≡◌, ◌<◌, ◌⊎◌, inl, inr, ℕ, List, [], map, take, get_or, length, subst}
use Rattle.meta_parts.specs.Lines.{LineAt, said_lines}
use Rattle.meta_parts.specs.Divisions.{HasSides}
use Rattle.meta_parts.specs.Seen.{seen}
use Rattle.meta_parts.specs.declared.by_line.Line.{Line}
use Rattle.meta_lines.specs.declared.types.Field.{Field}
use Rattle.meta_lines.specs.declared.types.ChildField.{ChildField}
use Rattle.meta_lines.specs.declared.types.ParamField.{ParamField}
use Rattle.meta_lines.specs.declared.error.LineError.{LineError}
use Rattle.meta_lines.specs.declared.error.LineError.TheVariants.{OutOfMemory}
use Rattle.meta_lines.specs.Fields.{IsFieldForm, NamesChild, NamesParam, HasChildForm, HasParamForm, SaysNamed, RefusesNamed}
use Rattle.meta_lines.specs.Readings.{LinesSay, StopsAt}
use Rattle.meta_lines.proofs.Meaning.{OneSides}
use Rattle.meta_lines.proofs.Stopping.{stop_here}

pub no_child_left : OneSides → (line : LineAt) (left right : List ℕ) → HasSides line.text left right → ((f : Field) → IsFieldForm left f → ⊥) → (c : ChildField) → HasChildForm line c → ⊥
no_child_left one line left right sides none c form =
    none c.field (subst (λ t. IsFieldForm t c.field) (one line.text form.left form.right left right form.sides sides).0 form.field)

pub no_child_right : OneSides → (line : LineAt) (left right : List ℕ) → HasSides line.text left right → ((name : List ℕ) (instance : ℕ) → NamesChild right name instance → ⊥) →
    (c : ChildField) → HasChildForm line c → ⊥
no_child_right one line left right sides none c form =
    none c.child c.instance (subst (λ t. NamesChild t c.child c.instance) (one line.text form.left form.right left right form.sides sides).1 form.child)

pub no_param_left : OneSides → (line : LineAt) (left right : List ℕ) → HasSides line.text left right → ((f : Field) → IsFieldForm left f → ⊥) → (p : ParamField) → HasParamForm line p → ⊥
no_param_left one line left right sides none p form =
    none p.field (subst (λ t. IsFieldForm t p.field) (one line.text form.left form.right left right form.sides sides).0 form.field)

pub no_param_right : OneSides → (line : LineAt) (left right : List ℕ) → HasSides line.text left right → ((param : List ℕ) → NamesParam right param → ⊥) → (p : ParamField) → HasParamForm line p → ⊥
no_param_right one line left right sides none p form =
    none p.param (subst (λ t. NamesParam t p.param) (one line.text form.left form.right left right form.sides sides).1 form.param)

pub named_stops : {V : Type 0} (HasForm : LineAt → V → Type 0) (name : V → List ℕ) (text : List ℕ) (lines : List Line) (k : ℕ) (d : Line) (before : List V) (e : LineError) → k < length lines →
    map seen lines ≡ said_lines text → LinesSay (SaysNamed HasForm name) [] (map seen (take k lines)) before →
    (e ≡ OutOfMemory) ⊎ ((earlier : List V) → RefusesNamed HasForm name earlier (seen (get_or lines k d)) e) →
    (e ≡ OutOfMemory) ⊎ StopsAt (SaysNamed HasForm name) (RefusesNamed HasForm name) (said_lines text) e
named_stops HasForm name text lines k d before e within are said (inl short) = inl short
named_stops HasForm name text lines k d before e within are said (inr refused) =
    stop_here (SaysNamed HasForm name) (RefusesNamed HasForm name) text lines k d before e within are said (inr (refused before))
