-- The text that a realisation is written as: a line for each home, in the order of the atoms, a line for
-- each entry, and then the programming's.
use Rattle.std.specs.Prelude.{ℕ, List, [], ◌∷◌, ◌++◌, codes, flat_map, slice_get}
use Rattle.std.specs.Option.{unwrap_or}
use Rattle.pb_expand.specs.declared.number.PbIx.{PbIx}
use Rattle.pb_expand.specs.Graph.{Graph}
use Rattle.prog_text.specs.Names.{instance_name, pin_name}
use Rattle.prog_text.specs.Spelling.{prog_text}
use Rattle.task_types.specs.declared.task.Entry.{Entry}
use Rattle.task_types.specs.declared.real.Real.{Real}

-- a keyword and two words
abbrev pub two_line : List ℕ → List ℕ → List ℕ → List ℕ
two_line keyword first second = keyword ++ 32 ∷ (first ++ 32 ∷ second)

-- `home ATOM INST`, with the line feed that ends it
abbrev pub home_text : Graph → List ℕ → PbIx → List ℕ
home_text g atom leaf = two_line (codes "home") atom (instance_name g leaf.0) ++ 10 ∷ []

-- the leaves of the atoms with these names
abbrev pub homes_text : Graph → List (List ℕ) → List PbIx → List ℕ
homes_text g atoms [] = []
homes_text g [] (leaf ∷ homes) = []
homes_text g (atom ∷ atoms) (leaf ∷ homes) = home_text g atom leaf ++ homes_text g atoms homes

-- `enter PIN NET`; `nets` has the names of the task's nets
abbrev pub entry_text : Graph → List (List ℕ) → Entry → List ℕ
entry_text g nets entry = two_line (codes "enter") (pin_name g entry.pin.0) (unwrap_or (slice_get nets entry.net) []) ++ 10 ∷ []

abbrev pub real_text : Graph → List (List ℕ) → List (List ℕ) → Real → List ℕ
real_text g atoms nets r = homes_text g atoms r.homes ++ (flat_map (entry_text g nets) r.entries ++ prog_text g r.prog)
