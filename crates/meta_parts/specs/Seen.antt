-- What clauses see of what is read of a text of metadata.
use Rattle.std.specs.Prelude.{ℕ, List, Option}
use Rattle.std.specs.Option.{option_map}
use Rattle.meta_parts.specs.declared.by_line.Line.{Line}
use Rattle.meta_parts.specs.declared.index.IndexedName.{IndexedName}
use Rattle.meta_parts.specs.Lines.{LineAt}

abbrev pub seen : Line → LineAt
seen l = record { number = l.number; text = l.text.now }

abbrev pub index_of : IndexedName → Option (List ℕ)
index_of i = option_map (λ r. r.now) i.index
