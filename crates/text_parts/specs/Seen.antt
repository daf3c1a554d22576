-- What clauses see of a word.
use Rattle.text_parts.specs.declared.by_word.Word.{Word}
use Rattle.text_parts.specs.Words.{WordAt}

abbrev pub seen : Word → WordAt
seen w = record { text = w.text.now; at = w.at }
