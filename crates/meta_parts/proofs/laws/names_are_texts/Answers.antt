use Rattle.meta_parts.proofs.Spelling.{name_text, word_text}
use Rattle.meta_parts.proofs.laws.names_are_texts.Goals as goal

pub returns-clause-name : goal.returns-clause-name
returns-clause-name c = name_text

pub returns-clause-word : goal.returns-clause-word
returns-clause-word c = word_text
