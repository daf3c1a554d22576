use Rattle.word_texts.proofs.Dividing.{words_of}
use Rattle.word_texts.proofs.laws.text_words.Goals as goal

pub returns : goal.returns
returns c = words_of
