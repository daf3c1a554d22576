use Rattle.site_bits.proofs.Words.{words_there}
use Rattle.site_bits.proofs.laws.each_way_has_words.Goals as goal

pub returns : goal.returns
returns c = λ block saids says.
    let all = (c.owners_say.ensures block saids says).pb_types in
    words_there block (λ a p there. (let own = all a p there in (own.0, own.1.texts)))
