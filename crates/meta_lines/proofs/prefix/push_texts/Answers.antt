use Rattle.std.proofs.Common.{ℕ, List, Bor}
use Rattle.fasm_text.specs.Names.{IsFeatureName}
use Rattle.meta_lines.proofs.Listing.{all_at}
use Rattle.meta_lines.proofs.prefix.push_texts.Goals as goal

pub text_of-requires : goal.text_of-requires
text_of-requires c =
    c.names_are_texts.ensures.name _ (all_at IsFeatureName (λ (w : Bor (List ℕ)). w.now) c.args.words.now c.loop-word.word-index _ c.loop-word-test.true c.requires)
