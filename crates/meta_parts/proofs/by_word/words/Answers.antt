use Rattle.std.proofs.Common.{rules, tests}
use Rattle.std.proofs.lemmas.Iterator.Consumers.{map_from_collect, YieldsList-at, YieldsList-from_filter}
use Rattle.std.proofs.lemmas.Iterator.Splits.{YieldsList-from_slice_split}
use Rattle.vtr_base.specs.Spans.{is_white}
use Rattle.meta_parts.specs.Words.{is_filled}
use Rattle.meta_parts.proofs.by_word.words.Goals as goal

pub returns : goal.returns
returns c =
    map_from_collect _ c.collect.ensures.ran
    (YieldsList-from_filter _ is_filled
    (YieldsList-at c.filter.ensures.source (YieldsList-from_slice_split _ is_white c.args.text.now c.split.ensures.rest c.split.ensures.done c.split.ensures.closure (λ x b q called. search (rules, tests))))
    c.filter.ensures.closure (λ x b q called. search (rules, tests)))
