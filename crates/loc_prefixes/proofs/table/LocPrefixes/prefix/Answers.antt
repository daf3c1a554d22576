use Rattle.std.proofs.Common.{◌≡◌, ℕ, List, Option, Some, sym, ap, ◌∙◌, subst}
use Rattle.std.specs.Option.{option_and_then}
use Rattle.loc_prefixes.specs.Prefixes.{IsPrefixOf, word_at}
use Rattle.loc_prefixes.proofs.Looking.{looked_up}
use Rattle.loc_prefixes.proofs.table.LocPrefixes.prefix.Goals as goal

pub returns : goal.returns
returns c = λ tiles singles different is.
    let table = c.args.self.now in
    let loc = c.args.loc in
    let held = sym c.at.ensures ∙ c.in_ok-place.was in
    subst (IsPrefixOf tiles singles loc)
    (sym (c.word_of.ensures ∙ (ap (λ l. word_at l c.in_ok-place.place loc) c.as_slice.ensures ∙ ap (option_and_then (λ place. word_at table.said place loc)) (sym held))))
    (looked_up tiles singles loc different table is)
