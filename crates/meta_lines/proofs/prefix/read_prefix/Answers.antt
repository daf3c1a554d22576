use Rattle.std.proofs.Common.{◌≡◌, ◌++◌, inr, map, length, sym, ap, ◌∙◌, subst, arith}
use Rattle.std.specs.List.{All, flat_map}
use Rattle.fasm_text.specs.Names.{IsFeatureName}
use Rattle.meta_parts.specs.Seen.{seen}
use Rattle.meta_parts.specs.Words.{words_of}
use Rattle.meta_lines.proofs.Listing.{untrue}
use Rattle.meta_lines.proofs.Prefixed.{more_words, bad_here}
use Rattle.meta_lines.proofs.prefix.read_prefix.Goals as goal

pub loop-line-preserved : goal.loop-line-preserved
loop-line-preserved c =
    let words = c.in_ok-words.words in
    more_words c.as_slice-lines.result.now c.loop-line.line-index _ c.loop-line.prefixes.items _ (map (λ w. w.now) words.items) c.loop-line-test.true c.loop-line.invariant c.in_ok-words.ensures
    (subst (λ l. All IsFeatureName (map (λ w. w.now) l)) c.as_slice.ensures.value (c.are_names.ensures.0 c.if-not-are_names.false))
    (subst (λ l. c.push_texts.new.texts.items ≡ c.loop-line.prefixes.items ++ map (λ w. w.now) l) c.as_slice-in-loop-line.ensures.value c.in_ok-push_texts.ensures)

pub returns-then-not-are_names-clause-refused : goal.returns-then-not-are_names-clause-refused
returns-then-not-are_names-clause-refused c =
    let words = c.in_ok-words.words in
    let are = ap (map seen) c.as_slice-lines.ensures.value ∙ c.in_ok-said.ensures in
    let counted = ap (λ ls. length (flat_map (λ line. words_of line.text) ls)) are in
    inr (
      omega (arith, counted, c.in_ok-count_words.ensures, c.from.ensures, c.if-branch-from.false),
      bad_here c.args.text.now c.as_slice-lines.result.now c.loop-line.line-index _ c.loop-line.prefixes.items (map (λ w. w.now) words.items) c.loop-line-test.true are c.loop-line.invariant
          c.in_ok-words.ensures (λ names. untrue _ c.if-not-are_names.true (c.are_names.ensures.1 (subst (λ l. All IsFeatureName (map (λ w. w.now) l)) (sym c.as_slice.ensures.value) names))),
    )
