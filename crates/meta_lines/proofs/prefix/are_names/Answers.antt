use Rattle.std.proofs.Common.{refl, map, subst, arith, ℕ, List, Bor}
use Rattle.std.specs.List.{All}
use Rattle.fasm_text.specs.Names.{IsFeatureName}
use Rattle.meta_lines.proofs.Listing.{all_more, all_at, map_whole, untrue}
use Rattle.meta_lines.proofs.prefix.are_names.Goals as goal

pub returns-then-not-is_feature_name : goal.returns-then-not-is_feature_name
returns-then-not-is_feature_name c = (
  λ fails. cc,
  λ named.
      absurd (untrue _ c.if-not-is_feature_name.true (c.is_feature_name.ensures.1
      (all_at IsFeatureName (λ (w : Bor (List ℕ)). w.now) c.args.words.now c.loop-word.word-index _ c.loop-word-test.true named))),
)

pub loop-word-preserved : goal.loop-word-preserved
loop-word-preserved c =
    all_more IsFeatureName (λ (w : Bor (List ℕ)). w.now) c.args.words.now c.loop-word.word-index _ c.loop-word-test.true c.loop-word.invariant
    (c.is_feature_name.ensures.0 c.if-not-is_feature_name.false)

pub returns : goal.returns
returns c = (
  λ yes. subst (All IsFeatureName) (map_whole (λ (w : Bor (List ℕ)). w.now) c.args.words.now c.loop-word.word-index c.loop-word-test.false) c.loop-word.invariant,
  λ named. refl,
)
