use Rattle.std.proofs.Common.{refl, map, subst, arith}
use Rattle.std.specs.List.{All}
use Rattle.fasm_text.specs.Names.{IsFeatureName}
use Rattle.meta_lines.specs.Features.{AreNamed, form_of}
use Rattle.meta_lines.proofs.Listing.{all_more, all_at, map_whole, untrue}
use Rattle.meta_lines.proofs.forms.are_named.Goals as goal

pub returns-then-not-is_feature_name : goal.returns-then-not-is_feature_name
returns-then-not-is_feature_name c = (
  λ fails. cc,
  λ named.
      absurd (untrue _ c.if-not-is_feature_name.true (c.is_feature_name.ensures.1
      (all_at (λ f. IsFeatureName f.name) form_of c.args.forms.now c.loop-form.form-index _ c.loop-form-test.true named))),
)

pub loop-form-preserved : goal.loop-form-preserved
loop-form-preserved c =
    all_more (λ f. IsFeatureName f.name) form_of c.args.forms.now c.loop-form.form-index _ c.loop-form-test.true c.loop-form.invariant
    (c.is_feature_name.ensures.0 c.if-not-is_feature_name.false)

pub returns : goal.returns
returns c = (
  λ yes. subst AreNamed (map_whole form_of c.args.forms.now c.loop-form.form-index c.loop-form-test.false) c.loop-form.invariant,
  λ named. refl,
)
