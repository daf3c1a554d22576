use Rattle.fasm_text.specs.Names.{IsFeatureName}
use Rattle.meta_lines.specs.Features.{HasOwnForm, form_of}
use Rattle.meta_lines.proofs.Listing.{all_at}
use Rattle.meta_lines.proofs.forms.push_features.Goals as goal

pub feature_of-requires-clause-form : goal.feature_of-requires-clause-form
feature_of-requires-clause-form c = all_at HasOwnForm form_of c.args.forms.now c.loop-form.form-index _ c.loop-form-test.true c.requires.forms

pub feature_of-requires-clause-named : goal.feature_of-requires-clause-named
feature_of-requires-clause-named c = all_at (λ f. IsFeatureName f.name) form_of c.args.forms.now c.loop-form.form-index _ c.loop-form-test.true c.requires.named
