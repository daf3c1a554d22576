use Rattle.meta_lines.proofs.forms.feature_of.Goals as goal

pub text_of-requires-2 : goal.text_of-requires-2
text_of-requires-2 c = c.names_are_texts.ensures.word c.args.form.now.word.now c.args.form.now.name.now c.args.form.now.bit c.requires.form c.requires.named
