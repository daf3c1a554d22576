use Rattle.std.proofs.Common.{sym, subst, IsUtf8}
use Rattle.meta_parts.specs.Words.{words_of}
use Rattle.meta_parts.specs.Forms.{HasChild}
use Rattle.meta_lines.proofs.Listing.{some_says}
use Rattle.meta_lines.proofs.Meaning.{only_same}
use Rattle.meta_lines.proofs.fields.child_of.Goals as goal

pub returns-in_default-child_form : goal.returns-in_default-child_form
returns-in_default-child_form c =
    let word = c.in-Some.word.now in
    let only = some_says c.in_ok-word.field-0 c.in-Some.word _ _ c.in-Some.is c.in_ok-word.ensures in
    λ name instance is.
    c.in_default-child_form.ensures name instance (subst (λ w. HasChild w name instance) (only_same is.word word (words_of c.args.text.now) is.only only) is.form)

pub returns-in_default-as_text : goal.returns-in_default-as_text
returns-in_default-as_text c =
    let word = c.in-Some.word.now in
    let form = c.in-Some-child_form.form in
    let only = some_says c.in_ok-word.field-0 c.in-Some.word _ _ c.in-Some.is c.in_ok-word.ensures in
    λ name instance is.
    let here = subst (λ w. HasChild w name instance) (only_same is.word word (words_of c.args.text.now) is.only only) is.form in
    c.in_default-as_text.ensures (subst IsUtf8 (c.one_form.ensures.child word name form.name.now instance form.instance here c.in-Some-child_form.ensures).0 is.utf8)
