use Rattle.std.proofs.Common.{map, ap, sym, subst}
use Rattle.std.specs.List.{All}
use Rattle.meta_parts.specs.Words.{is_gap, words_by}
use Rattle.meta_lines.specs.Features.{IsForm, HasOwnForm, form_of}
use Rattle.meta_lines.proofs.Listing.{each_all, some_says}
use Rattle.meta_lines.proofs.Meaning.{own_form}
use Rattle.meta_lines.proofs.features.read_line.Goals as goal

pub push_features-requires-clause-forms : goal.push_features-requires-clause-forms
push_features-requires-clause-forms c =
    let forms = c.in-Some.forms in
    subst (λ l. All HasOwnForm (map form_of l)) (sym c.as_slice-3.ensures.value)
    (each_all IsForm HasOwnForm own_form _ (map form_of forms.items) (some_says c.in_ok-forms.field-0 forms _ _ c.in-Some.is c.in_ok-forms.ensures))
