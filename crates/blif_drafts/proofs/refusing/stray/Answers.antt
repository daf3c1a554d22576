use Rattle.std.proofs.Common.{ap, inl, inr, refl}
use Rattle.list_laws.proofs.Members.{has_at}
use Rattle.arch_types.specs.Models.{model_names}
use Rattle.blif_errors.specs.declared.error.BlifError.TheVariants.{UnknownModel}
use Rattle.blif_drafts.proofs.Boxed.{no_model_named}
use Rattle.blif_drafts.proofs.refusing.stray.Goals as goal

pub returns-in-Some : goal.returns-in-Some
returns-in-Some c = inr (has_at (model_names c.args.models.now) c.in-Some.field-0 c.args.name.now c.in-Some.ensures.there, refl)

pub returns-in_ok-from_str-in-None : goal.returns-in_ok-from_str-in-None
returns-in_ok-from_str-in-None c = inl (no_model_named c.args.models.now c.args.name.now c.in-None.ensures, ap UnknownModel c.in_ok-from_str-in-None.ensures)
