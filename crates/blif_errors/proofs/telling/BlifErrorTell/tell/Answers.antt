use Rattle.std.proofs.Common.{◌++◌, append_assoc, ap, sym, ◌∙◌}
use Rattle.std.specs.Prelude.{codes}
use Rattle.std.proofs.lemmas.Result.{on_ok_weaker}
use Rattle.blif_errors.specs.Telling.{joined}
use Rattle.blif_errors.proofs.telling.BlifErrorTell.tell.Goals as goal

pub returns-in-TwoDrivers : goal.returns-in-TwoDrivers
returns-in-TwoDrivers c = rw (c.in-TwoDrivers.is, ← c.as_str.ensures) c.put_two.ensures

pub returns-in-MixedCover : goal.returns-in-MixedCover
returns-in-MixedCover c = rw (c.in-MixedCover.is, ← c.as_str-in-MixedCover.ensures) c.put_two-in-MixedCover.ensures

pub returns-in-LatchKind : goal.returns-in-LatchKind
returns-in-LatchKind c = rw (c.in-LatchKind.is, ← c.as_str-in-LatchKind.ensures) c.put_two-in-LatchKind.ensures

pub returns-in_ok-push_str-in-CombLoop : goal.returns-in_ok-push_str-in-CombLoop
returns-in_ok-push_str-in-CombLoop c =
    rw c.in-CombLoop.is
    (on_ok_weaker c.put_joined.result
    (λ put. put ∙ (ap (λ t. t ++ joined c.as_slice.result.now) c.in_ok-push_str-in-CombLoop.ensures.ok ∙ (append_assoc c.args.text.now (codes "47 CombLoop ") (joined c.as_slice.result.now)
    ∙ ap (λ l. c.args.text.now ++ (codes "47 CombLoop " ++ joined l)) c.as_slice.ensures)))
    c.put_joined.ensures)

pub returns-in-Unsupported : goal.returns-in-Unsupported
returns-in-Unsupported c = rw (c.in-Unsupported.is, ← c.as_str-in-Unsupported.ensures) c.put_two-in-Unsupported.ensures

pub returns-in-UnknownModel : goal.returns-in-UnknownModel
returns-in-UnknownModel c = rw (c.in-UnknownModel.is, ← c.as_str-in-UnknownModel.ensures) c.put_two-in-UnknownModel.ensures
