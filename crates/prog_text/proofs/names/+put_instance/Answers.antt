use Rattle.std.proofs.Common.{arith}
use Rattle.std.proofs.lemmas.Grind.{common_steps}
use Rattle.prog_map.proofs.Instances.{mode_there}
use Rattle.prog_text.proofs.Written.{instance_is}
use Rattle.prog_text.proofs.names.+put_instance.Goals as goal

pub mode_name-mode-requires-clause-mode : goal.mode_name-mode-requires-clause-mode
mode_name-mode-requires-clause-mode t c = mode_there _ c.in-Some.step _ c.law.ensures c.in-Some.ensures.step

pub returns-in_ok-put_instance-in-Some : goal.returns-in_ok-put_instance-in-Some
returns-in_ok-put_instance-in-Some t c =
    let written = instance_is _ c.in-Some.step _ _ _ c.law.ensures c.in-Some.ensures.step c.mode_name-mode.ensures c.pb_name-in-Some.ensures in
    grind (arith, common_steps, written)
