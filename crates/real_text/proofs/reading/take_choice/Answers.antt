use Rattle.real_text.proofs.Ordering.{some_choice}
use Rattle.real_text.proofs.reading.take_choice.Goals as goal

pub returns-clause-order : goal.returns-clause-order
returns-clause-order c = record {
  few = c.requires.few;
  rising = c.requires.rising;
  begun =
      some_choice c.setting_laws.ensures.mode c.setting_laws.ensures.pick c.setting_laws.ensures.uses c.setting_laws.ensures.lut c.args.reading.now.real.prog c.set.new.self
      c.args.setting c.in_ok-set.ensures.ok;
}
