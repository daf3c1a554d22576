use Rattle.fasm_text.proofs.value.put_bits.Goals as goal

pub returns-in_ok-push_number-in-Number : goal.returns-in_ok-push_number-in-Number
returns-in_ok-push_number-in-Number c = rw c.in-Number.is c.in_ok-push_number-in-Number.ensures
