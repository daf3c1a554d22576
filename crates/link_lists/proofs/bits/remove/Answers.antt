use Rattle.std.proofs.Common.{◌%◌, arith}
use Rattle.std.specs.Int.{w64}
use Rattle.std.proofs.lemmas.Nat.Bits.{bit_at_clear_same, bit_at_clear_other}
use Rattle.link_lists.proofs.Words.{not_in, others_stay, both_ways}
use Rattle.link_lists.proofs.bits.remove.Goals as goal

pub returns-clause-here : goal.returns-clause-here
returns-clause-here c = not_in c.args.words.now c.args.k _ c.requires (bit_at_clear_same w64 _ (c.args.k % 64) (omega arith))

pub returns-clause-others : goal.returns-clause-others
returns-clause-others c = λ j apart.
    both_ways (others_stay c.args.words.now c.args.k _ c.requires (λ i within other. bit_at_clear_other w64 _ (c.args.k % 64) (omega arith) i within other) j apart)
