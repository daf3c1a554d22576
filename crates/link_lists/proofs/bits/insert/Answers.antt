use Rattle.std.proofs.Common.{◌%◌, ◌∙◌, ap, arith}
use Rattle.std.specs.Int.{bit_at, w64}
use Rattle.std.proofs.lemmas.Nat.Bits.{bit_at_set_same, bit_at_set_other}
use Rattle.link_lists.proofs.Words.{here_is, others_stay, both_ways}
use Rattle.link_lists.proofs.bits.insert.Goals as goal

pub returns-clause-here : goal.returns-clause-here
returns-clause-here c =
    ap (λ w. bit_at w (c.args.k % 64)) (here_is c.args.words.now c.args.k _ c.requires) ∙ bit_at_set_same w64 _ (c.args.k % 64) (omega arith)

pub returns-clause-others : goal.returns-clause-others
returns-clause-others c = λ j apart.
    both_ways (others_stay c.args.words.now c.args.k _ c.requires (λ i within other. bit_at_set_other w64 _ (c.args.k % 64) (omega arith) i other) j apart)
