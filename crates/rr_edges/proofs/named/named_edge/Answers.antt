use Rattle.rr_edges.proofs.named.named_edge.Goals as goal

pub returns-in_err-ends : goal.returns-in_err-ends
returns-in_err-ends g c = rw c.from_residual.ensures (λ ends joint ways names. c.in_err-ends.ensures ends names.says)
