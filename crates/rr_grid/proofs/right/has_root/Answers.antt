use Rattle.rr_grid.proofs.right.has_root.Goals as goal

pub returns-in-None : goal.returns-in-None
returns-in-None c = λ keeps. c.in-None.ensures keeps.root keeps.leads
