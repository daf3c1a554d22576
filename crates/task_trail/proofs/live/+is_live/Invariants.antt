use Rattle.task_trail.proofs.live.+is_live.Given as goal

abbrev pub decreases-is_live : goal.decreases-is_live
decreases-is_live l = l.pb.0
