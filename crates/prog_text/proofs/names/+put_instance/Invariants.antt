use Rattle.prog_text.proofs.names.+put_instance.Given as goal

abbrev pub decreases-put_instance : goal.decreases-put_instance
decreases-put_instance l = l.pb.0
