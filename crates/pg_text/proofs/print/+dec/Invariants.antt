use Rattle.pg_text.proofs.print.+dec.Given as goal

abbrev pub decreases-dec : goal.decreases-dec
decreases-dec l = l.value
