use Rattle.pg_sat_foreign.proofs.chain.hints_of.Given as goal

abbrev pub decreases-loop-at : goal.decreases-loop-at
decreases-loop-at l = l.at
