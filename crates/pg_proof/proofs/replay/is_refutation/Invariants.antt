use Rattle.pg_proof.proofs.ReplayLemmas.{IsReplayed}
use Rattle.pg_proof.proofs.replay.is_refutation.Given as goal

abbrev pub invariant-loop-act : goal.invariant-loop-act
invariant-loop-act l = IsReplayed l.cnf.clauses l.acts l.checker l.act-index
