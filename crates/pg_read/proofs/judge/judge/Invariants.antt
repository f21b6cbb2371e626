use Rattle.std.proofs.Common.{◌≡◌, drop}
use Rattle.pg_read.specs.Goals.{desc_goals, judged}
use Rattle.pg_read.proofs.judge.judge.Given as goal

abbrev pub invariant-loop-placed : goal.invariant-loop-placed
invariant-loop-placed l = judged l.end l.goals (drop l.placed-index l.toks) ≡ judged l.end desc_goals l.toks
