use Rattle.std.proofs.Common.{◌≡◌, ◌+◌, ◌-◌, ◌<◌, ◌≤◌, ◌++◌}
use Rattle.pg_sat.specs.Listed.{listed}
use Rattle.pg_sat.proofs.draw.literals_up.Given as goal

abbrev pub invariant-loop-first : goal.invariant-loop-first
invariant-loop-first l = record {
  positive : 0 < l.first;
  within : l.first ≤ l.variables + 1;
  rest : l.literals ++ listed l.flags l.first (l.variables + 1 - l.first) ≡ listed l.flags 1 l.variables;
}

abbrev pub decreases-loop-first : goal.decreases-loop-first
decreases-loop-first l = l.variables + 1 - l.first
