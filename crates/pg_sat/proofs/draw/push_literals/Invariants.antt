use Rattle.std.proofs.Common.{◌≡◌, ◌-◌, ◌++◌}
use Rattle.pg_sat.specs.Listed.{listed}
use Rattle.pg_sat.proofs.draw.push_literals.Given as goal

abbrev pub invariant-loop-variable : goal.invariant-loop-variable
invariant-loop-variable l =
    l.literals ++ listed l.flags l.variable (l.end - l.variable) ≡ l.initial.literals ++ listed l.flags l.first (l.end - l.first)
