use Rattle.std.proofs.Common.{◌≡◌}
use Rattle.pg_sat_search.specs.Held.{first_numbers}
use Rattle.pg_sat_search.proofs.held.first_numbers.Given as goal

abbrev pub invariant-loop-place : goal.invariant-loop-place
invariant-loop-place l = l.numbers.items ≡ first_numbers l.place
