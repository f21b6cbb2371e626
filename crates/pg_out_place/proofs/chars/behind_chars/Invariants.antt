use Rattle.std.proofs.Common.{◌≤◌, length}
use Rattle.pg_out_place.proofs.chars.behind_chars.Given as goal

abbrev pub invariant-loop : goal.invariant-loop
invariant-loop l = length l.left ≤ length l.text
