use Rattle.std.proofs.Common.{◌≡◌, ◌+◌, drop}
use Rattle.std.specs.List.{position_or_len}
use Rattle.pg_proof.specs.Numbering.{adds_empty}
use Rattle.pg_proof.proofs.trimming.place_of_empty.Given as goal

abbrev pub invariant-loop-i : goal.invariant-loop-i
invariant-loop-i l = l.i + position_or_len adds_empty (drop l.i l.acts) ≡ position_or_len adds_empty l.acts
