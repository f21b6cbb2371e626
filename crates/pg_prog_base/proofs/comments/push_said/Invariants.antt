use Rattle.pg_prog_base.specs.Dimacs.{GoesOn}
use Rattle.pg_prog_base.proofs.comments.push_said.Given as goal

-- the bytes so far
abbrev pub invariant-loop-byte : goal.invariant-loop-byte
invariant-loop-byte l = GoesOn l.initial.text.items l.text.items
