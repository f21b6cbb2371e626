use Rattle.pg_prog_base.specs.Dimacs.{AreComments}
use Rattle.pg_prog_base.proofs.comments.push_comments.Given as goal

-- the lines so far
abbrev pub invariant-loop-cell : goal.invariant-loop-cell
invariant-loop-cell l = AreComments l.text.items
