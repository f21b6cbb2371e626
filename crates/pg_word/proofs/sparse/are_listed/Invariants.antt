use Rattle.pg_word.proofs.SparseLemmas.{ListedSoFar}
use Rattle.pg_word.proofs.sparse.are_listed.Given as goal

abbrev pub invariant-loop-cell : goal.invariant-loop-cell
invariant-loop-cell l = ListedSoFar l.cells l.cell-index l.least
