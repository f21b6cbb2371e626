use Rattle.std.proofs.Common.{◌≡◌, length}
use Rattle.pg_proof.proofs.CoverLemmas.{AreListed}
use Rattle.pg_proof.proofs.cover.hang_all.Given as goal

abbrev pub invariant-loop-i : goal.invariant-loop-i
invariant-loop-i l = record {
  listed : AreListed (length l.fn.hung.heads.items) l.hung.heads.items l.hung.links.items l.clauses l.i;
  made : l.hung.made ≡ l.fn.hung.made;
}
