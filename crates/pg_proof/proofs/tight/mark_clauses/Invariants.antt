use Rattle.std.proofs.Common.{◌≡◌, length, drop}
use Rattle.pg_proof.specs.Tight.{hint_clauses}
use Rattle.pg_proof.specs.Marked.{marked_all}
use Rattle.pg_proof.proofs.tight.mark_clauses.Given as goal

abbrev pub invariant-loop-hint : goal.invariant-loop-hint
invariant-loop-hint l = record {
  rest : marked_all l.flags (hint_clauses l.clauses (drop l.hint-index l.hints)) ≡ marked_all l.initial.flags (hint_clauses l.clauses l.hints);
  places : length l.flags ≡ length l.initial.flags;
}
