use Rattle.std.proofs.Common.{◌≡◌, length, drop}
use Rattle.pg_proof.specs.Tight.{hint_clauses}
use Rattle.pg_proof.specs.Marked.{sets_marked}
use Rattle.pg_proof.proofs.tight.sets_are_marked.Given as goal

abbrev pub invariant-loop-hint : goal.invariant-loop-hint
invariant-loop-hint l = record {
  rest : sets_marked l.standing l.flags (hint_clauses l.clauses (drop l.hint-index l.hints)) ≡ sets_marked l.standing l.initial.flags (hint_clauses l.clauses l.hints);
  places : length l.flags ≡ length l.initial.flags;
}
