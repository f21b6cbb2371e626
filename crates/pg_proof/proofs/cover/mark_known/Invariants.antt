use Rattle.std.proofs.Common.{◌≡◌, length, drop}
use Rattle.pg_proof.specs.Marked.{marked}
use Rattle.pg_proof.proofs.cover.mark_known.Given as goal

abbrev pub invariant-loop-literal : goal.invariant-loop-literal
invariant-loop-literal l = record {
  rest : marked l.flags (drop l.literal-index l.literals) ≡ marked l.initial.flags l.literals;
  places : length l.flags ≡ length l.initial.flags;
}
