use Rattle.std.proofs.Common.{◌≡◌, ◌++◌, drop}
use Rattle.pg_proof.specs.Numbering.{raised}
use Rattle.pg_proof.specs.Tidied.{fresh}
use Rattle.pg_proof.proofs.tidying.fresh_hints.Given as goal

abbrev pub invariant-loop-hint : goal.invariant-loop-hint
invariant-loop-hint l = record {
  rest : l.made.items ++ fresh l.question l.flags (drop l.hint-index l.hints) ≡ fresh l.question l.initial.flags l.hints;
  up : raised l.flags (drop l.hint-index l.hints) ≡ raised l.initial.flags l.hints;
}
