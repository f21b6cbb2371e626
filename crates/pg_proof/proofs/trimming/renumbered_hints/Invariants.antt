use Rattle.std.proofs.Common.{◌≡◌, ◌++◌, drop, map}
use Rattle.pg_proof.specs.Numbering.{new_number}
use Rattle.pg_proof.proofs.trimming.renumbered_hints.Given as goal

abbrev pub invariant-loop-hint : goal.invariant-loop-hint
invariant-loop-hint l = l.made ++ map (new_number l.question l.numbers) (drop l.hint-index l.hints) ≡ map (new_number l.question l.numbers) l.hints
