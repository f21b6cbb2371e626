use Rattle.std.proofs.Common.{◌≡◌, drop}
use Rattle.pg_asm.specs.Words.{fit}
use Rattle.pg_asm.proofs.fields.fit.Given as goal

abbrev pub invariant-loop-k : goal.invariant-loop-k
invariant-loop-k l = fit (drop l.k l.fields) (drop l.k l.values) ≡ fit l.fields l.values
