use Rattle.std.proofs.Common.{◌≡◌, ◌-◌, ◌++◌, length}
use Rattle.pg_symex.specs.Exprs.{literal_bits}
use Rattle.pg_symex.proofs.literal.literal.Given as goal

abbrev pub invariant-loop : goal.invariant-loop
invariant-loop l = record {
  built : l.gates.items ++ literal_bits l.rest (l.width - l.counter) ≡ literal_bits l.value l.width;
  size : length l.gates.items ≡ l.counter;
}
