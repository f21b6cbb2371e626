use Rattle.std.proofs.Common.{◌≡◌, ◌+◌, ◌≤◌, drop}
use Rattle.pg_proof.specs.Trimmed.{step_count}
use Rattle.pg_prog_proofs.proofs.import.making.step_count.Given as goal

abbrev pub invariant-loop-act : goal.invariant-loop-act
invariant-loop-act l = record {
  rest : l.count + step_count (drop l.act-index l.acts) ≡ step_count l.acts;
  few : l.count ≤ l.act-index;
}
