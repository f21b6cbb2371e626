use Rattle.std.proofs.Common.{◌≡◌, ◌+◌, drop}
use Rattle.std.specs.Prelude.{nat_lt}
use Rattle.std.specs.List.{prefix_len}
use Rattle.pg_cert.proofs.rows.count_before.Given as goal

abbrev pub invariant-loop-count : goal.invariant-loop-count
invariant-loop-count l = l.count + prefix_len (λ cell. nat_lt cell.0 l.end) (drop l.count l.cells) ≡ prefix_len (λ cell. nat_lt cell.0 l.end) l.cells
