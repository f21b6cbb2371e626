use Rattle.std.proofs.Common.{◌≡◌, ◌+◌, ◌-◌, ◌≤◌, length, drop}
use Rattle.std.specs.List.{prefix_len}
use Rattle.std.specs.Prelude.{not, ◌==◌}
use Rattle.pg_text.proofs.classes.len_before.Given as goal

abbrev pub invariant-loop-n : goal.invariant-loop-n
invariant-loop-n l = record {
  within : l.n ≤ length l.text;
  so_far : l.n + prefix_len (λ c. not (c == l.byte)) (drop l.n l.text) ≡ prefix_len (λ c. not (c == l.byte)) l.text;
}

abbrev pub decreases-loop-n : goal.decreases-loop-n
decreases-loop-n l = length l.text - l.n
