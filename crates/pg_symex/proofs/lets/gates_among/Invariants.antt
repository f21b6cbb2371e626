use Rattle.std.proofs.Common.{◌≡◌, ◌≤◌, length, take, map, reverse}
use Rattle.pg_symex.specs.Exprs.{let_bits}
use Rattle.pg_symex.proofs.lets.gates_among.Given as goal

abbrev pub invariant-loop-left : goal.invariant-loop-left
invariant-loop-left l = record {
  within : l.left ≤ length l.lets;
  same : let_bits (reverse (map (λ x. (x.name.now, x.bits)) (take l.left l.lets))) l.name ≡ let_bits (reverse (map (λ x. (x.name.now, x.bits)) l.lets)) l.name;
}

abbrev pub decreases-loop-left : goal.decreases-loop-left
decreases-loop-left l = l.left
