use Rattle.std.proofs.Common.{◌≡◌, length}
use Rattle.std.specs.Result.{IsOk}
use Rattle.pg_verify.specs.Taking.{then_take}
use Rattle.pg_verify.specs.Feeding.{fed}
use Rattle.pg_cert_migrate.proofs.reporting.feed_all.Given as goal

-- what is left leads where all bytes do
abbrev pub invariant-pieces : goal.invariant-pieces
invariant-pieces g l = record {
  leads : then_take l.initial.verifier (λ p. fed p l.fn.bytes) ≡ then_take l.verifier (λ p. fed p l.left);
  some : IsOk l.verifier;
}

abbrev pub decreases-pieces : goal.decreases-pieces
decreases-pieces g l = length l.left
