use Rattle.std.proofs.Common.{◌≤◌, ◌+◌, ◌-◌}
use Rattle.std.specs.Result.{IsOk}
use Rattle.pg_verify.specs.Feeding.{most_bytes}
use Rattle.pg_cmd_base.specs.Answering.{OnlyReads}
use Rattle.pg_cmd_certs.specs.Parts.{IsFed}
use Rattle.pg_cmd_certs.proofs.certified.verify_parts.Given as goal

-- the parts so far were handed over, and none was refused
abbrev pub invariant-parts : goal.invariant-parts
invariant-parts g l = record {
  fed : IsFed l.machine.desc l.fn.family (g.F.Shelf.files l.initial.shelf) l.name l.at l.verifier;
  some : IsOk l.verifier;
  within : l.at ≤ most_bytes;
  reads : OnlyReads g.F.Shelf l.initial.shelf l.shelf;
}

abbrev pub decreases-parts : goal.decreases-parts
decreases-parts g l = (most_bytes + 1) - l.at
