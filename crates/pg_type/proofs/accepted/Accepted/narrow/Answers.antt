use Rattle.std.proofs.Common.{arith}
use Rattle.pg_type.proofs.AgreeLemmas.{agree-known}
use Rattle.pg_type.proofs.accepted.Accepted.narrow.Goals as goal

pub invariant_of-result : goal.invariant_of-result
invariant_of-result c = record {
  accepted = agree-known c.args.self.now.machine.now.desc c.args.machine.now.desc c.requires.agrees (omega arith) c.args.self.now.accepted;
}
