use Rattle.pg_ask.proofs.CodeSteps.{broken_step, leaves_made}
use Rattle.pg_vec.proofs.Kept.{front_then, there_later}
use Rattle.pg_circuit.specs.Values.{IsThere}
use Rattle.std.proofs.Common.{subst, sym, length}
use Rattle.pg_ask.proofs.ends.broken.Goals as goal

pub done-requires-clause-mem_trap : goal.done-requires-clause-mem_trap
done-requires-clause-mem_trap c = c.requires.second_mem_trap

pub done-requires-clause-trap : goal.done-requires-clause-trap
done-requires-clause-trap c = c.requires.second_trap

pub and-requires-clause-left : goal.and-requires-clause-left
and-requires-clause-left c = there_later c.args.circuit.now.nodes c.done.new.circuit.nodes c.args.first.now.trap c.in_ok-second_done.ensures.there.front c.requires.trap

pub and-requires-clause-right : goal.and-requires-clause-right
and-requires-clause-right c = subst (IsThere (length c.done.new.circuit.nodes)) (sym c.not.ensures) (there_later c.args.circuit.now.nodes c.done.new.circuit.nodes c.args.second.now.mem_trap c.in_ok-second_done.ensures.there.front c.requires.second_mem_trap)

pub or-requires-clause-left : goal.or-requires-clause-left
or-requires-clause-left c = there_later c.done.new.circuit.nodes c.and.new.circuit.nodes c.in_ok-second_done.second_done c.and.ensures.kept.front c.in_ok-second_done.ensures.there.there

pub or-requires-clause-right : goal.or-requires-clause-right
or-requires-clause-right c = c.in_ok-odd.ensures.there

pub returns-clause-there : goal.returns-clause-there
returns-clause-there c = leaves_made c.or.result c.args.circuit.now.nodes c.or.new.circuit.nodes (front_then c.args.circuit.now.nodes c.and.new.circuit.nodes c.or.new.circuit.nodes (front_then c.args.circuit.now.nodes c.done.new.circuit.nodes c.and.new.circuit.nodes c.in_ok-second_done.ensures.there.front c.and.ensures.kept.front) c.or.ensures.kept.front) c.or.ensures.there

pub returns-clause-made : goal.returns-clause-made
returns-clause-made c =
    broken_step c.or.result c.args.circuit.now.nodes _ _ _ c.args.first.now c.args.second.now c.in_ok-second_done.second_done c.in_ok-odd.odd c.not.result c.in_ok-second_done.ensures.made c.not.ensures c.in_ok-odd.ensures.made c.or.ensures.made
