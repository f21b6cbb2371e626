use Rattle.pg_ask.proofs.CodeSteps.{either_step, leaves_gate}
use Rattle.pg_ask.proofs.EndsLaws.{either-is}
use Rattle.pg_vec.proofs.Kept.{front_then, there_later}
use Rattle.pg_ask.proofs.ThereLaws.{bits_on, unknowns_on, end_on}
use Rattle.pg_ask.proofs.ends.either.Goals as goal

pub done-requires-clause-mem_trap : goal.done-requires-clause-mem_trap
done-requires-clause-mem_trap c = c.requires.first.mem_trap

pub done-requires-clause-trap : goal.done-requires-clause-trap
done-requires-clause-trap c = c.requires.first.trap

pub done-requires-2-clause-mem_trap : goal.done-requires-2-clause-mem_trap
done-requires-2-clause-mem_trap c = there_later c.args.circuit.now.nodes c.done.new.circuit.nodes c.args.second.now.mem_trap c.in_ok-first_done.ensures.there.front c.requires.second.mem_trap

pub done-requires-2-clause-trap : goal.done-requires-2-clause-trap
done-requires-2-clause-trap c = there_later c.args.circuit.now.nodes c.done.new.circuit.nodes c.args.second.now.trap c.in_ok-first_done.ensures.there.front c.requires.second.trap

pub seen_apart-requires-clause-unknowns : goal.seen_apart-requires-clause-unknowns
seen_apart-requires-clause-unknowns c = unknowns_on c.args.circuit.now.nodes c.done-2.new.circuit.nodes _ c.args.u.now (front_then c.args.circuit.now.nodes c.done.new.circuit.nodes c.done-2.new.circuit.nodes c.in_ok-first_done.ensures.there.front c.in_ok-second_done.ensures.there.front) c.requires.unknowns

pub seen_apart-requires-clause-usable : goal.seen_apart-requires-clause-usable
seen_apart-requires-clause-usable c = bits_on c.args.circuit.now.nodes c.done-2.new.circuit.nodes _ c.args.v.now (front_then c.args.circuit.now.nodes c.done.new.circuit.nodes c.done-2.new.circuit.nodes c.in_ok-first_done.ensures.there.front c.in_ok-second_done.ensures.there.front) c.requires.usable

pub seen_apart-requires-clause-first : goal.seen_apart-requires-clause-first
seen_apart-requires-clause-first c = end_on c.args.circuit.now.nodes c.done-2.new.circuit.nodes _ _ c.args.first.now (front_then c.args.circuit.now.nodes c.done.new.circuit.nodes c.done-2.new.circuit.nodes c.in_ok-first_done.ensures.there.front c.in_ok-second_done.ensures.there.front) c.requires.first

pub seen_apart-requires-clause-second : goal.seen_apart-requires-clause-second
seen_apart-requires-clause-second c = end_on c.args.circuit.now.nodes c.done-2.new.circuit.nodes _ _ c.args.second.now (front_then c.args.circuit.now.nodes c.done.new.circuit.nodes c.done-2.new.circuit.nodes c.in_ok-first_done.ensures.there.front c.in_ok-second_done.ensures.there.front) c.requires.second

pub xor-requires-clause-left : goal.xor-requires-clause-left
xor-requires-clause-left c = there_later c.done.new.circuit.nodes c.seen_apart.new.circuit.nodes c.in_ok-first_done.first_done (front_then c.done.new.circuit.nodes c.done-2.new.circuit.nodes c.seen_apart.new.circuit.nodes c.in_ok-second_done.ensures.there.front c.in_ok-apart.ensures.there.front) c.in_ok-first_done.ensures.there.there

pub xor-requires-clause-right : goal.xor-requires-clause-right
xor-requires-clause-right c = there_later c.done-2.new.circuit.nodes c.seen_apart.new.circuit.nodes c.in_ok-second_done.second_done c.in_ok-apart.ensures.there.front c.in_ok-second_done.ensures.there.there

pub and-requires-clause-left : goal.and-requires-clause-left
and-requires-clause-left c = there_later c.done.new.circuit.nodes c.xor.new.circuit.nodes c.in_ok-first_done.first_done (front_then c.done.new.circuit.nodes c.seen_apart.new.circuit.nodes c.xor.new.circuit.nodes (front_then c.done.new.circuit.nodes c.done-2.new.circuit.nodes c.seen_apart.new.circuit.nodes c.in_ok-second_done.ensures.there.front c.in_ok-apart.ensures.there.front) c.xor.ensures.kept.front) c.in_ok-first_done.ensures.there.there

pub and-requires-clause-right : goal.and-requires-clause-right
and-requires-clause-right c = there_later c.done-2.new.circuit.nodes c.xor.new.circuit.nodes c.in_ok-second_done.second_done (front_then c.done-2.new.circuit.nodes c.seen_apart.new.circuit.nodes c.xor.new.circuit.nodes c.in_ok-apart.ensures.there.front c.xor.ensures.kept.front) c.in_ok-second_done.ensures.there.there

pub and-requires-2-clause-left : goal.and-requires-2-clause-left
and-requires-2-clause-left c = c.in_ok-two.ensures.there

pub and-requires-2-clause-right : goal.and-requires-2-clause-right
and-requires-2-clause-right c = there_later c.seen_apart.new.circuit.nodes c.and.new.circuit.nodes c.in_ok-apart.apart (front_then c.seen_apart.new.circuit.nodes c.xor.new.circuit.nodes c.and.new.circuit.nodes c.xor.ensures.kept.front c.and.ensures.kept.front) c.in_ok-apart.ensures.there.there

pub or-requires-clause-left : goal.or-requires-clause-left
or-requires-clause-left c = there_later c.xor.new.circuit.nodes c.and-2.new.circuit.nodes c.in_ok-one.one (front_then c.xor.new.circuit.nodes c.and.new.circuit.nodes c.and-2.new.circuit.nodes c.and.ensures.kept.front c.and-2.ensures.kept.front) c.in_ok-one.ensures.there

pub or-requires-clause-right : goal.or-requires-clause-right
or-requires-clause-right c = c.in_ok-differ.ensures.there

pub returns-clause-made : goal.returns-clause-made
returns-clause-made c =
    either_step c.or.result c.args.circuit.now.nodes _ _ _ _ _ _ _ c.args.u.now c.args.v.now c.args.first.now c.args.second.now c.in_ok-first_done.first_done c.in_ok-second_done.second_done c.in_ok-apart.apart c.in_ok-one.one c.in_ok-two.two c.in_ok-differ.differ
    c.in_ok-first_done.ensures.made c.in_ok-second_done.ensures.made c.in_ok-apart.ensures.made c.in_ok-one.ensures.made c.in_ok-two.ensures.made c.in_ok-differ.ensures.made c.or.ensures.made

pub returns-clause-there : goal.returns-clause-there
returns-clause-there c =
    leaves_gate c.or.result c.args.circuit.now.nodes _ _ _ (either-is c.args.circuit.now.nodes _ _ c.args.u.now c.args.v.now c.args.first.now c.args.second.now c.args.circuit.now.circuit c.requires.unknowns c.requires.usable c.requires.first c.requires.second) (returns-clause-made c)
