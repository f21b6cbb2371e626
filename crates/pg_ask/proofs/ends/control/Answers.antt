use Rattle.pg_ask.proofs.CodeSteps.{control_step, leaves_gate, width_bits, own_bits}
use Rattle.pg_ask.proofs.EndsLaws.{control-is}
use Rattle.pg_vec.proofs.Kept.{front_then, there_later, all_there_later}
use Rattle.pg_ask.proofs.ThereLaws.{bits_on}
use Rattle.pg_circuit.specs.Values.{IsThere}
use Rattle.pg_vec.specs.There.{AreThere}
use Rattle.std.proofs.Common.{subst, sym, ap, length, ◌∙◌}
use Rattle.pg_ask.proofs.ends.control.Goals as goal

pub done-requires-clause-mem_trap : goal.done-requires-clause-mem_trap
done-requires-clause-mem_trap c = c.requires.first.mem_trap

pub done-requires-clause-trap : goal.done-requires-clause-trap
done-requires-clause-trap c = c.requires.first.trap

pub same-requires-clause-left : goal.same-requires-clause-left
same-requires-clause-left c = subst (AreThere (length c.done.new.circuit.nodes)) (sym c.as_slice.ensures.gates) (all_there_later c.args.circuit.now.nodes c.done.new.circuit.nodes c.args.first.now.mode c.in_ok-gate.ensures.there.front c.requires.first.mode.there)

pub same-requires-clause-right : goal.same-requires-clause-right
same-requires-clause-right c = subst (AreThere (length c.done.new.circuit.nodes)) (sym c.as_slice-2.ensures.gates) (all_there_later c.args.circuit.now.nodes c.done.new.circuit.nodes c.args.u.now.first_mode c.in_ok-gate.ensures.there.front c.requires.unknowns.first_mode.there)

pub same-requires-clause-same_width : goal.same-requires-clause-same_width
same-requires-clause-same_width c = ap length c.as_slice.ensures.gates ∙ c.requires.first.mode.wide ∙ sym (ap length c.as_slice-2.ensures.gates ∙ c.requires.unknowns.first_mode.wide)

pub alike-requires-clause-so_far : goal.alike-requires-clause-so_far
alike-requires-clause-so_far c = c.in_ok-mode.ensures.there

pub alike-requires-clause-x : goal.alike-requires-clause-x
alike-requires-clause-x c = width_bits _ _ _ _ (sym c.requires.unknowns.first_l.wide) (bits_on c.args.circuit.now.nodes c.same.new.circuit.nodes _ c.args.first.now.l (front_then c.args.circuit.now.nodes c.done.new.circuit.nodes c.same.new.circuit.nodes c.in_ok-gate.ensures.there.front c.same.ensures.kept.front) c.requires.first.l)

pub alike-requires-clause-y : goal.alike-requires-clause-y
alike-requires-clause-y c = own_bits _ _ _ (bits_on c.args.circuit.now.nodes c.same.new.circuit.nodes _ c.args.u.now.first_l (front_then c.args.circuit.now.nodes c.done.new.circuit.nodes c.same.new.circuit.nodes c.in_ok-gate.ensures.there.front c.same.ensures.kept.front) c.requires.unknowns.first_l)

pub alike-requires-2-clause-so_far : goal.alike-requires-2-clause-so_far
alike-requires-2-clause-so_far c = c.in_ok-l.ensures.there.there

pub alike-requires-2-clause-x : goal.alike-requires-2-clause-x
alike-requires-2-clause-x c = width_bits _ _ _ _ (sym c.requires.unknowns.first_b.wide) (bits_on c.args.circuit.now.nodes c.alike.new.circuit.nodes _ c.args.first.now.b (front_then c.args.circuit.now.nodes c.same.new.circuit.nodes c.alike.new.circuit.nodes (front_then c.args.circuit.now.nodes c.done.new.circuit.nodes c.same.new.circuit.nodes c.in_ok-gate.ensures.there.front c.same.ensures.kept.front) c.in_ok-l.ensures.there.front) c.requires.first.b)

pub alike-requires-2-clause-y : goal.alike-requires-2-clause-y
alike-requires-2-clause-y c = own_bits _ _ _ (bits_on c.args.circuit.now.nodes c.alike.new.circuit.nodes _ c.args.u.now.first_b (front_then c.args.circuit.now.nodes c.same.new.circuit.nodes c.alike.new.circuit.nodes (front_then c.args.circuit.now.nodes c.done.new.circuit.nodes c.same.new.circuit.nodes c.in_ok-gate.ensures.there.front c.same.ensures.kept.front) c.in_ok-l.ensures.there.front) c.requires.unknowns.first_b)

pub and-requires-clause-left : goal.and-requires-clause-left
and-requires-clause-left c = there_later c.done.new.circuit.nodes c.alike-2.new.circuit.nodes c.in_ok-gate.gate (front_then c.done.new.circuit.nodes c.alike.new.circuit.nodes c.alike-2.new.circuit.nodes (front_then c.done.new.circuit.nodes c.same.new.circuit.nodes c.alike.new.circuit.nodes c.same.ensures.kept.front c.in_ok-l.ensures.there.front) c.in_ok-b.ensures.there.front) c.in_ok-gate.ensures.there.there

pub and-requires-clause-right : goal.and-requires-clause-right
and-requires-clause-right c = subst (IsThere (length c.alike-2.new.circuit.nodes)) (sym c.not.ensures) (c.in_ok-b.ensures.there.there)

pub returns-clause-made : goal.returns-clause-made
returns-clause-made c =
    control_step c.and.result c.args.circuit.now.nodes _ _ _ _ _ c.args.u.now c.args.first.now c.in_ok-gate.gate c.in_ok-mode.mode c.in_ok-l.l c.in_ok-b.b c.not.result c.as_slice.result.now c.as_slice-2.result.now c.in_ok-gate.ensures.made c.as_slice.ensures.gates c.as_slice-2.ensures.gates
    c.in_ok-mode.ensures.made c.in_ok-l.ensures.made c.in_ok-b.ensures.made c.not.ensures c.and.ensures.made

pub returns-clause-there : goal.returns-clause-there
returns-clause-there c =
    leaves_gate c.and.result c.args.circuit.now.nodes _ _ _ (control-is c.args.circuit.now.nodes _ _ c.args.u.now c.args.first.now c.args.circuit.now.circuit c.requires.unknowns c.requires.first) (returns-clause-made c)
