use Rattle.pg_ask.proofs.CodeSteps.{apart_step, leaves_gate}
use Rattle.pg_ask.proofs.EndsLaws.{apart-is}
use Rattle.pg_vec.proofs.Kept.{front_then, there_later, all_there_later}
use Rattle.pg_ask.proofs.ThereLaws.{bit_there}
use Rattle.pg_circuit.specs.Values.{IsThere}
use Rattle.pg_vec.specs.There.{AreThere}
use Rattle.std.proofs.Common.{subst, sym, ap, length, ◌∙◌}
use Rattle.pg_ask.proofs.ends.seen_apart.Goals as goal

pub same-requires-clause-left : goal.same-requires-clause-left
same-requires-clause-left c = subst (AreThere (length c.args.circuit.now.nodes)) (sym c.as_slice.ensures.gates) (c.requires.first.p.there)

pub same-requires-clause-right : goal.same-requires-clause-right
same-requires-clause-right c = subst (AreThere (length c.args.circuit.now.nodes)) (sym c.as_slice-2.ensures.gates) (c.requires.second.p.there)

pub same-requires-clause-same_width : goal.same-requires-clause-same_width
same-requires-clause-same_width c = ap length c.as_slice.ensures.gates ∙ c.requires.first.p.wide ∙ sym (ap length c.as_slice-2.ensures.gates ∙ c.requires.second.p.wide)

pub same-requires-2-clause-left : goal.same-requires-2-clause-left
same-requires-2-clause-left c = subst (AreThere (length c.same.new.circuit.nodes)) (sym c.as_slice-3.ensures.gates) (all_there_later c.args.circuit.now.nodes c.same.new.circuit.nodes c.args.first.now.word c.same.ensures.kept.front c.requires.first.word.there)

pub same-requires-2-clause-right : goal.same-requires-2-clause-right
same-requires-2-clause-right c = subst (AreThere (length c.same.new.circuit.nodes)) (sym c.as_slice-4.ensures.gates) (all_there_later c.args.circuit.now.nodes c.same.new.circuit.nodes c.args.second.now.word c.same.ensures.kept.front c.requires.second.word.there)

pub same-requires-2-clause-same_width : goal.same-requires-2-clause-same_width
same-requires-2-clause-same_width c = ap length c.as_slice-3.ensures.gates ∙ c.requires.first.word.wide ∙ sym (ap length c.as_slice-4.ensures.gates ∙ c.requires.second.word.wide)

pub lt-requires-clause-left : goal.lt-requires-clause-left
lt-requires-clause-left c = all_there_later c.args.circuit.now.nodes c.same-2.new.circuit.nodes c.args.u.now.compared (front_then c.args.circuit.now.nodes c.same.new.circuit.nodes c.same-2.new.circuit.nodes c.same.ensures.kept.front c.same-2.ensures.kept.front) c.requires.unknowns.compared.there

pub lt-requires-clause-right : goal.lt-requires-clause-right
lt-requires-clause-right c = all_there_later c.args.circuit.now.nodes c.same-2.new.circuit.nodes c.args.v.now (front_then c.args.circuit.now.nodes c.same.new.circuit.nodes c.same-2.new.circuit.nodes c.same.ensures.kept.front c.same-2.ensures.kept.front) c.requires.usable.there

pub lt-requires-clause-same_width : goal.lt-requires-clause-same_width
lt-requires-clause-same_width c = c.requires.unknowns.compared.wide

pub and-requires-clause-left : goal.and-requires-clause-left
and-requires-clause-left c = subst (IsThere (length c.lt.new.circuit.nodes)) (sym c.bit_0.ensures) (bit_there _ c.in_ok-inside.inside c.in_ok-inside.ensures.worth.there c.in_ok-inside.ensures.worth.wide)

pub and-requires-clause-right : goal.and-requires-clause-right
and-requires-clause-right c = subst (IsThere (length c.lt.new.circuit.nodes)) (sym c.not.ensures) (there_later c.same-2.new.circuit.nodes c.lt.new.circuit.nodes c.in_ok-same_word.same_word c.lt.ensures.kept.front c.in_ok-same_word.ensures.there)

pub or-requires-clause-right : goal.or-requires-clause-right
or-requires-clause-right c = c.in_ok-odd.ensures.there

pub returns-clause-made : goal.returns-clause-made
returns-clause-made c =
    apart_step c.or.result c.args.circuit.now.nodes _ _ _ _ _ c.args.u.now c.args.v.now c.args.first.now c.args.second.now c.in_ok-same_p.same_p c.in_ok-same_word.same_word c.in_ok-odd.odd c.not-2.result c.not.result c.bit_0.result c.in_ok-inside.inside
    c.as_slice.result.now c.as_slice-2.result.now c.as_slice-3.result.now c.as_slice-4.result.now c.as_slice.ensures.gates c.as_slice-2.ensures.gates c.in_ok-same_p.ensures.made c.as_slice-3.ensures.gates c.as_slice-4.ensures.gates c.in_ok-same_word.ensures.made
    c.in_ok-inside.ensures.made c.bit_0.ensures c.not.ensures c.in_ok-odd.ensures.made c.not-2.ensures c.or.ensures.made

pub returns-clause-there : goal.returns-clause-there
returns-clause-there c =
    leaves_gate c.or.result c.args.circuit.now.nodes _ _ _ (apart-is c.args.circuit.now.nodes _ _ c.args.u.now c.args.v.now c.args.first.now c.args.second.now c.args.circuit.now.circuit c.requires.unknowns c.requires.usable c.requires.first c.requires.second) (returns-clause-made c)
