use Rattle.std.proofs.Common.{refl}
use Rattle.pg_vec.proofs.Kept.{front_then}
use Rattle.pg_ask.specs.Unknowns.{first_regs, second_regs}
use Rattle.pg_ask.proofs.ThereLaws.{bits_on, unknowns_on, end_on}
use Rattle.pg_ask.proofs.RunSteps.{both_step}
use Rattle.pg_ask.proofs.ends.both.Goals as goal

pub second_end-requires-clause-unknowns : goal.second_end-requires-clause-unknowns
second_end-requires-clause-unknowns c = unknowns_on c.args.circuit.now.nodes c.first_end.new.circuit.nodes _ c.args.u.now c.in_ok-first.ensures.kept c.requires.unknowns

pub second_end-requires-clause-usable : goal.second_end-requires-clause-usable
second_end-requires-clause-usable c = bits_on c.args.circuit.now.nodes c.first_end.new.circuit.nodes _ c.args.v.now c.in_ok-first.ensures.kept c.requires.usable

pub returns-clause-made : goal.returns-clause-made
returns-clause-made c = λ i here.
    both_step c.args.m.now.desc i c.args.u.now c.args.v.now c.args.circuit.now.nodes c.first_end.new.circuit.nodes c.second_end.new.circuit.nodes c.args.touched.now.cells c.first_end.new.touched.cells c.second_end.new.touched.cells
    (first_regs c.args.u.now c.args.v.now) (second_regs c.args.u.now c.args.v.now) c.in_ok-first.first c.in_ok-second.second
    refl refl (c.in_ok-first.ensures.made i here) (c.in_ok-second.ensures.made i here)

pub returns-clause-there : goal.returns-clause-there
returns-clause-there c = record {
  first = end_on c.first_end.new.circuit.nodes c.second_end.new.circuit.nodes _ _ c.in_ok-first.first c.in_ok-second.ensures.kept c.in_ok-first.ensures.there;
  second = c.in_ok-second.ensures.there;
}

pub returns-clause-kept : goal.returns-clause-kept
returns-clause-kept c = front_then c.args.circuit.now.nodes c.first_end.new.circuit.nodes c.second_end.new.circuit.nodes c.in_ok-first.ensures.kept c.in_ok-second.ensures.kept
