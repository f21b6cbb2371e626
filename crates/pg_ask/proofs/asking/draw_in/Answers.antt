use Rattle.std.proofs.Common.{length, sym, ap, subst}
use Rattle.pg_word.specs.declared.shape.Shape.{Shape}
use Rattle.pg_word.specs.Bits.{IsWidth}
use Rattle.pg_lang_valid.proofs.ValidFacts.{IsWidth-address}
use Rattle.pg_ask.proofs.AskSteps.{unknowns_width, unknowns_as_due}
use Rattle.pg_ask.proofs.asking.draw_in.Goals as goal

pub unknowns_of-requires : goal.unknowns_of-requires
unknowns_of-requires c =
    subst IsWidth (sym (ap (λ (s : Shape). s.a) c.shape.ensures.numbers))
    (IsWidth-address c.args.machine.now.desc c.args.machine.now.valid)

pub show-requires-clause-instr : goal.show-requires-clause-instr
show-requires-clause-instr c = c.requires.instr

pub show-requires-clause-view : goal.show-requires-clause-view
show-requires-clause-view c = c.requires.view

pub show-requires-clause-over : goal.show-requires-clause-over
show-requires-clause-over c = c.requires.over c.unknowns_of.new.circuit.nodes

pub show-requires-clause-unknowns : goal.show-requires-clause-unknowns
show-requires-clause-unknowns c =
    unknowns_width (length c.unknowns_of.new.circuit.nodes) _ c.args.machine.now.desc.address c.in_ok-unknowns.unknowns
    (ap (λ (s : Shape). s.a) c.shape.ensures.numbers) c.in_ok-unknowns.ensures.there

pub show-requires-clause-begun : goal.show-requires-clause-begun
show-requires-clause-begun c =
    unknowns_as_due c.args.kind _ c.args.machine.now.desc.address _ _ _ _
    (ap (λ (s : Shape). s.a) c.shape.ensures.numbers)
    c.requires.nodes c.in_ok-unknowns.ensures.made

pub returns-clause-made : goal.returns-clause-made
returns-clause-made c = c.in_ok-pair.ensures.made

pub returns-clause-variables : goal.returns-clause-variables
returns-clause-variables c = c.in_ok-pair.ensures.variables
