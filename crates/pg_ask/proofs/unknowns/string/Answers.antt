use Rattle.std.proofs.Common.{◌∙◌, List, subst, sym, ap}
use Rattle.pg_circuit.specs.declared.node.Gate.{Gate}
use Rattle.pg_word.specs.Bits.{IsWidth}
use Rattle.pg_ask.proofs.CodeSteps.{string_width, string_there}
use Rattle.pg_ask.proofs.unknowns.string.Goals as goal

pub from_vec-requires : goal.from_vec-requires
from_vec-requires c = subst IsWidth (sym (string_width c.args.circuit.now.nodes c.inputs.new.circuit.nodes c.args.width c.in_ok-gates.gates.items c.in_ok-gates.ensures.made)) c.requires

pub returns-clause-there : goal.returns-clause-there
returns-clause-there c =
    string_there c.args.circuit.now.nodes c.inputs.new.circuit.nodes c.args.width c.from_vec.result c.args.circuit.now.circuit c.requires (ap (λ (g : List Gate). (g, c.inputs.new.circuit.nodes)) c.from_vec.ensures ∙ c.in_ok-gates.ensures.made)
