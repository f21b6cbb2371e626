-- The gate that stands for the Xor, or its node.
use Rattle.std.proofs.Common.{length, sym, ◌∙◌}
use Rattle.pg_circuit.specs.Made.{xor_made, xor_simplified}
use Rattle.pg_circuit.proofs.MadeLemmas.{xor_next, xor_simplified-there, some_there}
use Rattle.pg_circuit.proofs.circuit.Circuit.xor.Goals as goal

pub gate_of-requires-clause-there : goal.gate_of-requires-clause-there
gate_of-requires-clause-there c =
    let old = c.args.self.now in
    some_there (xor_simplified c.args.x c.args.y) c.xor_simplified.result (length old.nodes) c.xor_simplified.ensures
    (λ g e. xor_simplified-there (length old.nodes) old.circuit.begun c.args.x c.args.y g c.requires.left c.requires.right e)

pub gate_of-requires-clause-next : goal.gate_of-requires-clause-next
gate_of-requires-clause-next c =
    λ none. xor_next c.args.self.now.nodes c.args.self.now.circuit c.args.x c.args.y c.requires.left c.requires.right (sym c.xor_simplified.ensures ∙ none)

pub returns-clause-made : goal.returns-clause-made
unfolding xor_made
returns-clause-made c = rw (sym c.xor_simplified.ensures) c.gate_of.ensures.made

pub returns-clause-found : goal.returns-clause-found
unfolding xor_made
returns-clause-found c = rw (sym c.xor_simplified.ensures) c.gate_of.ensures.found
