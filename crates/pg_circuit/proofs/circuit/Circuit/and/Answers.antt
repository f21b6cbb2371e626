-- The gate that stands for the And, or its node.
use Rattle.std.proofs.Common.{length, sym, ◌∙◌}
use Rattle.pg_circuit.specs.Made.{and_made, and_simplified}
use Rattle.pg_circuit.proofs.MadeLemmas.{and_next, and_simplified-there, some_there}
use Rattle.pg_circuit.proofs.circuit.Circuit.and.Goals as goal

pub gate_of-requires-clause-there : goal.gate_of-requires-clause-there
gate_of-requires-clause-there c =
    let old = c.args.self.now in
    some_there (and_simplified c.args.x c.args.y) c.and_simplified.result (length old.nodes) c.and_simplified.ensures
    (λ g e. and_simplified-there (length old.nodes) old.circuit.begun c.args.x c.args.y g c.requires.left c.requires.right e)

pub gate_of-requires-clause-next : goal.gate_of-requires-clause-next
gate_of-requires-clause-next c =
    λ none. and_next c.args.self.now.nodes c.args.self.now.circuit c.args.x c.args.y c.requires.left c.requires.right (sym c.and_simplified.ensures ∙ none)

pub returns-clause-made : goal.returns-clause-made
unfolding and_made
returns-clause-made c = rw (sym c.and_simplified.ensures) c.gate_of.ensures.made

pub returns-clause-found : goal.returns-clause-found
unfolding and_made
returns-clause-found c = rw (sym c.and_simplified.ensures) c.gate_of.ensures.found
