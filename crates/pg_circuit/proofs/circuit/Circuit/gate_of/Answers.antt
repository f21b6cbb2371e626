-- The gate that stands for the node, or the node looked up.
use Rattle.std.proofs.Common.{[], ap, sym, ◌∙◌}
use Rattle.pg_circuit.specs.Made.{made}
use Rattle.pg_circuit.proofs.CircuitLemmas.{placed-kept, has_of_same}
use Rattle.pg_circuit.proofs.MadeLemmas.{node_made-there, made-there, made-kept}
use Rattle.pg_circuit.specs.Made.{node_made}
use Rattle.pg_circuit.proofs.circuit.Circuit.gate_of.Goals as goal

pub invariant_of-self : goal.invariant_of-self
invariant_of-self c =
    let old = c.args.self.now in
    let kept = placed-kept c.place.result old.nodes c.place.new.self c.args.node old.circuit
    (c.requires.next c.in-None.is) c.requires.no_input c.place.ensures.made c.place.ensures.err in
    record { circuit = kept.circuit; counted = old.counted ∙ sym kept.inputs; bound = c.place.ensures.bound }

pub returns-in-None-clause-found : goal.returns-in-None-clause-found
returns-in-None-clause-found c =
    λ same. c.place.ensures.found (has_of_same c.args.self.now.nodes c.args.node (ap (λ o. (made c.args.self.now.nodes o c.args.node).1) (sym c.in-None.is) ∙ same))

pub returns-in-None-clause-there : goal.returns-in-None-clause-there
returns-in-None-clause-there c =
    let old = c.args.self.now in
    made-there c.place.result old.nodes c.place.new.self (node_made old.nodes c.args.node)
    (node_made-there [] old.nodes c.args.node old.circuit (c.requires.next c.in-None.is) c.requires.no_input) c.place.ensures.made

pub returns-in-None-clause-kept : goal.returns-in-None-clause-kept
returns-in-None-clause-kept c =
    let old = c.args.self.now in
    made-kept c.place.result old.nodes c.place.new.self (node_made old.nodes c.args.node)
    (node_made-there [] old.nodes c.args.node old.circuit (c.requires.next c.in-None.is) c.requires.no_input) c.place.ensures.made c.place.ensures.err
