use Rattle.std.proofs.Common.{[], ◌∷◌, ◌++◌, ap, sym, ◌∙◌, arith, subst}
use Rattle.pg_circuit.specs.declared.node.Node.TheVariants.{Input}
use Rattle.pg_circuit.specs.Nodes.{has_node, input_count, IsCircuit}
use Rattle.pg_circuit.specs.Made.{input_made}
use Rattle.pg_circuit.proofs.CircuitLemmas.{input-new, input_count-le, input_count-append, IsCircuit-push}
use Rattle.pg_circuit.proofs.circuit.Circuit.input.Goals as goal

pub add-requires-clause-absent : goal.add-requires-clause-absent
add-requires-clause-absent c =
    ap (λ k. has_node c.args.self.now.nodes (Input k)) c.args.self.now.counted ∙ input-new _ c.args.self.now.circuit

pub overflow_add-self : goal.overflow_add-self
overflow_add-self c = omega (arith, c.args.self.now.counted, c.args.self.now.bound, input_count-le c.args.self.now.nodes)

pub invariant_of-self-2 : goal.invariant_of-self-2
invariant_of-self-2 c =
    let old = c.args.self.now in
    let after = c.in_ok-gate.ensures.nodes in
    record {
      circuit = subst IsCircuit (sym after) (IsCircuit-push old.nodes (Input old.inputs) old.circuit (old.circuit.begun, old.counted));
      counted = omega (arith, old.counted, ap input_count after, input_count-append old.nodes (Input old.inputs ∷ []));
      bound = c.add.ensures.bound;
    }

pub returns-clause-made : goal.returns-clause-made
unfolding input_made
returns-clause-made c =
    let gate = c.in_ok-gate.ensures.gate in
    let nodes = c.in_ok-gate.ensures.nodes ∙ ap (λ k. c.args.self.now.nodes ++ Input k ∷ []) c.args.self.now.counted in
    λ i. (gate i, nodes i)
