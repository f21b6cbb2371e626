use Rattle.std.proofs.Common.{◌≡◌, false, ap, sym, ◌∙◌}
use Rattle.pg_circuit.specs.Nodes.{has_node}
use Rattle.pg_circuit.proofs.EqLemmas.{has_node-by_eq}
use Rattle.pg_circuit.proofs.CircuitLemmas.{added-made}
use Rattle.pg_circuit.proofs.table.NodeTable.place.Goals as goal

pub returns-in-None-clause-made : goal.returns-in-None-clause-made
returns-in-None-clause-made c =
    let absent : has_node c.args.self.now c.args.node ≡ false =
    ap (λ ns. has_node ns c.args.node) (sym c.self.view_is) ∙ sym (has_node-by_eq c.self.inside.nodes.keys c.args.node) ∙ sym c.in-None.ensures.found in
    added-made _ _ _ _ absent c.add.ensures.gate c.add.ensures.nodes
