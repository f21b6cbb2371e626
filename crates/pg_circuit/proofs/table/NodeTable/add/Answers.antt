use Rattle.std.proofs.Common.{if◌then◌else◌, ap, ◌∙◌, ◌++◌, ◌∷◌, []}
use Rattle.pg_circuit.specs.Made.{with_node}
use Rattle.pg_circuit.proofs.EqLemmas.{has_node-by_eq}
use Rattle.pg_circuit.proofs.NodeLemmas.{with_node-absent}
use Rattle.pg_circuit.proofs.table.NodeTable.add.Goals as goal
use Rattle.pg_circuit.proofs.table.NodeTable.add.Goals.{in-Err, in-Ok}

pub returns-clause-nodes : goal.returns-clause-nodes
returns-clause-nodes c =
    let ks = c.self.inside.nodes.keys in
    elim c.match-insert_full.branch [
      | in-Err w ↦ rw w.result-is tt
      | in-Ok w ↦ rw w.result-is
          (w.in-Ok.ensures.keys ∙ ap (λ b. if b then ks else ks ++ c.args.node ∷ []) (has_node-by_eq ks c.args.node)
          ∙ ap (λ ns. with_node ns c.args.node) c.self.view_is ∙ with_node-absent c.args.self.now c.args.node c.requires.absent)
    ]
