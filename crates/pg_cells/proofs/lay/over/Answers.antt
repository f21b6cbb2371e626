use Rattle.std.proofs.Common.{◌≡◌, List, subst}
use Rattle.std.specs.Prelude.{IfOk}
use Rattle.pg_circuit.specs.declared.node.Gate.{Gate}
use Rattle.pg_circuit.specs.declared.node.Node.{Node}
use Rattle.pg_cells.proofs.LayLaws.{over_step}
use Rattle.pg_cells.proofs.lay.over.Goals as goal

pub returns-clause-made : goal.returns-clause-made
returns-clause-made c =
    subst (λ (k : List Gate × List Node). IfOk c.choose_string.result (λ bits. (bits.items, c.choose_string.new.circuit.nodes) ≡ k))
    (over_step c.args.circuit.now.nodes c.args.address.now c.args.write.now c.as_slice.result.now c.args.word.now c.in_ok-hit.hit c.hit.new.circuit.nodes c.as_slice.ensures.gates c.in_ok-hit.ensures.made)
    c.choose_string.ensures.made
