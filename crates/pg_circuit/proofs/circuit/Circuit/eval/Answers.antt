use Rattle.std.proofs.Common.{ap, sym, ◌∙◌, length, arith, length-take}
use Rattle.pg_circuit.specs.Nodes.{input_count}
use Rattle.pg_circuit.proofs.ValueLemmas.{known_at}
use Rattle.pg_circuit.proofs.circuit.Circuit.eval.Goals as goal

pub node_value-value-requires : goal.node_value-value-requires
node_value-value-requires c =
    let same = c.as_slice-node-items.ensures in
    known_at c.as_slice-node-items.result.now c.loop-k.k _ _ c.loop-k-test.true c.loop-k.invariant.in_order
    (c.requires.inputs ∙ ap input_count (sym same))
    (omega (arith, length-take c.loop-k.k c.loop-k.values, ap length same, c.loop-k.auto.values, c.requires.room))
