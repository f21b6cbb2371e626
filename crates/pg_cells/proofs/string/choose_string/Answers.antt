-- One more bit, and at the end all of them.
use Rattle.std.proofs.Common.{◌≡◌, ◌∙◌, sym, refl, List, arith}
use Rattle.pg_circuit.specs.declared.node.Gate.{Gate}
use Rattle.pg_circuit.specs.declared.node.Node.{Node}
use Rattle.pg_vec.specs.Gates.{choice_made}
use Rattle.pg_vec.specs.Strings.{each_made, mux_made}
use Rattle.pg_vec.proofs.Loops.{built_next, built_all, each_none, each_next}
use Rattle.pg_cells.proofs.string.choose_string.Goals as goal

mux_is : (nodes : List Node) (choice : Gate) (xs ys : List Gate) → mux_made nodes choice xs ys ≡ each_made (choice_made choice) nodes xs ys
unfolding mux_made
mux_is nodes choice xs ys = refl

pub loop-i-preserved : goal.loop-i-preserved
loop-i-preserved c =
    let next = built_next _ _ 3 _ _ _ _ c.in_ok-bit.bit _ _ c.loop-i.invariant c.choose.ensures.kept c.in_ok-bit.ensures.there
    (each_next (choice_made c.args.choice) _ c.args.x.now c.args.y.now c.loop-i.i c.in_ok-bit.bit _ (omega arith) (omega arith) c.in_ok-bit.ensures.made) in
    rw c.in_ok-push.ensures.items next

pub returns-clause-made : goal.returns-clause-made
returns-clause-made c =
    built_all _ _ 3 _ _ _ _ c.loop-i.invariant (each_none (choice_made c.args.choice) c.loop-i.circuit.nodes c.args.x.now c.args.y.now c.loop-i.i (omega arith))
    ∙ sym (mux_is c.args.circuit.now.nodes c.args.choice c.args.x.now c.args.y.now)
