-- One more write, and at the end all of them.
use Rattle.std.proofs.Common.{◌≡◌, length, ap, ◌∙◌, subst, arith}
use Rattle.pg_vec.specs.AddsNodes.{AddsNodes}
use Rattle.pg_vec.proofs.Loops.{staged_next, staged_all}
use Rattle.pg_cells.specs.Means.{each_write}
use Rattle.pg_cells.proofs.LayLaws.{laid_none, laid_next, over_write}
use Rattle.pg_cells.proofs.lay.lay.Goals as goal

pub loop-write-preserved : goal.loop-write-preserved
loop-write-preserved c =
    let word = c.args.word.now in
    let address = c.args.address.now in
    let so_far = c.loop-write.so_far.items in
    let nodes = c.loop-write.circuit.nodes in
    let new = c.over.new.circuit.nodes in
    let wide : length c.as_slice.result.now ≡ length word = ap length c.as_slice.ensures.value ∙ c.loop-write.invariant.wide in
    let kept = subst (λ n. AddsNodes nodes new (each_write n (length address))) wide c.over.ensures.kept in
    staged_next _ _ _ _ _ _ _ _ c.in_ok-so_far-2.so_far.items _ _ c.loop-write.invariant kept c.in_ok-so_far-2.ensures.there (c.in_ok-so_far-2.ensures.width ∙ wide)
    (laid_next nodes address c.args.writes.now so_far c.loop-write.write-index c.write-item.result c.in_ok-so_far-2.so_far.items new (omega arith) c.write-item.is
    (over_write nodes new address c.write-item.result c.as_slice.result.now so_far _ c.as_slice.ensures.value c.in_ok-so_far-2.ensures.made))

pub returns-clause-made : goal.returns-clause-made
returns-clause-made c =
    staged_all _ _ _ _ _ _ _ _ c.loop-write.invariant (laid_none c.loop-write.circuit.nodes c.args.address.now c.args.writes.now c.loop-write.so_far.items c.loop-write.write-index (omega arith))
