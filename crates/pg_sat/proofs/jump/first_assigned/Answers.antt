use Rattle.std.proofs.Common.{Some, None, [], ap, sym, ◌∙◌, arith}
use Rattle.std.proofs.lemmas.Option.{slice_get-get_or}
use Rattle.pg_watch.proofs.Steps.{length-reasons}
use Rattle.pg_watch.proofs.WatchedLemmas.{assigned-within}
use Rattle.pg_sat.proofs.JumpLemmas.{all_later}
use Rattle.pg_sat.proofs.jump.first_assigned.Goals as goal

pub reason-requires : goal.reason-requires
reason-requires c =
    omega (arith, c.loop-place-test.true, assigned-within c.args.watches.now.clauses c.args.watches.now.trail c.args.last c.trail-trail.ensures.right c.requires.assigned)

pub loop-place-preserved : goal.loop-place-preserved
loop-place-preserved c =
    let t = c.args.watches.now.trail in
    let long = length-reasons c.args.watches.now.clauses [] t.literals t.reasons c.trail-trail.ensures.right.reasoned in
    let lt = assigned-within c.args.watches.now.clauses t c.args.last c.trail-trail.ensures.right c.requires.assigned in
    all_later t c.loop-place.place _ (omega (arith, long, lt, c.loop-place-test.true)) (sym c.in-Some.ensures) c.loop-place.invariant

pub returns-in-None-clause-assigned : goal.returns-in-None-clause-assigned
returns-in-None-clause-assigned c =
    let t = c.args.watches.now.trail in
    let long = length-reasons c.args.watches.now.clauses [] t.literals t.reasons c.trail-trail.ensures.right.reasoned in
    let lt = assigned-within c.args.watches.now.clauses t c.args.last c.trail-trail.ensures.right c.requires.assigned in
    slice_get-get_or t.reasons c.loop-place.place None (omega (arith, long, lt, c.loop-place-test.true)) ∙ ap Some (sym c.in-None.ensures)
