use Rattle.pg_sat.proofs.LoneLemmas.{taught}
use Rattle.pg_sat.proofs.ThinLemmas.{thin_begun}
use Rattle.pg_sat.proofs.learn.learn_at.Goals as goal

pub shrink-requires-clause-thin : goal.shrink-requires-clause-thin
shrink-requires-clause-thin c =
    let lone = c.in_ok-lone.lone in
    thin_begun c.args.variables c.args.watches.now.clauses c.args.watches.now.trail c.requires.over c.trail-trail.ensures.right c.args.last lone.place lone.trace.flags
    lone.trace.hints.items c.in_ok-lone.ensures

pub returns : goal.returns
returns c =
    let lone = c.in_ok-lone.lone in
    taught c.args.variables c.args.watches.now.clauses c.args.watches.now.trail c.args.last lone.place lone.trace.flags lone.trace.hints.items c.requires.over
    c.trail-trail.ensures.right c.requires.quiet c.in_ok-lone.ensures c.shrink.new.trace.flags c.shrink.new.trace.hints.items c.in_ok-step.step c.in_ok-shrink.ensures.thin
    c.in_ok-shrink.ensures.fewer c.in_ok-step.ensures.lits c.in_ok-step.ensures.hints
