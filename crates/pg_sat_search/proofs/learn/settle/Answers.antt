use Rattle.pg_watch.specs.Trail.{Extends}
use Rattle.pg_sat_search.specs.Held.{IsForgetting}
use Rattle.pg_sat.proofs.SolvingLemmas.{if_done}
use Rattle.pg_sat_search.proofs.ForgettingLemmas.{extended}
use Rattle.pg_sat_search.proofs.learn.settle.Goals as goal

pub returns-clause-forgetting : goal.returns-clause-forgetting
returns-clause-forgetting c =
    let cnf = c.args.cnf.now in
    let old = c.args.held.now in
    let new = c.settle.new.self in
    if_done c.settle.result (Extends old.watches.trail new.trail) (IsForgetting cnf.clauses cnf.variables new old.numbers.items c.args.steps.now) c.settle.ensures.trail
    (λ e. extended cnf.clauses cnf.variables old.watches new old.numbers.items c.args.steps.now c.requires.forgetting c.trail-trail.ensures.right
    c.settle.ensures.clauses e)
