use Rattle.std.proofs.Common.{SFits, w32, None}
use Rattle.std.proofs.lemmas.Int.{to_z-of_z}
use Rattle.pg_watch.specs.Trail.{Extends, pushed}
use Rattle.pg_sat.proofs.SolvingLemmas.{if_done}
use Rattle.pg_sat_search.specs.Held.{IsForgetting}
use Rattle.pg_sat_search.proofs.ForgettingLemmas.{advanced}
use Rattle.pg_sat_search.proofs.turn.advance.Goals as goal

pub returns-clause-forgetting : goal.returns-clause-forgetting
returns-clause-forgetting c =
    let cnf = c.args.cnf.now in
    let old = c.args.held.now in
    let new = c.assign.new.self in
    let fits : SFits w32 c.args.literal = c.ranges.literal in
    let grown = simp to_z-of_z at c.assign.ensures.trail in
    if_done c.assign.result (Extends (pushed old.watches.trail c.args.literal None) new.trail)
    (IsForgetting cnf.clauses cnf.variables new old.numbers.items c.args.steps.now) grown
    (λ e. advanced cnf.clauses cnf.variables old.watches new old.numbers.items c.args.steps.now c.args.literal c.requires.forgetting c.trail-trail.ensures.right
    c.requires.nothing_left c.requires.free c.assign.ensures.clauses e)
