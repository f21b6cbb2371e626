use Rattle.std.proofs.Common.{SFits, w32, None}
use Rattle.std.proofs.lemmas.Int.{to_z-of_z}
use Rattle.pg_watch.specs.Trail.{Extends, pushed}
use Rattle.pg_sat.specs.Solving.{IsSolving}
use Rattle.pg_sat.proofs.SolvingLemmas.{advanced, if_done}
use Rattle.pg_sat.proofs.search.advance.Goals as goal

pub returns-clause-solving : goal.returns-clause-solving
returns-clause-solving c =
    let cnf = c.args.cnf.now in
    let old = c.args.watches.now in
    let new = c.assign.new.self in
    let fits : SFits w32 c.args.literal = c.ranges.literal in
    let grown = simp to_z-of_z at c.assign.ensures.trail in
    if_done c.assign.result (Extends (pushed old.trail c.args.literal None) new.trail) (IsSolving cnf.clauses cnf.variables new.clauses new.trail c.args.steps.now) grown
    (λ e. advanced cnf.clauses cnf.variables old.clauses new.clauses old.trail new.trail c.args.literal c.args.steps.now c.requires.solving c.trail-trail.ensures.right
    c.requires.nothing_left c.requires.free c.assign.ensures.clauses e)
