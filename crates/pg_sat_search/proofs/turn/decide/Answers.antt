use Rattle.pg_sat_search.proofs.TurnLemmas.{advanced_on}
use Rattle.pg_sat_search.proofs.turn.decide.Goals as goal

pub returns-in_ok-fix-in-Some : goal.returns-in_ok-fix-in-Some
returns-in_ok-fix-in-Some c =
    let went = c.in_ok-fix-in-Some in
    let new = c.advance.new.held in
    advanced_on c.args.cnf.now.clauses c.args.cnf.now.variables c.args.budget c.args.held.now.watches new.watches new.numbers.items c.args.steps.now went.fix
    went.ensures.forgetting went.ensures.end went.ensures.quiet c.requires.few went.ensures.longer c.trail-trail.ensures.right
