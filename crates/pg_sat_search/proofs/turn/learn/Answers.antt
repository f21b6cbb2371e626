use Rattle.pg_sat_search.proofs.TurnLemmas.{learned_on}
use Rattle.pg_sat_search.proofs.turn.learn.Goals as goal

pub returns : goal.returns
returns c =
    let went = c.in_ok-fix in
    let new = c.back.new.held in
    learned_on c.args.cnf.now.clauses c.args.cnf.now.variables c.args.budget c.args.held.now.watches new.watches new.numbers.items
    c.args.steps.now.items c.back.new.steps.items went.fix went.ensures.forgetting went.ensures.end went.ensures.quiet went.ensures.steps c.requires.few
