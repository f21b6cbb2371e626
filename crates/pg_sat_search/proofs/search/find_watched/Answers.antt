use Rattle.std.proofs.Common.{rules}
use Rattle.pg_sat_search.proofs.ForgettingLemmas.{begun}
use Rattle.pg_sat_search.proofs.search.find_watched.Goals as goal

pub turns-requires-clause-forgetting : goal.turns-requires-clause-forgetting
turns-requires-clause-forgetting g c =
    let cnf = c.args.cnf.now in
    let held = c.in_ok-held.held in
    begun cnf.clauses cnf.variables held.watches held.numbers.items c.new-steps.result.items cnf.few_variables cnf.are_clauses (c.in_ok-held.ensures.held c.new-steps.result.items)
    c.in_ok-held.ensures.variables c.in_ok-held.ensures.reasons (search rules)

pub returns : goal.returns
returns g c = c.found_of.ensures c.args.cnf.now.clauses c.args.cnf.now.variables c.args.budget c.in_ok-ended.ensures
