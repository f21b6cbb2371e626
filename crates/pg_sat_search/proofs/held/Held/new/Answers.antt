use Rattle.std.proofs.Common.{◌∙◌, ap}
use Rattle.pg_sat_search.specs.Held.{first_numbers}
use Rattle.pg_sat_search.proofs.HeldLemmas.{begun_held}
use Rattle.pg_sat_search.proofs.held.Held.new.Goals as goal

pub returns-clause-held : goal.returns-clause-held
returns-clause-held c = λ steps.
    begun_held c.args.cnf.now.clauses c.args.cnf.now.variables steps c.in_ok-watches.watches.clauses c.in_ok-numbers.numbers.items c.args.cnf.now.are_clauses
    c.in_ok-watches.ensures.clauses (c.in_ok-numbers.ensures ∙ ap first_numbers c.len.ensures)
