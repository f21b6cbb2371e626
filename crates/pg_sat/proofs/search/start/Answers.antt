use Rattle.std.proofs.Common.{◌∙◌, []}
use Rattle.pg_watch.specs.Trail.{Extends}
use Rattle.pg_sat.specs.Solving.{IsSolving}
use Rattle.pg_sat.proofs.SolvingLemmas.{started, if_done}
use Rattle.pg_sat.proofs.search.start.Goals as goal

pub returns-clause-solving : goal.returns-clause-solving
returns-clause-solving c =
    let cnf = c.args.cnf.now in
    let old = c.args.watches.now in
    let new = c.settle.new.self in
    if_done c.settle.result (Extends old.trail new.trail) (IsSolving cnf.clauses cnf.variables new.clauses new.trail []) c.settle.ensures.trail
    (λ e. started cnf.clauses cnf.variables new.clauses old.trail new.trail cnf.few_variables cnf.are_clauses (c.settle.ensures.clauses ∙ c.requires.clauses)
    c.requires.variables c.requires.reasons e)
