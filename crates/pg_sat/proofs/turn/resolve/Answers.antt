use Rattle.std.proofs.Common.{rules}
use Rattle.pg_sat.proofs.TurnLemmas.{exhausted_by}
use Rattle.pg_sat.proofs.turn.resolve.Goals as goal

pub returns-then-is_spent : goal.returns-then-is_spent
returns-then-is_spent c =
    exhausted_by c.args.cnf.now.clauses c.args.cnf.now.variables c.args.budget c.args.watches.now c.args.steps.now.items c.in-Some.last
    c.requires.solving c.trail-trail.ensures.right c.in-Some.ensures (search rules)
