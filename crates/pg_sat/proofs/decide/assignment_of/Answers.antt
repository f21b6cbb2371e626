use Rattle.std.proofs.Common.{◌≡◌, ℕ, arith, subst}
use Rattle.pg_sat.specs.Models.{IsRead}
use Rattle.pg_sat.proofs.ModelLemmas.{all_hold}
use Rattle.pg_sat.proofs.decide.assignment_of.Goals as goal

pub returns-clause-holds : goal.returns-clause-holds
returns-clause-holds c =
    let set = c.args.watches.now.trail.literals in
    let e : c.loop-index.index ≡ c.args.variables = omega (arith, c.loop-index-test.false) in
    all_hold c.args.variables set c.loop-index.assignment.items c.requires.set
    (subst (λ (n : ℕ). IsRead n set c.loop-index.assignment.items) e c.loop-index.invariant) c.args.watches.now.clauses c.requires.over.right c.requires.quiet
