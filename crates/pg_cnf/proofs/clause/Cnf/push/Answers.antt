use Rattle.std.proofs.Common.{arith}
use Rattle.pg_cnf.proofs.LiteralLemmas.{push-clauses}
use Rattle.pg_cnf.proofs.clause.Cnf.push.Goals as goal

pub invariant_of-self : goal.invariant_of-self
invariant_of-self c =
    let old = c.args.self.now in
    let pushed = push-clauses c.push.result old.variables old.clauses c.push.new.self c.args.clause old.are_clauses c.requires.clause c.push.ensures.ok c.push.ensures.err in
    record { few_variables = old.few_variables; few_clauses = omega (arith, pushed.few, c.requires.room); are_clauses = pushed.clauses }
