use Rattle.std.proofs.Common.{◌≡◌, ◌++◌, [], length, ap, subst, sym, arith}
use Rattle.pg_sat_search.specs.Held.{IsHeld, first_numbers}
use Rattle.pg_sat_search.proofs.HeldLemmas.{begun_with, kept_as_many}
use Rattle.pg_sat_search.proofs.rebuild.kept_of.Goals as goal

pub loop-place-init : goal.loop-place-init
loop-place-init c =
    let cnf = c.args.cnf.now in
    let no_clause : c.new.result.clauses ≡ [] = c.new.ensures.clauses in
    let no_number : c.new-2.result.items ≡ [] = c.new-2.ensures.items in
    record {
      held = subst (λ x. x) (λ i. IsHeld cnf.clauses cnf.variables c.args.steps.now (cnf.clauses ++ sym no_clause i) (first_numbers (length cnf.clauses) ++ sym no_number i))
          (begun_with cnf.clauses cnf.variables c.args.steps.now cnf.are_clauses);
      variables = c.new.ensures.variables;
      few = omega (arith, c.len-first.ensures, ap length no_clause);
    }

pub returns-clause-as_many : goal.returns-clause-as_many
returns-clause-as_many c =
    let cnf = c.args.cnf.now in
    kept_as_many cnf.clauses cnf.variables c.args.steps.now c.loop-place.made.clauses.clauses c.loop-place.made.numbers.items c.loop-place.invariant.held
