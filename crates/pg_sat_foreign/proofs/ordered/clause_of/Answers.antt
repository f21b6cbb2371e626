use Rattle.std.proofs.Common.{List, ℤ, sym, subst, ◌∙◌}
use Rattle.pg_cnf.specs.Literals.{IsClause}
use Rattle.pg_sat_foreign.proofs.OrderLemmas.{ascending_most}
use Rattle.pg_sat_foreign.proofs.ordered.clause_of.Goals as goal

pub new-requires : goal.new-requires
new-requires c =
    subst (λ (zs : List ℤ). IsClause 2147483647 zs) (sym c.in_ok-from_slice.ensures.ok)
    (ascending_most c.args.variables c.args.literals.now c.requires.few (sym c.are_ascending.ensures ∙ c.if-are_ascending.true))
