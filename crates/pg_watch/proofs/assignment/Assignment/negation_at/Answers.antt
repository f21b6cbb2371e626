use Rattle.std.proofs.Common.{SFits, w32, rules, arith, sym, ap, subst, length, ◌<◌, []}
use Rattle.std.proofs.lemmas.Int.{to_z-of_z}
use Rattle.pg_cnf.specs.Literals.{IsLiteral}
use Rattle.pg_watch.specs.Trail.{Trail}
use Rattle.pg_watch.proofs.RunLemmas.{literal_after}
use Rattle.pg_watch.proofs.assignment.Assignment.negation_at.Goals as goal

pub negation-requires : goal.negation-requires
negation-requires c =
    let fits : SFits w32 c.index-lit.result.now = search rules in
    let n = c.self.inside.variables in let zs = c.self.inside.literals.items in
    let lt : c.args.place < length zs = omega (arith, ap (λ (t : Trail). length t.literals) c.self.view_is, c.requires) in
    let own = subst (IsLiteral n) (sym c.index-lit.ensures) (literal_after n [] zs c.args.place c.index-lit.result.now c.self.invariant.set lt) in
    simp to_z-of_z (own.0, omega (arith, own.1, c.self.invariant.few))
