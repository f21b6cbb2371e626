use Rattle.std.proofs.Common.{SFits, w32, rules, sym, subst, ℤ, List}
use Rattle.std.proofs.lemmas.Int.{to_z-of_z}
use Rattle.pg_cnf.specs.Literals.{IsClause}
use Rattle.pg_watch.specs.Trail.{Trail, IsUnit}
use Rattle.pg_watch.specs.Fixes.{Steps}
use Rattle.pg_watch.proofs.Steps.{AreClauses-at, AreLiterals-contains, Steps-unit}
use Rattle.pg_watch.proofs.fresh.look_and_set.Goals as goal

pub look_at-requires : goal.look_at-requires
look_at-requires c =
    subst (IsClause c.args.trail.now.variables) (sym c.clause.ensures)
    (AreClauses-at c.args.trail.now.variables c.args.clauses.now c.args.place c.requires.clauses c.requires.place)

pub push-requires-clause-literal : goal.push-requires-clause-literal
push-requires-clause-literal c =
    let fits : SFits w32 c.in-Unit.lit = search rules in
    let n = c.args.trail.now.variables in
    let own = subst (IsClause n) (sym c.clause.ensures) (AreClauses-at n c.args.clauses.now c.args.place c.requires.clauses c.requires.place) in
    simp to_z-of_z (AreLiterals-contains n c.clause.result.now c.in-Unit.lit own.within c.in-Unit.ensures.there)

pub returns-in-Ok-clause-steps : goal.returns-in-Ok-clause-steps
returns-in-Ok-clause-steps c =
    let fits : SFits w32 c.in-Unit.lit = search rules in
    let cs = c.args.clauses.now in
    let t = c.args.trail.now in
    let unit = subst (λ (xs : List ℤ). IsUnit t.literals xs c.in-Unit.lit) c.clause.ensures c.in-Unit.ensures in
    let made = simp to_z-of_z at c.in-Ok.ensures.ok in
    subst (λ (s : Trail). Steps cs t s) (sym made)
    (Steps-unit cs t c.args.place c.in-Unit.lit c.requires.trail c.requires.clauses c.requires.place unit)
