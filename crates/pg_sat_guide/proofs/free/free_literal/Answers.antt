use Rattle.std.proofs.Common.{SFits, w32, ◌≡◌, ◌∙◌, ◌<◌, pos, neg_ℤ, arith, ap, sym, subst}
use Rattle.std.proofs.lemmas.Int.{to_z-of_z}
use Rattle.pg_cnf.specs.Literals.{IsLiteral}
use Rattle.pg_watch.specs.Trail.{value_of}
use Rattle.pg_sat_guide.proofs.LiteralLemmas.{SFits-neg, SFits-literal}
use Rattle.pg_sat_guide.proofs.LiteralLemmas.{free_neg}
use Rattle.pg_sat_guide.proofs.free.free_literal.Goals as goal

pub returns-else-positive : goal.returns-else-positive
returns-else-positive c =
    let v = c.args.variable in
    let lit = c.literal_of-literal.result in
    let is : lit ≡ pos c.args.variable = c.literal_of-literal.ensures in
    let from : 0 < c.args.variable = omega (arith, c.if-variable-eq0.false) in
    let of_v : IsLiteral c.args.variables (pos c.args.variable) = (from, omega (arith, c.if-variable-variables.false)) in
    let literal : IsLiteral c.args.variables lit = subst (IsLiteral c.args.variables) (sym is) of_v in
    let fits : SFits w32 c.literal_of-literal.result = SFits-literal c.args.variables c.literal_of-literal.result c.requires.over.few literal in
    let n = simp to_z-of_z at c.negation.ensures in
    let small : IsLiteral 2147483647 lit = (literal.0, omega (arith, literal.1, c.requires.over.few)) in
    let other : SFits w32 c.negation.result = SFits-neg lit c.negation.result n small in
    let unset = simp to_z-of_z at c.in-None.ensures in
    simp to_z-of_z
    (free_neg c.args.variables c.args.watches.now.trail.literals c.args.variable c.negation.result from (omega (arith, c.if-variable-variables.false))
    (unset ∙ ap (value_of c.args.watches.now.trail.literals) is) (n ∙ ap neg_ℤ is))
