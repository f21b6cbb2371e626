use Rattle.std.proofs.Common.{SFits, w32, ◌≡◌, ◌∙◌, ◌+◌, pos, neg_ℤ, arith, ap, sym, subst}
use Rattle.std.proofs.lemmas.Int.{to_z-of_z}
use Rattle.pg_cnf.specs.Literals.{IsLiteral}
use Rattle.pg_watch.specs.Trail.{value_of}
use Rattle.pg_sat_guide.proofs.LiteralLemmas.{SFits-neg, SFits-literal}
use Rattle.pg_sat_guide.proofs.LiteralLemmas.{free_neg}
use Rattle.pg_sat.proofs.decide.next_unset.Goals as goal

pub returns-in-None : goal.returns-in-None
returns-in-None c =
    let v = c.loop-index.index + 1 in
    let lit = c.literal_of-literal.result in
    let is : lit ≡ pos (c.loop-index.index + 1) = c.literal_of-literal.ensures in
    let of_v : IsLiteral c.args.variables (pos (c.loop-index.index + 1)) = (omega arith, omega (arith, c.loop-index-test.true)) in
    let literal : IsLiteral c.args.variables lit = subst (IsLiteral c.args.variables) (sym is) of_v in
    let fits : SFits w32 c.literal_of-literal.result = SFits-literal c.args.variables c.literal_of-literal.result c.requires.over.few literal in
    let n = simp to_z-of_z at c.negation.ensures in
    let small : IsLiteral 2147483647 lit = (literal.0, omega (arith, literal.1, c.requires.over.few)) in
    let other : SFits w32 c.negation.result = SFits-neg lit c.negation.result n small in
    let unset = simp to_z-of_z at c.in-None.ensures in
    simp to_z-of_z
    (free_neg c.args.variables c.args.watches.now.trail.literals (c.loop-index.index + 1) c.negation.result (omega arith) (omega (arith, c.loop-index-test.true))
    (unset ∙ ap (value_of c.args.watches.now.trail.literals) is) (n ∙ ap neg_ℤ is))
