use Rattle.std.proofs.Common.{rules, get_or, pos, w32, FitsSigned, ◌++◌}
use Rattle.std.proofs.lemmas.Int.{to_z-of_z}
use Rattle.pg_prog_base.specs.Dimacs.{literals_text}
use Rattle.pg_prog_base.proofs.Texts.{literals_next}
use Rattle.pg_prog_base.proofs.text.push_literals.Goals as goal

pub loop-literal-preserved : goal.loop-literal-preserved
loop-literal-preserved c =
    let fits : FitsSigned w32 (get_or c.args.literals.now c.loop-literal.literal-index (pos 0)) = search rules in
    rw (c.in_ok-push.ensures.items, c.in_ok-push_literal.ensures)
    (literals_next c.loop-literal.text.items (c.args.text.now.items ++ literals_text c.args.literals.now) c.args.literals.now c.loop-literal.literal-index _ c.loop-literal-test.true (to_z-of_z w32 _ fits) c.loop-literal.invariant)
