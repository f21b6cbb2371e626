use Rattle.std.proofs.Common.{sym, ◌∙◌, arith}
use Rattle.pg_proof.specs.Places.{is_marked}
use Rattle.pg_proof.proofs.CoverLemmas.{AreLeft-next}
use Rattle.pg_proof.proofs.cover.list_passes.Goals as goal

pub loop-number-preserved : goal.loop-number-preserved
loop-number-preserved c =
    AreLeft-next (is_marked c.args.flags.now) c.args.clauses.now c.args.links.now c.args.first c.loop-number.number c.requires.below (omega (arith, c.loop-number-test.true))
    c.loop-number.invariant (sym c.passes.ensures ∙ c.if-passes.false)
