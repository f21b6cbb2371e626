-- Where nothing is stored, nothing differs.
use Rattle.pg_lang_meaning.specs.States.{window}
use Rattle.pg_type.specs.Listed.{state_of}
use Rattle.pg_replay.proofs.StoreLemmas.{written-same, written-agree}
use Rattle.pg_replay.proofs.observe.same_after.Goals as goal

pub returns : goal.returns
returns c =
    let cells = window (state_of c.args.s.now) in (
      λ h. written-same c.args.xs.now c.args.ys.now cells (c.agree_at.ensures.0 c.if-not-agree_at.false) (c.agree_at-2.ensures.0 h),
      λ e. c.agree_at-2.ensures.1 (written-agree c.args.xs.now c.args.ys.now cells c.args.ys.now e),
    )
