-- What is listed is what is not zero.
use Rattle.pg_lang_meaning.specs.States.{window}
use Rattle.pg_type.specs.Listed.{state_of}
use Rattle.pg_replay.proofs.SameLemmas.{covered-of, standing-all}
use Rattle.pg_replay.proofs.same.is_covered.Goals as goal

pub returns : goal.returns
returns c =
    let other = window (state_of c.args.t.now) in (
      λ h. covered-of c.args.s.now.size c.args.s.now.psw c.args.s.now.cells c.as_slice.result.now other c.as_slice.ensures.cells c.as_slice.ensures.listed (c.all_stand.ensures.0 h),
      λ h. c.all_stand.ensures.1 (standing-all c.args.s.now.size c.args.s.now.psw c.args.s.now.cells c.as_slice.result.now other c.as_slice.ensures.cells c.as_slice.ensures.listed c.args.s.now.within h),
    )
