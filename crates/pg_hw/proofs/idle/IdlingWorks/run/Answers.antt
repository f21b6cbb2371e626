use Rattle.std.proofs.Common.{refl, sym, ◌∙◌, arith}
use Rattle.pg_lang_meaning.specs.Steps.{steps}
use Rattle.pg_hw.specs.Machinery.{at_psw}
use Rattle.pg_hw.specs.Bursts.{untrapped_among, burst_length}
use Rattle.pg_hw.proofs.BurstLaws.{steps-one, burst_length-trap, untrapped_at-trap, untrapped_among-one}
use Rattle.pg_hw.proofs.IdleLaws.{step-idle_by, traps-idle}
use Rattle.pg_hw.proofs.StillLemmas.{NoneStays-none, NoneStays-next, trap-moves}
use Rattle.pg_hw.proofs.idle.IdlingWorks.run.Goals as goal

pub returns-then-k-eq0-clause-done : goal.returns-then-k-eq0-clause-done
unfolding burst_length
returns-then-k-eq0-clause-done c = rw c.if-k-eq0.true refl

pub returns-then-k-eq0-clause-state : goal.returns-then-k-eq0-clause-state
unfolding steps
returns-then-k-eq0-clause-state c = refl

pub returns-then-k-eq0-clause-untrapped : goal.returns-then-k-eq0-clause-untrapped
unfolding untrapped_among
returns-then-k-eq0-clause-untrapped c = refl

pub returns-clause-done : goal.returns-clause-done
returns-clause-done c =
    let s = at_psw c.args.cells.now c.args.psw in
    sym (burst_length-trap c.args.m.now.desc c.args.k s (traps-idle c.args.m.now.desc s c.requires.known) (omega (arith, c.if-k-eq0.false)))

pub returns-clause-state : goal.returns-clause-state
returns-clause-state c =
    step-idle_by c.args.m.now.desc (at_psw c.args.cells.now c.args.psw) (at_psw c.trap.new.cells c.trap.result) c.shape.result.now c.window_len-usable.result
    c.cause_of-cause.result c.requires.known c.shape.ensures.numbers c.window_len-usable.ensures c.cause_of-cause.ensures c.trap.ensures.cells c.trap.ensures.psw
    ∙ sym (steps-one c.args.m.now.desc (at_psw c.args.cells.now c.args.psw))

pub returns-clause-untrapped : goal.returns-clause-untrapped
returns-clause-untrapped c =
    let s = at_psw c.args.cells.now c.args.psw in
    sym (untrapped_among-one c.args.m.now.desc s ∙ untrapped_at-trap c.args.m.now.desc s (traps-idle c.args.m.now.desc s c.requires.known))

pub returns-then-k-eq0-clause-still : goal.returns-then-k-eq0-clause-still
returns-then-k-eq0-clause-still c = NoneStays-none c.args.m.now.desc (at_psw c.args.cells.now c.args.psw)

pub returns-clause-still : goal.returns-clause-still
unfolding steps
returns-clause-still c =
    let s = at_psw c.args.cells.now c.args.psw in
    NoneStays-next c.args.m.now.desc 0 s (NoneStays-none c.args.m.now.desc s) (trap-moves c.args.m.now.desc s (traps-idle c.args.m.now.desc s c.requires.known))
