use Rattle.std.proofs.Common.{◌≢◌, []}
use Rattle.std.proofs.lemmas.Result.{err_from_is_err_and}
use Rattle.pg_read.proofs.StepLemmas.{all_due-stop}
use Rattle.pg_read.proofs.InstrLemmas.{instr-shorter, InstrsSoFar-none, InstrsSoFar-next, InstrsSoFar-all, InstrsSoFar-stop}
use Rattle.pg_read.proofs.instrs.instrs.Goals as goal

pub loop-alloc-init : goal.loop-alloc-init
loop-alloc-init c = rw c.new-instrs.ensures (InstrsSoFar-none c.args.cursor.now)

pub returns-in_err-instr : goal.returns-in_err-instr
returns-in_err-instr c =
    let p = err_from_is_err_and c.from_residual.result c.from_residual.ensures.1 in
    let some : c.loop-alloc.cursor ≢ [] = λ e. let at_end = c.is_at_end.ensures.1 e in cc in
    rw (p.1, p.2) (all_due-stop _ _ _ _ (InstrsSoFar-stop c.args.cursor.now c.loop-alloc.cursor c.loop-alloc.instrs c.loop-alloc.invariant some) c.in_err-instr.ensures)

pub loop-alloc-smaller : goal.loop-alloc-smaller
loop-alloc-smaller c = instr-shorter c.loop-alloc.cursor c.instr.new.cursor c.in_ok-instr.instr c.in_ok-instr.ensures

pub loop-alloc-preserved : goal.loop-alloc-preserved
loop-alloc-preserved c =
    let some : c.loop-alloc.cursor ≢ [] = λ e. let at_end = c.is_at_end.ensures.1 e in cc in
    rw c.in_ok-push.ensures.ok (InstrsSoFar-next c.args.cursor.now c.loop-alloc.cursor c.instr.new.cursor c.loop-alloc.instrs c.in_ok-instr.instr c.loop-alloc.invariant some c.in_ok-instr.ensures)

pub returns : goal.returns
returns c = InstrsSoFar-all c.args.cursor.now c.loop-alloc.cursor c.loop-alloc.instrs c.loop-alloc.invariant (c.is_at_end.ensures.0 c.loop-alloc-test.false)
