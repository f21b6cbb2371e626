-- Each round takes the first instruction that is left, and what follows is guarded as the rest of the marks say.
use Rattle.std.proofs.Common.{◌≡◌, ◌+◌, ◌++◌, length, drop, subst, sym}
use Rattle.pg_out_guarded.specs.Guards.{AreGuarded}
use Rattle.pg_out_guarded.proofs.GuardLemmas.{next-length, next-whole, last-whole}
use Rattle.pg_out_guarded.proofs.guard.instrs_guarded.Goals as goal

pub loop-is_marked-preserved : goal.loop-is_marked-preserved
loop-is_marked-preserved c =
    let k = c.loop-is_marked.is_marked-index in
    let all = c.loop-is_marked.all in
    let x = c.in_ok-with_guard_if.field-0 in
    record {
      same_length =
          subst (λ left. length (drop (k + 1) c.args.marks.now) ≡ length left) (sym c.remove-instr.ensures.rest)
          (next-length c.args.marks.now k c.loop-is_marked-test.true c.args.instrs c.loop-is_marked.left all c.remove-instr.result x c.remove-instr.ensures.item
          c.in_ok-with_guard_if.ensures c.loop-is_marked.invariant.same_length);
      whole = λ rest h.
          subst (λ now. AreGuarded c.args.marks.now c.args.instrs (now ++ rest)) (sym c.in_ok-push.ensures.ok)
          (next-whole c.args.marks.now k c.loop-is_marked-test.true c.args.instrs c.loop-is_marked.left all c.remove-instr.result x c.remove-instr.ensures.item
          c.in_ok-with_guard_if.ensures c.loop-is_marked.invariant.whole rest
          (subst (λ left. AreGuarded (drop (k + 1) c.args.marks.now) left rest) c.remove-instr.ensures.rest h));
    }

pub returns : goal.returns
returns c =
    last-whole c.args.marks.now c.loop-is_marked.is_marked-index c.args.instrs c.loop-is_marked.left c.loop-is_marked.all c.loop-is_marked-test.false
    c.loop-is_marked.invariant.same_length c.loop-is_marked.invariant.whole
