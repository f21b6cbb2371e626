use Rattle.std.proofs.Common.{◌+◌, sym, subst}
use Rattle.pg_word.specs.declared.sparse.Sparse.{Sparse}
use Rattle.pg_move.proofs.CaptureLemmas.{IsCaptured, captured-past, captured-zero, captured-word, captured-all}
use Rattle.pg_move.proofs.moving.state_at.Goals as goal
use Rattle.pg_move.proofs.moving.state_at.Goals.{then-word-ne0+in_ok-push, else-word-ne0}

pub push-requires-clause-past_last : goal.push-requires-clause-past_last
push-requires-clause-past_last g c =
    let guest = c.args.guest in
    captured-past (g.H.Hardware.machinery c.args.hw.now).state.cells guest.base guest.size guest.psw c.requires.within c.loop-at.state c.loop-at.at
    c.loop-at.invariant

pub loop-at-preserved : goal.loop-at-preserved
loop-at-preserved g c =
    let held = (g.H.Hardware.machinery c.args.hw.now).state.cells in
    let guest = c.args.guest in
    let at = c.loop-at.at in
    elim c.if-word-ne0.branch [
      | then-word-ne0+in_ok-push w ↦ subst (λ (s : Sparse). IsCaptured held guest.base guest.size guest.psw s (at + 1)) (sym w.state-is)
          (captured-word held guest.base guest.size guest.psw c.requires.within c.loop-at.state w.push.new.self at c.peek-word.result
          c.loop-at-test.true c.peek-word.ensures w.if-word-ne0.true w.in_ok-push.ensures.size w.in_ok-push.ensures.psw w.in_ok-push.ensures.ok
          c.loop-at.invariant)
      | else-word-ne0 w ↦ subst (λ (s : Sparse). IsCaptured held guest.base guest.size guest.psw s (at + 1)) (sym w.state-is)
          (captured-zero held guest.base guest.size guest.psw c.requires.within c.loop-at.state at c.peek-word.result
          c.loop-at-test.true c.peek-word.ensures w.if-word-ne0.false c.loop-at.invariant)
    ]

pub returns : goal.returns
returns g c =
    let guest = c.args.guest in
    captured-all (g.H.Hardware.machinery c.args.hw.now).state.cells guest.base guest.size guest.psw c.requires.within c.loop-at.state c.loop-at.at
    c.loop-at-test.false c.loop-at.invariant
