use Rattle.std.proofs.Common.{◌≡◌, ◌+◌, ◌<◌, ◌≤◌, Ok, length, drop, arith}
use Rattle.std.proofs.lemmas.List.{take_rest}
use Rattle.std.proofs.lemmas.Result.{err_from_is_err_and}
use Rattle.pg_text.proofs.CutSteps.{piece_within, CutSoFar-next, CutSoFar-fault, CutSoFar-all}
use Rattle.pg_text.specs.Cutting.{front}
use Rattle.pg_text.proofs.cutting.tokens.Goals as goal
use Rattle.pg_text.proofs.cutting.tokens.Goals.{In_ok-piece}

-- the piece is one at the front of what is left
is_front : (c : In_ok-piece) → front c.loop-at.at (drop c.loop-at.at c.args.bytes.now) ≡ Ok c.in_ok-piece.piece
is_front c = let e = take_rest c.args.bytes.now c.loop-at.at in rw e at c.in_ok-piece.ensures

is_within : (c : In_ok-piece) → (0 < c.in_ok-piece.piece.len) × (c.loop-at.at + c.in_ok-piece.piece.len ≤ length c.args.bytes.now)
is_within c = piece_within c.args.bytes.now c.loop-at.at c.in_ok-piece.piece c.loop-at-test.true (is_front c)

pub returns-in_err-piece : goal.returns-in_err-piece
returns-in_err-piece c =
    let e = take_rest c.args.bytes.now c.loop-at.at in
    let p = err_from_is_err_and c.from_residual.result c.from_residual.ensures.1 in
    rw (p.1, p.2) (CutSoFar-fault c.args.bytes.now c.loop-at.list c.loop-at.at _ c.loop-at-test.true c.loop-at.invariant (rw e at c.in_err-piece.ensures))

pub put-requires : goal.put-requires
put-requires c = omega (arith, is_within (goal.at.put-requires c).In_ok-piece)

pub overflow_add-at : goal.overflow_add-at
overflow_add-at c = omega (arith, is_within (goal.at.overflow_add-at c).In_ok-piece)

pub loop-at-smaller : goal.loop-at-smaller
loop-at-smaller c = omega (arith, is_within (goal.at.loop-at-smaller c).In_ok-piece)

pub loop-at-preserved : goal.loop-at-preserved
loop-at-preserved c =
    rw c.in_ok-put.ensures (CutSoFar-next c.args.bytes.now c.loop-at.list c.loop-at.at c.in_ok-piece.piece c.loop-at-test.true c.loop-at.invariant (is_front (goal.at.loop-at-preserved c).In_ok-piece))

pub returns : goal.returns
returns c = CutSoFar-all c.args.bytes.now c.loop-at.list c.loop-at.at c.loop-at-test.false c.loop-at.invariant
