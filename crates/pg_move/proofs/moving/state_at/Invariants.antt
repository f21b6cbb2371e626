use Rattle.pg_move.proofs.CaptureLemmas.{IsCaptured}
use Rattle.pg_move.proofs.moving.state_at.Given as goal

abbrev pub invariant-loop-at : goal.invariant-loop-at
invariant-loop-at g l = IsCaptured (g.H.Hardware.machinery l.hw).state.cells l.guest.base l.guest.size l.guest.psw l.state l.at
