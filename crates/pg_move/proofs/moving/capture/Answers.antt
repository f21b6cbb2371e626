use Rattle.pg_type.specs.Listed.{state_of}
use Rattle.pg_monitor.specs.Monitors.{desc_of}
use Rattle.pg_move.proofs.CaptureLemmas.{captured-saved}
use Rattle.pg_move.proofs.moving.capture.Goals as goal

pub returns-clause-saved : goal.returns-clause-saved
returns-clause-saved g c =
    let m = c.args.monitor.now in
    captured-saved (desc_of m) (g.H.Hardware.machinery c.args.hw.now).state m.guests m.current c.args.k c.guest.result c.args.steps
    (state_of c.in_ok-state.state) c.requires.stands c.guest.ensures c.requires.steps c.in_ok-state.ensures
