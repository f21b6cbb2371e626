use Rattle.std.proofs.Common.{◌≡◌, ◌≤◌, ◌-◌}
use Rattle.pg_lang_meaning.specs.Steps.{steps}
use Rattle.pg_monitor.specs.Settling.{NoneStill}
use Rattle.pg_run_still.proofs.bare.run_until.Given as goal

-- so many steps were done, and no state before was still
abbrev pub invariant-loop-done : goal.invariant-loop-done
invariant-loop-done g l = record {
  reached : (g.H.Hardware.machinery l.hw).state ≡ steps l.m.desc l.done (g.H.Hardware.machinery l.initial.hw).state;
  none : NoneStill l.m.desc l.done (g.H.Hardware.machinery l.initial.hw).state;
  most : l.done ≤ l.most;
  fixed : g.H.Hardware.fixed l.hw ≡ g.H.Hardware.fixed l.initial.hw;
}

abbrev pub decreases-loop-done : goal.decreases-loop-done
decreases-loop-done g l = l.most - l.done
