use Rattle.std.proofs.Common.{◌≡◌, take}
use Rattle.pg_alloc.specs.Fit.{kept_cells}
use Rattle.pg_run_guests.specs.Runs.{switched_on}
use Rattle.pg_run_guests.specs.Setting.{loaded_from}
use Rattle.pg_monitor.specs.Monitors.{kept_by}
use Rattle.pg_run_guests.specs.Begun.{IsBegun, HoldsNoMore}
use Rattle.pg_run_guests.proofs.starting.load_all.Given as goal

-- the images before this one were loaded
abbrev pub invariant-loop-image : goal.invariant-loop-image
invariant-loop-image g l = record {
  machine : l.monitor.accepted.machine.now ≡ l.initial.monitor.accepted.machine.now;
  begun : IsBegun kept_cells (take l.image-index (switched_on l.images)) (kept_by l.monitor) (g.H.Hardware.machinery l.hw);
  no_more : HoldsNoMore (kept_by l.monitor);
  made : g.H.Hardware.machinery l.hw ≡ loaded_from kept_cells (take l.image-index (switched_on l.images)) (g.H.Hardware.machinery l.initial.hw);
  fixed : g.H.Hardware.fixed l.hw ≡ g.H.Hardware.fixed l.initial.hw;
}
