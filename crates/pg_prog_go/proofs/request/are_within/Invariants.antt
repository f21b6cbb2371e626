use Rattle.std.proofs.Common.{take}
use Rattle.pg_run_still.specs.Views.{AreViewsOf}
use Rattle.pg_prog_go.proofs.request.are_within.Given as goal

-- the views before this one show no other cells
abbrev pub invariant-loop-view : goal.invariant-loop-view
invariant-loop-view l = record { within : AreViewsOf l.cells (take l.view-index l.views) }
