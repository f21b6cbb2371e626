use Rattle.std.proofs.Common.{◌-◌, refl, arith}
use Rattle.pg_cmd_base.proofs.StepLemmas.{room-came, room-stopped}
use Rattle.pg_cmd_base.proofs.room.try_room.Goals as goal

pub returns-then-wanted-free-clause-comes : goal.returns-then-wanted-free-clause-comes
returns-then-wanted-free-clause-comes c = λ reads.
    room-stopped (λ (done : Unit {0}). c.args.wanted) c.args.wanted (c.args.shape.now.q - c.args.kept) _ _ reads reads c.no_room.result refl c.saturating_sub-free.ensures c.if-wanted-free.true c.no_room.ensures

pub returns-clause-comes : goal.returns-clause-comes
returns-clause-comes c = λ reads. room-came c.args.wanted (c.args.shape.now.q - c.args.kept) (omega (arith, c.if-wanted-free.false, c.saturating_sub-free.ensures))

pub returns-clause-fits : goal.returns-clause-fits
returns-clause-fits c = omega (arith, c.requires, c.if-wanted-free.false, c.saturating_sub-free.ensures)
