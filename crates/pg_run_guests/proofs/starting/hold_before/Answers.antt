use Rattle.pg_monitor.specs.Monitors.{kept_by}
use Rattle.pg_run_guests.proofs.HeldLemmas.{hold-fits, hold-held}
use Rattle.pg_run_guests.proofs.starting.hold_before.Goals as goal

-- there is room
pub unreachable-requires : goal.unreachable-requires
unreachable-requires c =
    hold-fits (kept_by c.args.monitor.now) c.args.skip c.if-skip-eq0.false c.requires.none c.requires.fits (c.in-Err-NoRoom.ensures.no_room c.in-Err-NoRoom.field-0-is)

pub returns-in-Ok-clause-held : goal.returns-in-Ok-clause-held
returns-in-Ok-clause-held c =
    hold-held (kept_by c.args.monitor.now) (kept_by c.hold.new.self) c.args.skip _ c.if-skip-eq0.false c.requires.none c.requires.fits c.in-Ok.ensures.held
