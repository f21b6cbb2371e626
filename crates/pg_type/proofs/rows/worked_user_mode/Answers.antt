use Rattle.pg_type.proofs.UserRows.{rtu_done_alike, rtu_traps_alike, rtu_steps_alike, rtu_keeps_control, rtu_in_supervisor_mode_is_not_alike}
use Rattle.pg_type.proofs.rows.worked_user_mode.Goals as goal

pub returns : goal.returns
returns c = record {
  done_alike = rtu_done_alike;
  traps_alike = rtu_traps_alike;
  steps_alike = rtu_steps_alike;
  keeps_control = rtu_keeps_control;
  in_supervisor_mode_is_not_alike = rtu_in_supervisor_mode_is_not_alike;
}
