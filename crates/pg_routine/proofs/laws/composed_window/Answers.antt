use Rattle.pg_routine.proofs.GrantLaws.{composed-window}
use Rattle.pg_routine.proofs.laws.composed_window.Goals as goal

pub returns : goal.returns
returns c = composed-window
