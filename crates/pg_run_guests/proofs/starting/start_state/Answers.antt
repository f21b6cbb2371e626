use Rattle.std.proofs.Common.{[], ◌∷◌, ◌+◌, ◌∙◌, ap, refl}
use Rattle.pg_alloc.specs.Fit.{kept_cells}
use Rattle.pg_type.specs.Listed.{state_of}
use Rattle.pg_run_guests.specs.Setting.{Loaded, loaded_from}
use Rattle.pg_run_guests.specs.UnderMonitor.{state_run}
use Rattle.pg_run_guests.proofs.starting.start_state.Goals as goal

pub returns-in-Err-clause-set_up : goal.returns-in-Err-clause-set_up
returns-in-Err-clause-set_up g c = c.in-Err.ensures.set_up (state_run c.args.accepted.machine.now c.args.skip (state_of c.args.state.now) 1 0) refl

pub returns-in-Ok-load_behind-clause-made : goal.returns-in-Ok-load_behind-clause-made
returns-in-Ok-load_behind-clause-made g c =
    c.in-Ok-load_behind.ensures.made ∙ ap (loaded_from (kept_cells + c.args.skip) (state_of c.args.state.now ∷ [])) c.in-Ok.ensures.made

-- nothing was loaded
pub returns-clause-set_up : goal.returns-clause-set_up
returns-clause-set_up g c = Loaded 0 (c.in-Err-load_behind.ensures.refused ∙ c.in-Ok.ensures.made)
