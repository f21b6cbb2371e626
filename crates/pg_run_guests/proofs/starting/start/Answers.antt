use Rattle.std.proofs.Common.{◌∙◌, ap, refl, take}
use Rattle.pg_alloc.specs.Fit.{kept_cells}
use Rattle.pg_run_guests.specs.Runs.{run_of, switched_on}
use Rattle.pg_run_guests.specs.Setting.{Loaded, loaded_from}
use Rattle.pg_run_guests.proofs.starting.start.Goals as goal

pub returns-in-Err-clause-set_up : goal.returns-in-Err-clause-set_up
returns-in-Err-clause-set_up g c = c.in-Err.ensures.set_up (run_of c.args.accepted.machine.now c.args.images.now 1 0) refl

pub returns-clause-set_up : goal.returns-clause-set_up
returns-clause-set_up g c =
    let some = c.in-Err-load_all.ensures.refused in
    Loaded some.some (some.loaded ∙ ap (loaded_from kept_cells (take some.some (switched_on c.args.images.now))) c.in-Ok.ensures.made)
