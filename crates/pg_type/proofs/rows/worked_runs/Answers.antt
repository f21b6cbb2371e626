use Rattle.pg_type.proofs.RunRows.{no_pattern as no_pattern_holds, no_window as no_window_holds, past_storage as past_storage_holds, last_usable as last_usable_holds, first_past_bound as first_past_bound_holds, first_past_size as first_past_size_holds, runs_past_window as runs_past_window_holds, doubles_in_a_loop as doubles_in_a_loop_holds, window_of_one_cell as window_of_one_cell_holds, no_pattern_cause as no_pattern_cause_holds, memory_trap_cause as memory_trap_cause_holds, trap_cause as trap_cause_holds, traps_for_ever as traps_for_ever_holds, widens_and_shifts as widens_and_shifts_holds}
use Rattle.pg_type.proofs.rows.worked_runs.Goals as goal

pub returns : goal.returns
returns c = record { no_pattern = no_pattern_holds; no_window = no_window_holds; past_storage = past_storage_holds; last_usable = last_usable_holds; first_past_bound = first_past_bound_holds; first_past_size = first_past_size_holds; runs_past_window = runs_past_window_holds; doubles_in_a_loop = doubles_in_a_loop_holds; window_of_one_cell = window_of_one_cell_holds; no_pattern_cause = no_pattern_cause_holds; memory_trap_cause = memory_trap_cause_holds; trap_cause = trap_cause_holds; traps_for_ever = traps_for_ever_holds; widens_and_shifts = widens_and_shifts_holds }
