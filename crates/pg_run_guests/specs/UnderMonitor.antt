-- What a run of guests under a monitor leaves of the hardware; and the run of one state behind cells that are held.
use Rattle.std.specs.Prelude.{◌≡◌, ℕ, ◌+◌, ◌*◌, ◌<◌, ◌≤◌, [], ◌∷◌, length, map, slice_get, slice_index, None, Some}
use Rattle.pg_word.specs.Psw.{new_psw_cell, old_psw_cell, packed, power_on_psw}
use Rattle.pg_hw.specs.Machinery.{Machinery}
use Rattle.pg_mach_ready.specs.declared.machine.Machine.{Machine}
use Rattle.pg_lang_meaning.specs.States.{State}
use Rattle.pg_alloc.specs.Fit.{kept_cells}
use Rattle.pg_mon_control.specs.Plans.{IsOutside}
use Rattle.pg_monitor.specs.Plans.{cell_behind, psw_behind, changes_of}
use Rattle.pg_mon_control.specs.Counting.{BottomTurns}
use Rattle.pg_run_guests.specs.Runs.{GuestRun, cells_in, guests_of, reached_by, plan_of, turns_in, direct_turns_of, emulated_turns, granted}

-- the run of a state on a machine, whose grant lies behind the cells that a monitor keeps and so many that it holds for none
abbrev pub state_run : Machine → ℕ → State → ℕ → ℕ → GuestRun
state_run machine skip s slice steps = record { desc = machine.desc; first = kept_cells + skip; states = s ∷ []; slice = slice; steps = steps }

-- a hardware on which guests ran under a monitor: the grants hold the storages that bare machines reach; each direct step was
-- executed by the hardware, untrapped; and what else its storage and its program status word hold is what the monitor's
-- turns leave there
pub record RanGuests (r : GuestRun) (old new : Machinery) : Type 0 where
  pub size : length new.state.cells ≡ r.desc.size
  pub control : slice_get new.state.cells new_psw_cell ≡ Some (packed r.desc.address (power_on_psw r.desc.size))
  pub grants : granted (guests_of r) new.state.cells ≡ map (λ s. s.cells) (reached_by r)
  -- cell 0 holds the word of the last trap, or 0 where none was, and no other cell outside the grants was set
  pub cell_0 : slice_index new.state.cells old_psw_cell ≡ cell_behind r.desc (guests_of r) (plan_of r) r.states 0
  pub outside : (at : ℕ) → kept_cells ≤ at → at < r.desc.size → IsOutside (guests_of r) at → slice_get new.state.cells at ≡ Some 0
  -- the program status word is the one composed for the guest that had the last turn, or else that of switching on
  pub psw : new.state.psw ≡ psw_behind r.desc (guests_of r) (plan_of r) r.states (power_on_psw r.desc.size)
  pub steps : new.tally.steps ≡ old.tally.steps + turns_in r
  pub untrapped : new.tally.untrapped ≡ old.tally.untrapped + direct_turns_of r
  -- one poke for the control program's PSW and one for each cell of the states, and at most eight for a turn that is not direct
  pub pokes_least : old.tally.pokes + (1 + cells_in r.states) ≤ new.tally.pokes
  pub pokes_most : new.tally.pokes ≤ old.tally.pokes + (1 + cells_in r.states) + 8 * emulated_turns r
  -- one load for each change of guest, the first turn among them, and one for each turn that is not direct
  pub loads : new.tally.loads ≡ old.tally.loads + (changes_of (plan_of r) None + emulated_turns r)
  pub bottom : BottomTurns (turns_in r) (direct_turns_of r) old.bottom new.bottom
