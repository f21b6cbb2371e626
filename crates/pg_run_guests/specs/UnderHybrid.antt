-- What a run of guests under a hybrid monitor leaves of the hardware.
use Rattle.std.specs.Prelude.{◌≡◌, ℕ, ◌+◌, ◌-◌, ◌*◌, ◌<◌, ◌≤◌, List, length, map, slice_get, slice_index, None, Some}
use Rattle.pg_word.specs.Psw.{new_psw_cell, old_psw_cell, packed, power_on_psw}
use Rattle.pg_hw.specs.Machinery.{Machinery}
use Rattle.pg_alloc.specs.Fit.{kept_cells}
use Rattle.pg_mon_control.specs.Plans.{IsOutside}
use Rattle.pg_mon_control.specs.Schedules.{each_count}
use Rattle.pg_mon_control.specs.Counting.{BottomTurns}
use Rattle.pg_hybrid.specs.UserTurns.{hybrid_among}
use Rattle.pg_hybrid.specs.Leaving.{Left, left_behind}
use Rattle.pg_hybrid.specs.Plans.{user_count}
use Rattle.pg_report.specs.Runs.{run_text}
use Rattle.pg_run_guests.specs.Runs.{GuestRun, cells_in, guests_of, plan_of, reached_by, turns_in, granted}

-- the turns of a run that begin in user mode: of each guest those of its own steps
abbrev pub user_turns_of : GuestRun → ℕ
user_turns_of r = each_count (user_count r.desc) (guests_of r) r.steps r.states

-- those of them that are direct, each at the base of its grant
abbrev pub hybrid_direct_of : GuestRun → ℕ
hybrid_direct_of r = each_count (hybrid_among r.desc) (guests_of r) r.steps r.states

-- the others of all turns, which the hybrid monitor interprets
abbrev pub interpreted_turns : GuestRun → ℕ
interpreted_turns r = turns_in r - hybrid_direct_of r

-- what the turns leave beside the guests, in their order, from a hardware that was switched on and made no load
abbrev pub left_in : GuestRun → Left
left_in r = left_behind r.desc (guests_of r) (plan_of r) r.states (record { current = None; loads = 0; cell_0 = 0; psw = power_on_psw r.desc.size })

-- a hardware on which guests ran under a hybrid monitor: the grants hold the storages that bare machines reach; each turn from
-- user mode was a step of the hardware, and each direct one of these untrapped; each other turn was interpreted
pub record RanHybrid (r : GuestRun) (old new : Machinery) : Type 0 where
  pub size : length new.state.cells ≡ r.desc.size
  pub control : slice_get new.state.cells new_psw_cell ≡ Some (packed r.desc.address (power_on_psw r.desc.size))
  pub grants : granted (guests_of r) new.state.cells ≡ map (λ s. s.cells) (reached_by r)
  -- cell 0 holds the word of the hardware's last trap, or 0 where none was, and no other cell outside the grants was set
  pub cell_0 : slice_index new.state.cells old_psw_cell ≡ (left_in r).cell_0
  pub outside : (at : ℕ) → kept_cells ≤ at → at < r.desc.size → IsOutside (guests_of r) at → slice_get new.state.cells at ≡ Some 0
  -- the PSW of the hardware is the one that its last step left, or else that of switching on
  pub psw : new.state.psw ≡ (left_in r).psw
  pub steps : new.tally.steps ≡ old.tally.steps + user_turns_of r
  pub untrapped : new.tally.untrapped ≡ old.tally.untrapped + hybrid_direct_of r
  -- one poke for the control program's PSW and one for each cell of the states, and at most eight for a turn that is interpreted
  pub pokes_least : old.tally.pokes + (1 + cells_in r.states) ≤ new.tally.pokes
  pub pokes_most : new.tally.pokes ≤ old.tally.pokes + (1 + cells_in r.states) + 8 * interpreted_turns r
  -- one load for each turn from user mode whose guest was not the current one
  pub loads : new.tally.loads ≡ old.tally.loads + (left_in r).loads
  pub loads_most : new.tally.loads ≤ old.tally.loads + user_turns_of r
  pub bottom : BottomTurns (user_turns_of r) (hybrid_direct_of r) old.bottom new.bottom

-- ---- what is told

-- the text of such a run: the states that were reached, and the counts of turns
abbrev pub hybrid_text : GuestRun → List ℕ
hybrid_text r = run_text r.desc.word (reached_by r) (turns_in r) (hybrid_direct_of r)
