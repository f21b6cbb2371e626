-- What turns by a plan leave of a monitor and its hardware.
use Rattle.std.specs.Prelude.{◌≡◌, ℕ, ◌+◌, ◌≤◌, List, [], ◌∷◌, Option, None, Some, slice_get, slice_index}
use Rattle.pg_word.specs.declared.psw.Psw.{Psw}
use Rattle.pg_word.specs.Psw.{old_psw_cell}
use Rattle.pg_ast.specs.declared.tree.Desc.{Desc}
use Rattle.pg_lang_meaning.specs.States.{State}
use Rattle.pg_hw.specs.Machinery.{Machinery}
use Rattle.pg_mon_control.specs.declared.guest.Guest.{Guest}
use Rattle.pg_mon_control.specs.Guests.{virtuals, grants_of}
use Rattle.pg_mon_control.specs.Direct.{direct_among}
use Rattle.pg_mon_control.specs.Plans.{moved, after_plan, turns_of, count_of, IsOutside}
use Rattle.pg_mon_control.specs.Traps.{trap_cell}
use Rattle.pg_mon_control.specs.Counting.{BottomTurns}
use Rattle.pg_monitor.specs.Turns.{psw_after, current_after, changes_in, CountsTurns}

-- the direct turns of a plan, of guests at these states
abbrev pub direct_of : Desc → List Guest → List (ℕ × ℕ) → List State → ℕ
direct_of d gs plan ss = count_of d (direct_among d) gs plan ss

-- what cell 0 holds after n turns of a guest that may be missing
abbrev pub cell_turns : Desc → Option Guest → Option State → ℕ → ℕ → ℕ
cell_turns d None s n held = held
cell_turns d (Some g) None n held = held
cell_turns d (Some g) (Some s) n held = trap_cell d g.base n s held

-- what it holds behind a plan, of guests at these states: the word of the last trap of all its turns, or else what it held
abbrev pub cell_behind : Desc → List Guest → List (ℕ × ℕ) → List State → ℕ → ℕ
cell_behind d gs [] ss held = held
cell_behind d gs (turn ∷ plan) ss held =
    cell_behind d gs plan (moved d turn.0 turn.1 ss) (cell_turns d (slice_get gs turn.0) (slice_get ss turn.0) turn.1 held)

-- the PSW of the hardware after n turns of a guest that may be missing
abbrev pub psw_turns : Desc → Option Guest → Option State → ℕ → Psw → Psw
psw_turns d None s n held = held
psw_turns d (Some g) None n held = held
psw_turns d (Some g) (Some s) n held = psw_after d g n s held

-- its PSW behind a plan, of guests at these states: composed of the last guest's that had a turn, or else what it was
abbrev pub psw_behind : Desc → List Guest → List (ℕ × ℕ) → List State → Psw → Psw
psw_behind d gs [] ss held = held
psw_behind d gs (turn ∷ plan) ss held =
    psw_behind d gs plan (moved d turn.0 turn.1 ss) (psw_turns d (slice_get gs turn.0) (slice_get ss turn.0) turn.1 held)

-- the guest that is current behind a plan
abbrev pub current_of : List (ℕ × ℕ) → Option ℕ → Option ℕ
current_of [] current = current
current_of (turn ∷ plan) current = current_of plan (current_after turn.0 turn.1 current)

-- the changes of guest in a plan
abbrev pub changes_of : List (ℕ × ℕ) → Option ℕ → ℕ
changes_of [] current = 0
changes_of (turn ∷ plan) current = changes_in turn.0 turn.1 current + changes_of plan (current_after turn.0 turn.1 current)

-- a plan that was followed
pub record Followed (d : Desc) (plan : List (ℕ × ℕ)) (old new : Machinery) (old_guests new_guests : List Guest) (old_current new_current : Option ℕ) : Type 0 where
  pub states : virtuals new.state.cells new_guests ≡ after_plan d plan (virtuals old.state.cells old_guests)
  pub grants : grants_of new_guests ≡ grants_of old_guests
  pub current : new_current ≡ current_of plan old_current
  -- no cell outside the grants and cell 0 changes
  pub outside : (at : ℕ) → 1 ≤ at → IsOutside old_guests at → slice_get new.state.cells at ≡ slice_get old.state.cells at
  pub cell_0 : slice_index new.state.cells old_psw_cell ≡ cell_behind d old_guests plan (virtuals old.state.cells old_guests) (slice_index old.state.cells old_psw_cell)
  pub psw : new.state.psw ≡ psw_behind d old_guests plan (virtuals old.state.cells old_guests) old.state.psw
  pub tally : CountsTurns (turns_of plan) (direct_of d old_guests plan (virtuals old.state.cells old_guests)) (changes_of plan old_current) old.tally new.tally
  pub bottom : BottomTurns (turns_of plan) (direct_of d old_guests plan (virtuals old.state.cells old_guests)) old.bottom new.bottom
