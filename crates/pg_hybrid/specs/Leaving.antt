-- What turns under a hybrid monitor leave beside the guests: which guest is current, the count of loads, cell 0 and the PSW. It
-- is worked out turn by turn, so the order of turns decides it.
use Rattle.std.specs.Prelude.{ℕ, zero, suc, if◌then◌else◌, length, List, [], ◌∷◌, Option, None, Some, slice_get, slice_index}
use Rattle.std.specs.Bool.{then_some}
use Rattle.pg_word.specs.declared.psw.Psw.{Psw}
use Rattle.pg_word.specs.Psw.{old_psw_cell, power_on_psw}
use Rattle.pg_ast.specs.declared.tree.Desc.{Desc}
use Rattle.pg_lang_meaning.specs.States.{State}
use Rattle.pg_lang_meaning.specs.Steps.{step, steps}
use Rattle.pg_hw.specs.Bursts.{is_user}
use Rattle.pg_hw.specs.Tallies.{raised_by}
use Rattle.pg_hw.specs.Machinery.{Machinery}
use Rattle.pg_routine.specs.Composing.{composed}
use Rattle.pg_mon_control.specs.declared.guest.Guest.{Guest}
use Rattle.pg_mon_control.specs.Current.{is_current, change_to}
use Rattle.pg_mon_control.specs.Direct.{is_direct}
use Rattle.pg_mon_control.specs.Plans.{moved}
use Rattle.pg_mon_control.specs.Traps.{trap_word}

-- ---- one turn of guest k, whose grant has this base, from a state

-- the loads: one where it begins in user mode and the guest is not the current one
abbrev pub loads_at : ℕ → State → Option ℕ → ℕ
loads_at k s current = if is_user s.psw.mode then change_to k current else 0

-- the current guest, but for guest k
abbrev pub without : ℕ → Option ℕ → Option ℕ
without k current = if is_current k current then None else current

-- the guest that is then current: the guest itself where the turn was direct, none where the hardware trapped; a turn from
-- supervisor mode leaves another guest current
abbrev pub current_behind : Desc → ℕ → ℕ → State → Option ℕ → Option ℕ
current_behind d k base s current = if is_user s.psw.mode then then_some (is_direct d base s) k else without k current

-- what cell 0 then holds: where the hardware trapped, the PSW at its entry and the cause
abbrev pub cell_after : Desc → ℕ → State → ℕ → ℕ
cell_after d base s held = if is_user s.psw.mode then (if is_direct d base s then held else trap_word d base s) else held

-- the PSW of the hardware: composed of the guest's own where the turn was direct, the control program's where the hardware
-- trapped; a turn from supervisor mode leaves it
abbrev pub psw_after : Desc → ℕ → State → Psw → Psw
psw_after d base s held =
    if is_user s.psw.mode then (if is_direct d base s then composed (step d s).psw base (length s.cells) else power_on_psw d.size) else held

-- ---- all four

pub record Left : Type 0 where
  pub current : Option ℕ
  pub loads : ℕ
  pub cell_0 : ℕ
  pub psw : Psw

-- those of a hardware and its monitor
abbrev pub left_of : Machinery → Option ℕ → Left
left_of h current = record { current = current; loads = h.tally.loads; cell_0 = slice_index h.state.cells old_psw_cell; psw = h.state.psw }

-- after a turn
abbrev pub left_by : Desc → ℕ → ℕ → State → Left → Left
left_by d k base s left = record {
  current = current_behind d k base s left.current;
  loads = raised_by (loads_at k s left.current) left.loads;
  cell_0 = cell_after d base s left.cell_0;
  psw = psw_after d base s left.psw;
}

-- after n turns of one guest
unfoldable pub left_among : Desc → ℕ → ℕ → ℕ → State → Left → Left
left_among d k base zero s left = left
left_among d k base (suc n) s left = left_by d k base (steps d n s) (left_among d k base n s left)

-- after n turns of a guest that may be missing
abbrev pub left_turns : Desc → ℕ → Option Guest → Option State → ℕ → Left → Left
left_turns d k None s n left = left
left_turns d k (Some g) None n left = left
left_turns d k (Some g) (Some s) n left = left_among d k g.base n s left

-- after the turns of a plan, of guests at these states
abbrev pub left_behind : Desc → List Guest → List (ℕ × ℕ) → List State → Left → Left
left_behind d gs [] ss left = left
left_behind d gs (turn ∷ plan) ss left =
    left_behind d gs plan (moved d turn.0 turn.1 ss) (left_turns d turn.0 (slice_get gs turn.0) (slice_get ss turn.0) turn.1 left)
