-- Turns of guests: what they leave of the states, the storage and the counts.
use Rattle.std.specs.Prelude.{◌≡◌, ℕ, zero, suc, ◌+◌, ◌-◌, ◌*◌, List, Option, Some, slice_get, slice_set, slice_index}
use Rattle.pg_word.specs.declared.psw.Psw.{Psw}
use Rattle.pg_word.specs.Psw.{old_psw_cell}
use Rattle.pg_ast.specs.declared.tree.Desc.{Desc}
use Rattle.pg_lang_meaning.specs.States.{State}
use Rattle.pg_lang_meaning.specs.Steps.{steps}
use Rattle.pg_hw.specs.declared.counts.Counts.{Counts}
use Rattle.pg_hw.specs.Tallies.{RisesWithin, raised_by}
use Rattle.pg_hw.specs.Machinery.{Machinery}
use Rattle.pg_routine.specs.Composing.{composed}
use Rattle.pg_routine.specs.Granting.{with_grant}
use Rattle.pg_mon_control.specs.declared.guest.Guest.{Guest}
use Rattle.pg_mon_control.specs.Guests.{virtual, virtuals, grants_of}
use Rattle.pg_mon_control.specs.Direct.{direct_among}
use Rattle.pg_mon_control.specs.Current.{change_to}
use Rattle.pg_mon_control.specs.Counting.{BottomTurns}
use Rattle.pg_mon_control.specs.Plans.{moved}
use Rattle.pg_mon_control.specs.Traps.{trap_cell}

-- the storage after n turns of a guest from a state: its grant, and cell 0; no other cell changes
abbrev pub storage_after : Desc → ℕ → ℕ → State → List ℕ → List ℕ
storage_after d base n s cells = slice_set (with_grant cells base (steps d n s).cells) old_psw_cell (trap_cell d base n s (slice_index cells old_psw_cell))

-- the PSW of the hardware after n turns of a guest from a state: composed of the guest's own; before its first turn, what it was
abbrev pub psw_after : Desc → Guest → ℕ → State → Psw → Psw
psw_after d g zero s held = held
psw_after d g (suc n) s held = composed (steps d (suc n) s).psw g.base g.size

-- the guest that is current after n turns of guest k
abbrev pub current_after : ℕ → ℕ → Option ℕ → Option ℕ
current_after k zero current = current
current_after k (suc n) current = Some k

-- the changes of guest in n turns of guest k: one at most, at the first of them
abbrev pub changes_in : ℕ → ℕ → Option ℕ → ℕ
changes_in k zero current = 0
changes_in k (suc n) current = change_to k current

-- the counts after turns, so many of them direct, with so many changes of guest
pub record CountsTurns (turns direct changes : ℕ) (old new : Counts) : Type 0 where
  pub steps : new.steps ≡ raised_by turns old.steps
  pub untrapped : new.untrapped ≡ raised_by direct old.untrapped
  pub loads : new.loads ≡ raised_by (changes + (turns - direct)) old.loads
  pub pokes : RisesWithin 0 (8 * (turns - direct)) old.pokes new.pokes

-- n turns of guest k, from a hardware and guests that stand to a hardware and guests that stand
pub record Turned (d : Desc) (k n : ℕ) (old new : Machinery) (old_guests new_guests : List Guest) (old_current new_current : Option ℕ) : Type 0 where
  pub guest : Guest
  pub is_guest : slice_get old_guests k ≡ Some guest
  -- the guest's state is n steps on, and no other guest's has changed
  pub states : virtuals new.state.cells new_guests ≡ moved d k n (virtuals old.state.cells old_guests)
  pub grants : grants_of new_guests ≡ grants_of old_guests
  pub current : new_current ≡ current_after k n old_current
  -- no cell outside the grant and cell 0 changes
  pub storage : new.state.cells ≡ storage_after d guest.base n (virtual old.state.cells guest) old.state.cells
  pub psw : new.state.psw ≡ psw_after d guest n (virtual old.state.cells guest) old.state.psw
  pub tally : CountsTurns n (direct_among d guest.base n (virtual old.state.cells guest)) (changes_in k n old_current) old.tally new.tally
  pub bottom : BottomTurns n (direct_among d guest.base n (virtual old.state.cells guest)) old.bottom new.bottom
