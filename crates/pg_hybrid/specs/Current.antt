-- Turns of the guest that is at work: what is interpreted, and what the hardware steps.
use Rattle.std.specs.Prelude.{◌≡◌, ℕ, Bool, true, Some, slice_index}
use Rattle.std.specs.Bool.{then_some}
use Rattle.pg_word.specs.Psw.{old_psw_cell}
use Rattle.pg_ast.specs.declared.tree.Desc.{Desc}
use Rattle.pg_lang_meaning.specs.States.{State}
use Rattle.pg_lang_meaning.specs.Steps.{step, steps}
use Rattle.pg_hw.specs.Machinery.{Machinery}
use Rattle.pg_routine.specs.Granting.{PokedWithin}
use Rattle.pg_mon_control.specs.declared.guest.Guest.{Guest}
use Rattle.pg_mon_control.specs.Guests.{virtual}
use Rattle.pg_mon_control.specs.Advancing.{Advanced}
use Rattle.pg_mon_control.specs.Counting.{BottomTurns}
use Rattle.pg_mon_control.specs.Current.{Runs}
use Rattle.pg_mon_control.specs.Direct.{is_direct}
use Rattle.pg_hybrid.specs.UserTurns.{user_among, hybrid_among}
use Rattle.pg_hybrid.specs.Leaving.{left_of, left_among}
use Rattle.pg_hybrid.specs.Turns.{CountsHybrid}

-- a turn that was interpreted: the hardware has made no step, and its PSW is as it was
pub record Interpreted (d : Desc) (old new : Machinery) (g h : Guest) : Type 0 where
  pub advanced : Advanced d 1 old.state new.state g h
  pub psw : new.state.psw ≡ old.state.psw
  pub cell_0 : slice_index new.state.cells old_psw_cell ≡ slice_index old.state.cells old_psw_cell
  pub tally : PokedWithin 8 old.tally new.tally
  pub bottom : new.bottom ≡ old.bottom

-- n turns from user mode of the guest that the hardware runs, of which the last one may have trapped
pub record Stepped (d : Desc) (n : ℕ) (goes_on : Bool) (old new : Machinery) (g h : Guest) : Type 0 where
  pub advanced : Advanced d n old.state new.state g h
  -- the hardware runs the guest still
  pub runs : goes_on ≡ true → Runs d new.state h
  -- it has made as many steps, which left its mode and R
  pub went_on : goes_on ≡ true → new.state ≡ steps d n old.state
  pub kept : goes_on ≡ true → new.state.psw ≡ record old.state.psw { p = new.state.psw.p }
  pub once : n ≡ 1 → is_direct d g.base (virtual old.state.cells g) ≡ goes_on
  pub tally : CountsHybrid n (user_among d n (virtual old.state.cells g)) (hybrid_among d g.base n (virtual old.state.cells g)) old.tally new.tally
  pub loads : new.tally.loads ≡ old.tally.loads
  pub users : user_among d n (virtual old.state.cells g) ≡ n
  pub left : (k : ℕ) → left_of new (then_some goes_on k) ≡ left_among d k g.base n (virtual old.state.cells g) (left_of old (Some k))
  pub bottom : BottomTurns (user_among d n (virtual old.state.cells g)) (hybrid_among d g.base n (virtual old.state.cells g)) old.bottom new.bottom

-- a direct turn of the current guest: the hardware's state is one *Step* on, and its mode and R are as they were
pub record SteppedOnce (d : Desc) (old new : State) : Type 0 where
  pub state : new ≡ step d old
  pub kept : new.psw ≡ record old.psw { p = new.psw.p }
