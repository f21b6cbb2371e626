-- Turns of the current guest: the one that the hardware runs.
use Rattle.std.specs.Prelude.{◌≡◌, ℕ}
use Rattle.pg_ast.specs.declared.tree.Desc.{Desc}
use Rattle.pg_lang_meaning.specs.Steps.{step, steps}
use Rattle.pg_hw.specs.Tallies.{RisesWithin, raised_by}
use Rattle.pg_hw.specs.Machinery.{Machinery}
use Rattle.pg_routine.specs.Composing.{composed}
use Rattle.pg_routine.specs.Granting.{with_grant}
use Rattle.pg_mon_control.specs.declared.guest.Guest.{Guest}
use Rattle.pg_mon_control.specs.Guests.{virtual}
use Rattle.pg_mon_control.specs.Direct.{direct_among}
use Rattle.pg_mon_control.specs.Current.{Runs, with_psw}
use Rattle.pg_mon_control.specs.Counting.{BottomTurns}
use Rattle.pg_monitor.specs.Turns.{storage_after, CountsTurns}

-- a step of a guest that was interpreted, and the guest entered again
pub record Interpreted (d : Desc) (old new : Machinery) (g h : Guest) : Type 0 where
  pub cells : new.state.cells ≡ with_grant old.state.cells g.base (step d (virtual old.state.cells g)).cells
  pub under : new.state.psw ≡ composed h.psw h.base h.size
  pub guest : h ≡ with_psw g (step d (virtual old.state.cells g)).psw
  pub steps : new.tally.steps ≡ old.tally.steps
  pub untrapped : new.tally.untrapped ≡ old.tally.untrapped
  pub loads : new.tally.loads ≡ raised_by 1 old.tally.loads
  pub pokes : RisesWithin 0 8 old.tally.pokes new.tally.pokes
  pub bottom : new.bottom ≡ old.bottom

-- n turns of the current guest
pub record Went (d : Desc) (n : ℕ) (old new : Machinery) (g h : Guest) : Type 0 where
  pub runs : Runs d new.state h
  pub guest : h ≡ with_psw g (steps d n (virtual old.state.cells g)).psw
  pub state : virtual new.state.cells h ≡ steps d n (virtual old.state.cells g)
  pub storage : new.state.cells ≡ storage_after d g.base n (virtual old.state.cells g) old.state.cells
  pub tally : CountsTurns n (direct_among d g.base n (virtual old.state.cells g)) 0 old.tally new.tally
  pub bottom : BottomTurns n (direct_among d g.base n (virtual old.state.cells g)) old.bottom new.bottom
