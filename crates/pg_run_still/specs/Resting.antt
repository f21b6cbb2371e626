-- Guests that ran until they were still, or had all their turns.
use Rattle.std.specs.Prelude.{◌≡◌, ℕ, ◌+◌, ◌*◌, ◌<◌, ◌≤◌, List, All, length, map, Option, None, Some, slice_get}
use Rattle.pg_ast.specs.declared.tree.Desc.{Desc}
use Rattle.pg_lang_meaning.specs.States.{State}
use Rattle.pg_hw.specs.Machinery.{Machinery}
use Rattle.pg_mon_control.specs.declared.guest.Guest.{Guest}
use Rattle.pg_mon_control.specs.Guests.{virtuals}
use Rattle.pg_mon_control.specs.Plans.{turns_for}
use Rattle.pg_monitor.specs.Plans.{Followed}
use Rattle.pg_monitor.specs.Schedules.{Begun}
use Rattle.pg_monitor.specs.Settling.{TellsFirst, first_of}
use Rattle.pg_run_still.specs.declared.rounds.Rest.{Rest}
use Rattle.pg_run_still.specs.Rounds.{round_behind, rounds_until, turns_until}

-- when each of these was first still
abbrev pub firsts : List Rest → List (Option ℕ)
firsts rests = map (λ rest. rest.still) rests

-- ---- what is told of a run

-- what is told of a guest that began at a state: how many turns it had, and behind how many of them it was first still
pub record IsRest (d : Desc) (slice steps : ℕ) (s : State) (rest : Rest) : Type 0 where
  pub turns : rest.turns ≡ turns_until slice steps rest.still
  pub first : TellsFirst d rest.turns s rest.still

-- of each guest
abbrev pub AreRests : Desc → ℕ → ℕ → List State → List Rest → Type 0
AreRests d slice steps ss rests = (j : ℕ) (s : State) (rest : Rest) → slice_get ss j ≡ Some s → slice_get rests j ≡ Some rest → IsRest d slice steps s rest

-- guests that ran so, from a hardware and guests to a hardware and guests: their turns are those of as many rounds as each needs
pub record RanRounds (d : Desc) (slice steps : ℕ) (old new : Machinery) (old_guests new_guests : List Guest) (old_current new_current : Option ℕ) (rests : List Rest) : Type 0 where
  pub count : length rests ≡ length old_guests
  pub each : AreRests d slice steps (virtuals old.state.cells old_guests) rests
  pub rounds : ℕ
  pub enough : All (λ rest. rest.turns ≤ rounds * slice) rests
  pub followed : Followed d (rounds_until slice steps (firsts rests) rounds) old new old_guests new_guests old_current new_current
  pub had : (j : ℕ) (rest : Rest) → slice_get rests j ≡ Some rest → turns_for j (rounds_until slice steps (firsts rests) rounds) ≡ rest.turns

-- ---- one round

-- a guest that was found still, if it was, was so behind fewer turns
abbrev pub IsBefore : ℕ → Option ℕ → Type 0
IsBefore done None = Unit {0}
IsBefore done (Some n) = n < done

abbrev pub AreBefore : ℕ → List Rest → Type 0
AreBefore done rests = All (λ rest. IsBefore done rest.still) rests

-- a slice of so many turns, behind `done` turns, of a guest that is at a state
pub record HadSlice (d : Desc) (done turns : ℕ) (s : State) (after : Rest) : Type 0 where
  pub had : after.turns ≡ done + turns
  pub told : Option ℕ
  pub first : TellsFirst d turns s told
  pub still : after.still ≡ first_of None done told

-- what is told of a guest behind the slice that it had, or had not since it was found still
abbrev pub AfterSlice_of : Desc → ℕ → ℕ → State → Rest → Rest → Option ℕ → Type 0
AfterSlice_of d done turns s before after None = HadSlice d done turns s after
AfterSlice_of d done turns s before after (Some n) = after ≡ before

abbrev pub AfterSlice : Desc → ℕ → ℕ → State → Rest → Rest → Type 0
AfterSlice d done turns s before after = AfterSlice_of d done turns s before after before.still

-- a round, behind `done` turns
pub record AfterRound (d : Desc) (done turns : ℕ) (old new : Machinery) (old_guests new_guests : List Guest) (old_current new_current : Option ℕ) (before after : List Rest) : Type 0 where
  pub count : length after ≡ length before
  pub begun : Begun d (round_behind done turns 0 (firsts after)) old new old_guests new_guests old_current new_current
  pub each : (j : ℕ) (s : State) (x y : Rest) → slice_get (virtuals old.state.cells old_guests) j ≡ Some s → slice_get before j ≡ Some x → slice_get after j ≡ Some y →
      AfterSlice d done turns s x y
