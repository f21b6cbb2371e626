-- Runs of images that end, and what is told of them.
use Rattle.std.specs.Prelude.{◌≡◌, ℕ, suc, ◌+◌, ◌-◌, ◌*◌, ◌<◌, ◌≤◌, ◌^◌, List, [], ◌∷◌, ◌++◌, All, codes, length, map, Option, None, Some, slice_get, slice_index}
use Rattle.std.specs.Fmt.{decimal}
use Rattle.pg_ast.specs.declared.tree.Desc.{Desc}
use Rattle.pg_word.specs.Psw.{new_psw_cell, old_psw_cell, packed, power_on_psw}
use Rattle.pg_lang_meaning.specs.States.{State}
use Rattle.pg_lang_meaning.specs.Steps.{steps}
use Rattle.pg_hw.specs.Machinery.{Machinery}
use Rattle.pg_alloc.specs.Fit.{kept_cells}
use Rattle.pg_mon_control.specs.Counting.{BottomTurns}
use Rattle.pg_mon_control.specs.Plans.{turns_of, IsOutside}
use Rattle.pg_monitor.specs.Plans.{cell_behind, changes_of, direct_of, psw_behind}
use Rattle.pg_report.specs.Runs.{steps_line}
use Rattle.pg_run_guests.specs.Runs.{GuestRun, cells_in, granted, guests_of}
use Rattle.pg_run_guests.specs.Setting.{HaveRoom}
use Rattle.pg_run_still.specs.declared.rounds.Rest.{Rest}
use Rattle.pg_run_still.specs.declared.view.View.{View}
use Rattle.pg_run_still.specs.Rounds.{rounds_until}
use Rattle.pg_run_still.specs.Resting.{AreRests, firsts}
use Rattle.pg_run_still.specs.Views.{guest_text}

-- ---- runs that there can be

-- states that find room, a slice of a turn or more, few guests, and turns that can be counted
pub record CanGo (r : GuestRun) : Type 0 where
  pub states : HaveRoom r.desc r.first r.states
  pub some : 1 ≤ r.slice
  pub few : length r.states ≤ 8
  pub most : r.steps ≤ 2 ^ 60
  pub counted : length r.states * r.steps ≤ 2 ^ 60

-- ---- what is reached

-- the steps that are told of a guest: those behind which it was first still, or else all that it had
abbrev pub steps_of_rest : ℕ → Option ℕ → ℕ
steps_of_rest turns None = turns
steps_of_rest turns (Some n) = n

abbrev pub steps_told : Rest → ℕ
steps_told rest = steps_of_rest rest.turns rest.still

-- the states that machines of their own reach from these in the steps that are told of each
abbrev pub rested : Desc → List State → List Rest → List State
rested d [] rests = []
rested d (s ∷ ss) [] = []
rested d (s ∷ ss) (rest ∷ rests) = steps d (steps_told rest) s ∷ rested d ss rests

-- the turns of all of them, in order, in so many rounds
abbrev pub plan_until : GuestRun → List Rest → ℕ → List (ℕ × ℕ)
plan_until r rests rounds = rounds_until r.slice r.steps (firsts rests) rounds

-- a hardware on which guests ran under a monitor, each until it was still or had all its turns: the grants hold the storages that bare
-- machines reach in the steps that are told; each direct step was executed by the hardware, untrapped; and what else its storage and
-- its program status word hold is what the monitor's turns leave there
pub record RanStill (r : GuestRun) (rests : List Rest) (rounds : ℕ) (old new : Machinery) : Type 0 where
  pub count : length rests ≡ length r.states
  pub each : AreRests r.desc r.slice r.steps r.states rests
  pub enough : All (λ rest. rest.turns ≤ rounds * r.slice) rests
  pub size : length new.state.cells ≡ r.desc.size
  pub control : slice_get new.state.cells new_psw_cell ≡ Some (packed r.desc.address (power_on_psw r.desc.size))
  pub grants : granted (guests_of r) new.state.cells ≡ map (λ s. s.cells) (rested r.desc r.states rests)
  pub cell_0 : slice_index new.state.cells old_psw_cell ≡ cell_behind r.desc (guests_of r) (plan_until r rests rounds) r.states 0
  pub outside : (at : ℕ) → kept_cells ≤ at → at < r.desc.size → IsOutside (guests_of r) at → slice_get new.state.cells at ≡ Some 0
  pub psw : new.state.psw ≡ psw_behind r.desc (guests_of r) (plan_until r rests rounds) r.states (power_on_psw r.desc.size)
  pub steps : new.tally.steps ≡ old.tally.steps + turns_of (plan_until r rests rounds)
  pub untrapped : new.tally.untrapped ≡ old.tally.untrapped + direct_of r.desc (guests_of r) (plan_until r rests rounds) r.states
  pub pokes_least : old.tally.pokes + (1 + cells_in r.states) ≤ new.tally.pokes
  pub pokes_most : new.tally.pokes ≤ old.tally.pokes + (1 + cells_in r.states)
      + 8 * (turns_of (plan_until r rests rounds) - direct_of r.desc (guests_of r) (plan_until r rests rounds) r.states)
  pub loads : new.tally.loads ≡ old.tally.loads
      + (changes_of (plan_until r rests rounds) None + (turns_of (plan_until r rests rounds) - direct_of r.desc (guests_of r) (plan_until r rests rounds) r.states))
  pub bottom : BottomTurns (turns_of (plan_until r rests rounds)) (direct_of r.desc (guests_of r) (plan_until r rests rounds) r.states) old.bottom new.bottom

-- ---- what is told

abbrev pub rest_said : ℕ → Option ℕ → List ℕ
rest_said turns None = codes "after " ++ decimal turns ++ codes " steps" ++ 10 ∷ []
rest_said turns (Some n) = codes "still after " ++ decimal n ++ codes " steps" ++ 10 ∷ []

-- the lines before what is told of a guest's cells: its number, and behind how many steps it is still, or how many it had
unfoldable pub head_text : ℕ → Rest → List ℕ
head_text k rest = codes "guest " ++ decimal k ++ 10 ∷ [] ++ (rest_said rest.turns rest.still)

-- guests from number k on, each with what is told of it, and what the views show of its state, or all of that
abbrev pub rests_text : ℕ → List View → ℕ → List State → List Rest → List ℕ
rests_text w views k [] rests = []
rests_text w views k (s ∷ ss) [] = []
rests_text w views k (s ∷ ss) (rest ∷ rests) = head_text k rest ++ guest_text w views s ++ rests_text w views (suc k) ss rests

-- guests at these states, after so many turns in all
unfoldable pub still_text : ℕ → List View → List State → List Rest → ℕ → ℕ → List ℕ
still_text w views states rests turns direct = rests_text w views 0 states rests ++ steps_line turns direct

-- the text of a run in so many rounds
abbrev pub text_of_rest : GuestRun → List View → List Rest → ℕ → List ℕ
text_of_rest r views rests rounds = still_text r.desc.word views (rested r.desc r.states rests) rests (turns_of (plan_until r rests rounds))
    (direct_of r.desc (guests_of r) (plan_until r rests rounds) r.states)
