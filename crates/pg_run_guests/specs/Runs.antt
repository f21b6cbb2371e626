-- Runs of guests: states that go on side by side under one control program, and what is told of them.
use Rattle.std.specs.Prelude.{ℕ, ◌+◌, ◌-◌, ◌*◌, List, [], ◌∷◌, length, map}
use Rattle.pg_ast.specs.declared.tree.Desc.{Desc}
use Rattle.pg_mach_ready.specs.declared.machine.Machine.{Machine}
use Rattle.pg_lang_meaning.specs.States.{State}
use Rattle.pg_lang_meaning.specs.Steps.{power_on, steps}
use Rattle.pg_alloc.specs.Fit.{kept_cells}
use Rattle.pg_mon_control.specs.declared.guest.Guest.{Guest}
use Rattle.pg_mon_control.specs.Guests.{guest_in}
use Rattle.pg_mon_control.specs.Schedules.{schedule, each_direct}
use Rattle.pg_report.specs.Runs.{run_text}
use Rattle.pg_report.specs.Spans.{span}
use Rattle.pg_report.specs.Summaries.{summary_text}

-- ---- what runs

-- guests that run under one control program, each in a grant of its own size, by slices, until each has had so many turns
pub record GuestRun : Type 0 where
  pub desc : Desc
  -- the base of the first grant, behind which the others lie
  pub first : ℕ
  -- in which the guests begin
  pub states : List State
  pub slice : ℕ
  pub steps : ℕ

-- how many cells states have, all together
abbrev pub cells_in : List State → ℕ
cells_in [] = 0
cells_in (s ∷ ss) = length s.cells + cells_in ss

-- guests at these states, their grants one behind the other from a base on
abbrev pub guests_from : ℕ → List State → List Guest
guests_from base [] = []
guests_from base (s ∷ ss) = guest_in base (length s.cells) s.psw ∷ guests_from (base + length s.cells) ss

abbrev pub guests_of : GuestRun → List Guest
guests_of r = guests_from r.first r.states

-- the states that machines of their own reach from these in as many steps
abbrev pub reached_by : GuestRun → List State
reached_by r = map (steps r.desc r.steps) r.states

-- the turns of all of them, in order
abbrev pub plan_of : GuestRun → List (ℕ × ℕ)
plan_of r = schedule (length r.states) r.slice r.steps

-- how many turns these are
abbrev pub turns_in : GuestRun → ℕ
turns_in r = length r.states * r.steps

-- how many of them are direct: of each guest those that are direct at the base of its grant
abbrev pub direct_turns_of : GuestRun → ℕ
direct_turns_of r = each_direct r.desc (guests_of r) r.steps r.states

-- those that are not, which a monitor interprets
abbrev pub emulated_turns : GuestRun → ℕ
emulated_turns r = turns_in r - direct_turns_of r

-- ---- images

-- the states in which images are switched on, each in a storage of its own size
abbrev pub switched_on : List (List ℕ) → List State
switched_on images = map (λ image. power_on image (length image)) images

-- the run of images on a machine, whose grants begin behind the cells that a control program keeps
abbrev pub run_of : Machine → List (List ℕ) → ℕ → ℕ → GuestRun
run_of machine images slice steps = record { desc = machine.desc; first = kept_cells; states = switched_on images; slice = slice; steps = steps }

-- ---- what is told

-- its text: the states that were reached, and the counts of turns
abbrev pub text_of : GuestRun → List ℕ
text_of r = run_text r.desc.word (reached_by r) (turns_in r) (direct_turns_of r)

-- its summary: the counts of turns, and a line for each state that was reached
abbrev pub summary_of_run : GuestRun → List ℕ
summary_of_run r = summary_text r.desc.word (reached_by r) (turns_in r) (direct_turns_of r)

-- the cells of grants
abbrev pub granted : List Guest → List ℕ → List (List ℕ)
granted gs cells = map (λ g. span g.base g.size cells) gs
