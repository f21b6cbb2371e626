use Rattle.std.proofs.Common.{◌≡◌, ℕ, ◌<◌, ◌≤◌, length, take, Some, slice_get}
use Rattle.pg_lang_meaning.specs.States.{State}
use Rattle.pg_mon_control.specs.Guests.{virtuals}
use Rattle.pg_mon_control.specs.Standing.{Stands}
use Rattle.pg_monitor.specs.Schedules.{Begun}
use Rattle.pg_run_still.specs.declared.rounds.Rest.{Rest}
use Rattle.pg_run_still.specs.Rounds.{round_behind}
use Rattle.pg_run_still.specs.Resting.{AfterSlice, firsts}
use Rattle.pg_run_still.proofs.rounds.go_round.Given as goal

-- the round so far
abbrev pub invariant-loop-k : goal.invariant-loop-k
invariant-loop-k g l = record {
  machine : l.monitor.accepted.machine.now ≡ l.initial.monitor.accepted.machine.now;
  granted : l.monitor.granted ≡ l.initial.monitor.granted;
  stands : Stands l.initial.monitor.accepted.machine.now.desc (g.H.Hardware.machinery l.hw).state l.monitor.guests l.monitor.current;
  number : length l.monitor.guests ≡ length l.initial.monitor.guests;
  fixed : g.H.Hardware.fixed l.hw ≡ g.H.Hardware.fixed l.initial.hw;
  count : length l.rests ≡ length l.initial.rests;
  others : (j : ℕ) → l.k ≤ j → slice_get l.rests j ≡ slice_get l.initial.rests j;
  begun : Begun l.initial.monitor.accepted.machine.now.desc (round_behind l.done l.turns 0 (firsts (take l.k l.rests))) (g.H.Hardware.machinery l.initial.hw) (g.H.Hardware.machinery l.hw)
      l.initial.monitor.guests l.monitor.guests l.initial.monitor.current l.monitor.current;
  each : (j : ℕ) (s : State) (x y : Rest) → j < l.k → slice_get (virtuals (g.H.Hardware.machinery l.initial.hw).state.cells l.initial.monitor.guests) j ≡ Some s →
      slice_get l.initial.rests j ≡ Some x → slice_get l.rests j ≡ Some y → AfterSlice l.initial.monitor.accepted.machine.now.desc l.done l.turns s x y;
}
