-- What the turns of guests leave, and what is told of them.
use Rattle.std.proofs.Common.{◌≡◌, ℕ, zero, suc, ◌+◌, ◌*◌, ◌^◌, ◌<◌, ◌≤◌, Bool, true, false, ◌==◌, if◌then◌else◌, List, [], ◌∷◌, length, map, Option, None, Some, slice_get, slice_index, sym, ◌∙◌, ap, subst, arith}
use Rattle.pg_word.specs.Psw.{packed, power_on_psw}
use Rattle.pg_ast.specs.declared.tree.Desc.{Desc}
use Rattle.pg_run_guests.specs.UnderMonitor.{RanGuests}
use Rattle.pg_lang_meaning.specs.States.{State}
use Rattle.pg_lang_meaning.specs.Steps.{steps}
use Rattle.pg_hw.specs.Machinery.{Machinery}
use Rattle.pg_monitor.specs.declared.monitor.Monitor.{Monitor}
use Rattle.pg_mon_control.specs.Guests.{virtuals}
use Rattle.pg_monitor.specs.Monitors.{desc_of, kept_by}
use Rattle.pg_mon_control.specs.Plans.{turns_of, IsOutside}
use Rattle.pg_monitor.specs.Plans.{direct_of, cell_behind, psw_behind, changes_of, Followed}
use Rattle.pg_mon_control.specs.Schedules.{schedule}
use Rattle.pg_mon_control.specs.Standing.{Stands}
use Rattle.pg_mon_control.specs.Current.{change_to}
use Rattle.pg_mon_control.specs.Counting.{BottomTurns}
use Rattle.pg_monitor.specs.Turns.{changes_in, current_after, CountsTurns}
use Rattle.pg_mon_control.proofs.PlanLemmas.{count_of-most}
use Rattle.pg_mon_control.proofs.CountLemmas.{direct_among-most, direct-adds}
use Rattle.pg_mon_control.specs.Direct.{direct_among}
use Rattle.pg_mon_control.proofs.ScheduleLemmas.{turns_of-schedule, count_of-schedule}
use Rattle.pg_run_guests.specs.declared.running.Ran.{Ran}
use Rattle.pg_run_guests.specs.Begun.{IsBegun}
use Rattle.pg_run_guests.specs.HaveRun.{HaveRun}
use Rattle.pg_run_guests.proofs.StartedLemmas.{IsLoaded, on-room, on-small, on-first, on-outside, on-psw, on-steps, on-untrapped, on-loads, on-pokes, on-bottom, begun-count, begun-states, begun-reached}
use Rattle.pg_run_guests.proofs.SettingLemmas.{granted-same, guests-length}
use Rattle.pg_run_guests.specs.Runs.{GuestRun, cells_in, direct_turns_of, guests_of, plan_of, reached_by, turns_in}

-- ---- changes of guest

change-most : (k : ℕ) (c : Option ℕ) → change_to k c ≤ 1
change-most k None = omega arith
change-most k (Some j) = by_test (j == k)
  where
    by_test : (b : Bool) → (if b then 0 else 1) ≤ 1
    by_test true = omega arith
    by_test false = omega arith

changes_in-most : (k n : ℕ) (c : Option ℕ) → changes_in k n c ≤ n
changes_in-most k zero c = omega arith
changes_in-most k (suc n) c = (let one = change-most k c in omega (arith, one))

pub changes-most : (plan : List (ℕ × ℕ)) (c : Option ℕ) → changes_of plan c ≤ turns_of plan
changes-most [] c = omega arith
changes-most (turn ∷ plan) c = omega (arith, changes_in-most turn.0 turn.1 c, changes-most plan (current_after turn.0 turn.1 c))

-- ---- what is left

module _ (r : GuestRun) (old on new : Machinery) (before : Monitor) (ran : Ran) where
  abbrev d : Desc
  d = r.desc

  abbrev after : Monitor
  after = ran.monitor

  -- what is known of guests that ran
  pub record IsRun : Type 0 where
    pub loaded : IsLoaded r old on
    pub desc : desc_of before ≡ d
    pub begun : IsBegun r.first r.states (kept_by before) on
    pub stands : Stands (desc_of before) new.state after.guests after.current
    -- the slice and the turns that they had
    pub each : ℕ
    pub had : ℕ
    pub states : virtuals new.state.cells after.guests ≡ map (steps (desc_of before) had) (virtuals on.state.cells before.guests)
    pub followed : Followed (desc_of before) (schedule (length before.guests) each had) on new before.guests after.guests before.current after.current
    pub of_slice : each ≡ r.slice
    pub of_turns : had ≡ r.steps
    pub machine : desc_of after ≡ desc_of before
    pub turns : ran.turns ≡ length before.guests * had
    pub direct : on.tally.untrapped + ran.direct ≡ new.tally.untrapped

  module _ (h : IsRun) where
    count : length before.guests ≡ length r.states
    count = begun-count r (kept_by before) on h.begun

    as_asked : Followed (desc_of before) (schedule (length before.guests) r.slice r.steps) on new before.guests after.guests before.current after.current
    as_asked =
        subst (λ k. Followed (desc_of before) (schedule (length before.guests) k r.steps) on new before.guests after.guests before.current after.current) h.of_slice
        (subst (λ k. Followed (desc_of before) (schedule (length before.guests) h.each k) on new before.guests after.guests before.current after.current) h.of_turns h.followed)

    followed : Followed d (plan_of r) on new (guests_of r) after.guests None after.current
    followed =
        subst (λ e. Followed e (plan_of r) on new (guests_of r) after.guests None after.current) h.desc
        (subst (λ k. Followed (desc_of before) (schedule k r.slice r.steps) on new (guests_of r) after.guests None after.current) count
        (subst (λ o. Followed (desc_of before) (schedule (length before.guests) r.slice r.steps) on new (guests_of r) after.guests o after.current) h.begun.current
        (subst (λ gs. Followed (desc_of before) (schedule (length before.guests) r.slice r.steps) on new gs after.guests before.current after.current) h.begun.guests as_asked)))

    first : virtuals on.state.cells (guests_of r) ≡ r.states
    first = begun-states r (kept_by before) on h.begun

    direct : direct_of d (guests_of r) (plan_of r) (virtuals on.state.cells (guests_of r)) ≡ direct_turns_of r
    direct =
        ap (direct_of d (guests_of r) (plan_of r)) first
        ∙ ap (λ k. direct_of d (guests_of r) (schedule k r.slice r.steps) r.states) (sym (guests-length r.first r.states))
        ∙ count_of-schedule d (direct_among d) (direct-adds d) (guests_of r) r.slice r.steps r.states

    turns : turns_of (plan_of r) ≡ turns_in r
    turns = turns_of-schedule (length r.states) r.slice r.steps

    direct-most : direct_turns_of r ≤ turns_in r
    direct-most = (let most = count_of-most d (direct_among d) (guests_of r) (plan_of r) (virtuals on.state.cells (guests_of r)) (direct_among-most d) in let e = direct in let f = turns in omega (arith, most, e, f))

    changes : changes_of (plan_of r) None ≤ turns_in r
    changes = (let most = changes-most (plan_of r) None in let f = turns in omega (arith, most, f))

    tally : CountsTurns (turns_in r) (direct_turns_of r) (changes_of (plan_of r) None) on.tally new.tally
    tally =
        subst (λ k. CountsTurns k (direct_turns_of r) (changes_of (plan_of r) None) on.tally new.tally) turns
        (subst (λ k. CountsTurns (turns_of (plan_of r)) k (changes_of (plan_of r) None) on.tally new.tally) direct followed.tally)

    bottom : BottomTurns (turns_in r) (direct_turns_of r) on.bottom new.bottom
    bottom =
        subst (λ k. BottomTurns k (direct_turns_of r) on.bottom new.bottom) turns
        (subst (λ k. BottomTurns (turns_of (plan_of r)) k on.bottom new.bottom) direct followed.bottom)

    run-states : virtuals new.state.cells after.guests ≡ reached_by r
    run-states = begun-reached r (kept_by before) on new after.guests h.had h.desc h.begun h.of_turns h.states

    run-stands : Stands d new.state after.guests after.current
    run-stands = subst (λ e. Stands e new.state after.guests after.current) h.desc h.stands

    run-untrapped : new.tally.untrapped ≡ on.tally.untrapped + direct_turns_of r
    run-untrapped =
        (let counted = tally.untrapped in let was = on-untrapped r old on h.loaded in let can = h.loaded.can_count.untrapped in let most = direct-most in let few = h.loaded.can_run.counted in
        counted ∙ omega (arith, was, can, most, few))

    pub run-left : RanGuests r old new
    run-left = record {
      size = run-stands.stands.size;
      control = run-stands.stands.control;
      grants = granted-same new.state.cells (guests_of r) after.guests followed.grants ∙ ap (map (λ (s : State). s.cells)) run-states;
      cell_0 = followed.cell_0
          ∙ ap (λ ss. cell_behind d (guests_of r) (plan_of r) ss (slice_index on.state.cells 0)) first
          ∙ ap (cell_behind d (guests_of r) (plan_of r) r.states) (on-first r old on h.loaded);
      outside = λ at some within out. followed.outside at (omega (arith, some)) out ∙ on-outside r old on h.loaded at some within out;
      psw = followed.psw ∙ ap (λ ss. psw_behind d (guests_of r) (plan_of r) ss on.state.psw) first ∙ ap (psw_behind d (guests_of r) (plan_of r) r.states) (on-psw r old on h.loaded);
      steps = (let counted = tally.steps in let was = on-steps r old on h.loaded in let can = h.loaded.can_count.steps in let few = h.loaded.can_run.counted in counted ∙ omega (arith, was, can, few));
      untrapped = run-untrapped ∙ ap (λ k. k + direct_turns_of r) (on-untrapped r old on h.loaded);
      pokes_least = (let counted = tally.pokes.at_least in let was = on-pokes r old on h.loaded in let can = h.loaded.can_count.pokes in let room = on-room r old on h.loaded in let low = on-small r old on h.loaded in omega (arith, counted, was, can, room, low));
      pokes_most = (let counted = tally.pokes.at_most in let was = on-pokes r old on h.loaded in let can = h.loaded.can_count.pokes in let room = on-room r old on h.loaded in let low = on-small r old on h.loaded in let few = h.loaded.can_run.counted in let most = direct-most in
          omega (arith, counted, was, can, room, low, few, most));
      loads = (let counted = tally.loads in let was = on-loads r old on h.loaded in let can = h.loaded.can_count.loads in let few = h.loaded.can_run.counted in let most = direct-most in let change = changes in
          counted ∙ omega (arith, was, can, few, most, change));
      bottom = subst (λ b. BottomTurns (turns_in r) (direct_turns_of r) b new.bottom) (on-bottom r old on h.loaded) bottom;
    }

    pub run-have : HaveRun r ran new
    run-have = record {
      machine = h.machine ∙ h.desc;
      stands = run-stands;
      states = run-states;
      turns = h.turns ∙ ap (λ k. k * h.had) count ∙ ap (λ k. length r.states * k) h.of_turns;
      direct = (let told = h.direct in let rose = run-untrapped in omega (arith, told, rose));
    }
