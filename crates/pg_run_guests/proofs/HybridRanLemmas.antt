-- What the turns of guests leave, and what is told of them.
use Rattle.std.proofs.Common.{◌≡◌, ℕ, ◌+◌, ◌*◌, ◌≤◌, List, length, map, None, slice_index, refl, sym, ◌∙◌, ap, subst, arith}
use Rattle.pg_word.specs.Psw.{power_on_psw}
use Rattle.pg_ast.specs.declared.tree.Desc.{Desc}
use Rattle.pg_lang_meaning.specs.States.{State}
use Rattle.pg_lang_meaning.specs.Steps.{steps}
use Rattle.pg_hw.specs.Tallies.{raised_by}
use Rattle.pg_hw.specs.Machinery.{Machinery}
use Rattle.pg_hw.proofs.TallyLaws.{raised_by-zero}
use Rattle.pg_mon_control.specs.Guests.{virtuals}
use Rattle.pg_mon_control.specs.Plans.{turns_of, count_of, Count}
use Rattle.pg_mon_control.specs.Schedules.{schedule, each_count}
use Rattle.pg_mon_control.specs.Standing.{Stands}
use Rattle.pg_mon_control.specs.Counting.{BottomTurns}
use Rattle.pg_mon_control.proofs.PlanLemmas.{AddsUp, count_of-most}
use Rattle.pg_mon_control.proofs.ScheduleLemmas.{turns_of-schedule, count_of-schedule}
use Rattle.pg_hybrid.specs.declared.hybrid.Hybrid.{Hybrid}
use Rattle.pg_hybrid.specs.Hybrids.{desc_of, kept_by}
use Rattle.pg_hybrid.specs.UserTurns.{user_among, hybrid_among}
use Rattle.pg_hybrid.specs.Leaving.{Left, left_of, left_behind}
use Rattle.pg_hybrid.specs.Turns.{CountsHybrid}
use Rattle.pg_hybrid.specs.Plans.{user_count, user_of, hybrid_of, HybridFollowed}
use Rattle.pg_hybrid.proofs.LeavingLemmas.{raised, raised-behind, same-left}
use Rattle.pg_hybrid.proofs.UserLemmas.{user-adds, hybrid-adds, user_among-most, hybrid_among-most}
use Rattle.pg_run_guests.specs.Runs.{GuestRun, cells_in, guests_of, plan_of, reached_by, turns_in}
use Rattle.pg_run_guests.specs.Begun.{IsBegun}
use Rattle.pg_run_guests.proofs.SettingLemmas.{granted-same, guests-length}
use Rattle.pg_run_guests.proofs.StartedLemmas.{IsLoaded, on-room, on-small, on-first, on-outside, on-psw, on-steps, on-untrapped, on-loads, on-pokes, on-bottom, begun-count, begun-states, begun-reached}
use Rattle.pg_run_guests.specs.declared.hybrid_running.HybridRan.{HybridRan}
use Rattle.pg_run_guests.specs.UnderHybrid.{RanHybrid, user_turns_of, hybrid_direct_of, left_in}
use Rattle.pg_run_guests.specs.HaveRunHybrid.{HaveRunHybrid}

-- ---- what is counted of a run

-- of its plan as much as of each guest's own steps
run-counts : (r : GuestRun) (c : Count) → AddsUp r.desc c → count_of r.desc c (guests_of r) (plan_of r) r.states ≡ each_count c (guests_of r) r.steps r.states
run-counts r c adds =
    ap (λ k. count_of r.desc c (guests_of r) (schedule k r.slice r.steps) r.states) (sym (guests-length r.first r.states))
    ∙ count_of-schedule r.desc c adds (guests_of r) r.slice r.steps r.states

run-turns : (r : GuestRun) → turns_of (plan_of r) ≡ turns_in r
run-turns r = turns_of-schedule (length r.states) r.slice r.steps

-- and no more than there are turns
run-most : (r : GuestRun) (c : Count) → AddsUp r.desc c → ((base n : ℕ) (s : State) → c base n s ≤ n) → each_count c (guests_of r) r.steps r.states ≤ turns_in r
run-most r c adds most =
    (let few = count_of-most r.desc c (guests_of r) (plan_of r) r.states most in let e = run-counts r c adds in let f = run-turns r in omega (arith, few, e, f))

-- ---- what is left

module _ (r : GuestRun) (old on new : Machinery) (before : Hybrid) (ran : HybridRan) where
  abbrev d : Desc
  d = r.desc

  abbrev after : Hybrid
  after = ran.hybrid

  -- what is known of guests that ran
  pub record IsRun : Type 0 where
    pub loaded : IsLoaded r old on
    pub desc : desc_of before ≡ d
    pub begun : IsBegun r.first r.states (kept_by before) on
    pub stands : Stands (desc_of before) new.state after.guests after.current
    -- the slice and the turns that they had
    pub each : ℕ
    pub had : ℕ
    pub states : virtuals new.state.cells after.guests ≡ map (steps (desc_of before) had) (virtuals on.state.cells before.guests)
    pub followed : HybridFollowed (desc_of before) (schedule (length before.guests) each had) on new before.guests after.guests before.current after.current
    pub of_slice : each ≡ r.slice
    pub of_turns : had ≡ r.steps
    pub machine : desc_of after ≡ desc_of before
    pub turns : ran.turns ≡ length before.guests * had
    pub direct : on.tally.untrapped + ran.direct ≡ new.tally.untrapped

  module _ (h : IsRun) where
    count : length before.guests ≡ length r.states
    count = begun-count r (kept_by before) on h.begun

    as_asked : HybridFollowed (desc_of before) (schedule (length before.guests) r.slice r.steps) on new before.guests after.guests before.current after.current
    as_asked =
        subst (λ k. HybridFollowed (desc_of before) (schedule (length before.guests) k r.steps) on new before.guests after.guests before.current after.current) h.of_slice
        (subst (λ k. HybridFollowed (desc_of before) (schedule (length before.guests) h.each k) on new before.guests after.guests before.current after.current) h.of_turns h.followed)

    followed : HybridFollowed d (plan_of r) on new (guests_of r) after.guests None after.current
    followed =
        subst (λ e. HybridFollowed e (plan_of r) on new (guests_of r) after.guests None after.current) h.desc
        (subst (λ k. HybridFollowed (desc_of before) (schedule k r.slice r.steps) on new (guests_of r) after.guests None after.current) count
        (subst (λ o. HybridFollowed (desc_of before) (schedule (length before.guests) r.slice r.steps) on new (guests_of r) after.guests o after.current) h.begun.current
        (subst (λ gs. HybridFollowed (desc_of before) (schedule (length before.guests) r.slice r.steps) on new gs after.guests before.current after.current) h.begun.guests as_asked)))

    first : virtuals on.state.cells (guests_of r) ≡ r.states
    first = begun-states r (kept_by before) on h.begun

    users : user_of d (guests_of r) (plan_of r) (virtuals on.state.cells (guests_of r)) ≡ user_turns_of r
    users = ap (user_of d (guests_of r) (plan_of r)) first ∙ run-counts r (user_count d) (user-adds d)

    direct : hybrid_of d (guests_of r) (plan_of r) (virtuals on.state.cells (guests_of r)) ≡ hybrid_direct_of r
    direct = ap (hybrid_of d (guests_of r) (plan_of r)) first ∙ run-counts r (hybrid_among d) (hybrid-adds d)

    users-most : user_turns_of r ≤ turns_in r
    users-most = run-most r (user_count d) (user-adds d) (λ base n s. user_among-most d n s)

    direct-most : hybrid_direct_of r ≤ turns_in r
    direct-most = run-most r (hybrid_among d) (hybrid-adds d) (λ base n s. hybrid_among-most d base n s)

    tally : CountsHybrid (turns_in r) (user_turns_of r) (hybrid_direct_of r) on.tally new.tally
    tally =
        subst (λ k. CountsHybrid k (user_turns_of r) (hybrid_direct_of r) on.tally new.tally) (run-turns r)
        (subst (λ k. CountsHybrid (turns_of (plan_of r)) k (hybrid_direct_of r) on.tally new.tally) users
        (subst (λ k. CountsHybrid (turns_of (plan_of r)) (user_of d (guests_of r) (plan_of r) (virtuals on.state.cells (guests_of r))) k on.tally new.tally) direct followed.tally))

    bottom : BottomTurns (user_turns_of r) (hybrid_direct_of r) on.bottom new.bottom
    bottom =
        subst (λ k. BottomTurns k (hybrid_direct_of r) on.bottom new.bottom) users
        (subst (λ k. BottomTurns (user_of d (guests_of r) (plan_of r) (virtuals on.state.cells (guests_of r))) k on.bottom new.bottom) direct followed.bottom)

    -- beside the guests: as from a hardware that was switched on, but for the loads before
    left : left_of new after.current ≡ raised old.tally.loads (left_in r)
    left =
        followed.left
        ∙ ap (λ ss. left_behind d (guests_of r) (plan_of r) ss (left_of on None)) first
        ∙ ap (left_behind d (guests_of r) (plan_of r) r.states) begins
        ∙ raised-behind d (guests_of r) (plan_of r) r.states old.tally.loads (record { current = None; loads = 0; cell_0 = 0; psw = power_on_psw d.size })
      where
        begins : left_of on None ≡ raised old.tally.loads (record { current = None; loads = 0; cell_0 = 0; psw = power_on_psw d.size })
        begins = same-left None None on.tally.loads (raised_by 0 old.tally.loads) (slice_index on.state.cells 0) 0 on.state.psw (power_on_psw d.size)
            refl (on-loads r old on h.loaded ∙ sym (raised_by-zero old.tally.loads)) (on-first r old on h.loaded) (on-psw r old on h.loaded)

    run-states : virtuals new.state.cells after.guests ≡ reached_by r
    run-states = begun-reached r (kept_by before) on new after.guests h.had h.desc h.begun h.of_turns h.states

    run-stands : Stands d new.state after.guests after.current
    run-stands = subst (λ e. Stands e new.state after.guests after.current) h.desc h.stands

    run-untrapped : new.tally.untrapped ≡ on.tally.untrapped + hybrid_direct_of r
    run-untrapped =
        (let counted = tally.untrapped in let was = on-untrapped r old on h.loaded in let can = h.loaded.can_count.untrapped in let most = direct-most in let few = h.loaded.can_run.counted in
        counted ∙ omega (arith, was, can, most, few))

    pub run-left : RanHybrid r old new
    run-left = record {
      size = run-stands.stands.size;
      control = run-stands.stands.control;
      grants = granted-same new.state.cells (guests_of r) after.guests followed.grants ∙ ap (map (λ (s : State). s.cells)) run-states;
      cell_0 = ap (λ (x : Left). x.cell_0) left;
      outside = λ at some within out. followed.outside at (omega (arith, some)) out ∙ on-outside r old on h.loaded at some within out;
      psw = ap (λ (x : Left). x.psw) left;
      steps = (let counted = tally.steps in let was = on-steps r old on h.loaded in let can = h.loaded.can_count.steps in let few = h.loaded.can_run.counted in let most = users-most in
          counted ∙ omega (arith, was, can, few, most));
      untrapped = run-untrapped ∙ ap (λ k. k + hybrid_direct_of r) (on-untrapped r old on h.loaded);
      pokes_least = (let counted = tally.pokes.at_least in let was = on-pokes r old on h.loaded in let can = h.loaded.can_count.pokes in let room = on-room r old on h.loaded in
          let low = on-small r old on h.loaded in omega (arith, counted, was, can, room, low));
      pokes_most = (let counted = tally.pokes.at_most in let was = on-pokes r old on h.loaded in let can = h.loaded.can_count.pokes in let room = on-room r old on h.loaded in
          let low = on-small r old on h.loaded in let few = h.loaded.can_run.counted in let most = direct-most in omega (arith, counted, was, can, room, low, few, most));
      loads = (let counted : new.tally.loads ≡ raised_by (left_in r).loads old.tally.loads = ap (λ (x : Left). x.loads) left in
          let most = tally.loads.at_most in let was = on-loads r old on h.loaded in let can = h.loaded.can_count.loads in let few = h.loaded.can_run.counted in let users = users-most in
          omega (arith, counted, most, was, can, few, users));
      loads_most = (let counted = tally.loads.at_most in let was = on-loads r old on h.loaded in omega (arith, counted, was));
      bottom = subst (λ b. BottomTurns (user_turns_of r) (hybrid_direct_of r) b new.bottom) (on-bottom r old on h.loaded) bottom;
    }

    pub run-have : HaveRunHybrid r ran new
    run-have = record {
      machine = h.machine ∙ h.desc;
      stands = run-stands;
      states = run-states;
      current = ap (λ (x : Left). x.current) left;
      turns = h.turns ∙ ap (λ k. k * h.had) count ∙ ap (λ k. length r.states * k) h.of_turns;
      direct = (let told = h.direct in let rose = run-untrapped in omega (arith, told, rose));
    }
