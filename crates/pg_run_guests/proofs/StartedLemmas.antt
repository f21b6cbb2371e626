-- What a hardware holds into which the states of a run were loaded, and what the guests then are.
use Rattle.std.proofs.Common.{◌≡◌, ℕ, ◌+◌, ◌^◌, ◌<◌, ◌≤◌, List, length, map, Some, slice_get, slice_index, sym, ◌∙◌, ap, arith}
use Rattle.pg_word.specs.Psw.{packed, power_on_psw}
use Rattle.pg_ast.specs.declared.tree.Desc.{Desc}
use Rattle.pg_lang_valid.specs.Valid.{IsValid}
use Rattle.pg_lang_meaning.specs.States.{State}
use Rattle.pg_lang_meaning.specs.Steps.{steps}
use Rattle.pg_hw.specs.Machinery.{Machinery}
use Rattle.pg_mon_control.specs.declared.guest.Guest.{Guest}
use Rattle.pg_mon_control.specs.Admitting.{Kept}
use Rattle.pg_mon_control.specs.Counting.{CanCount}
use Rattle.pg_mon_control.specs.Guests.{virtuals}
use Rattle.pg_mon_control.specs.Plans.{IsOutside}
use Rattle.pg_run_guests.specs.Runs.{GuestRun, cells_in, guests_of, reached_by}
use Rattle.pg_run_guests.specs.Setting.{CanRun, loaded_for, taken_for}
use Rattle.pg_run_guests.specs.Begun.{IsBegun}
use Rattle.pg_run_guests.proofs.FromLemmas.{loaded-psw, loaded-before, loaded-outside, loaded-steps, loaded-untrapped, loaded-loads, loaded-bottom, loaded-pokes}
use Rattle.pg_run_guests.proofs.SettingLemmas.{blank-first, blank-length, blank-psw, blank-zero, guests-length, size-small}

-- a hardware that was set up has counted no step
pub loaded-few : (r : GuestRun) (old on : Machinery) → CanCount old.tally → on ≡ loaded_for r.desc r.first r.states old → on.tally.untrapped < 2 ^ 63
loaded-few r old on can made =
    let same = ap (λ (m : Machinery). m.tally.untrapped) made ∙ loaded-untrapped r.first r.states (taken_for r.desc old) in
    let few = can.untrapped in
    omega (arith, same, few)

module _ (r : GuestRun) (old on : Machinery) where
  abbrev d : Desc
  d = r.desc

  -- what is known of a hardware into which the states of a run were loaded
  pub record IsLoaded : Type 0 where
    pub can_run : CanRun r
    pub can_count : CanCount old.tally
    pub valid : IsValid d
    pub made : on ≡ loaded_for d r.first r.states old

  module _ (h : IsLoaded) where
    -- its cells are few beside what can be counted
    pub on-small : d.size < 2 ^ 32
    on-small = size-small d h.valid

    pub on-room : r.first + cells_in r.states ≤ d.size
    on-room = h.can_run.states.room

    above : 2 ≤ r.first
    above = h.can_run.states.above

    held : length (taken_for d old).state.cells ≡ d.size
    held = blank-length d.size (packed d.address (power_on_psw d.size))

    pub on-first : slice_index on.state.cells 0 ≡ 0
    on-first =
        ap (λ (m : Machinery). slice_index m.state.cells 0) h.made
        ∙ loaded-before r.first r.states (taken_for d old) 0 (let low = above in omega (arith, low)) (let room = on-room in let all = held in omega (arith, room, all))
        ∙ blank-first d.size (packed d.address (power_on_psw d.size)) (let room = on-room in let low = above in omega (arith, room, low))

    pub on-outside : (at : ℕ) → 2 ≤ at → at < d.size → IsOutside (guests_of r) at → slice_get on.state.cells at ≡ Some 0
    on-outside at some within out =
        ap (λ (m : Machinery). slice_get m.state.cells at) h.made
        ∙ loaded-outside r.first r.states (taken_for d old) at out.outside (let room = on-room in let all = held in omega (arith, room, all))
        ∙ blank-zero d.size at (packed d.address (power_on_psw d.size)) within (λ e. absurd (omega (arith, e, some)))

    pub on-psw : on.state.psw ≡ power_on_psw d.size
    on-psw = ap (λ (m : Machinery). m.state.psw) h.made ∙ loaded-psw r.first r.states (taken_for d old) ∙ blank-psw d.size

    pub on-steps : on.tally.steps ≡ old.tally.steps
    on-steps = ap (λ (m : Machinery). m.tally.steps) h.made ∙ loaded-steps r.first r.states (taken_for d old)

    pub on-untrapped : on.tally.untrapped ≡ old.tally.untrapped
    on-untrapped = ap (λ (m : Machinery). m.tally.untrapped) h.made ∙ loaded-untrapped r.first r.states (taken_for d old)

    pub on-loads : on.tally.loads ≡ old.tally.loads
    on-loads = ap (λ (m : Machinery). m.tally.loads) h.made ∙ loaded-loads r.first r.states (taken_for d old)

    pub on-bottom : on.bottom ≡ old.bottom
    on-bottom = ap (λ (m : Machinery). m.bottom) h.made ∙ loaded-bottom r.first r.states (taken_for d old)

    pub on-pokes : on.tally.pokes ≡ old.tally.pokes + (1 + cells_in r.states)
    on-pokes =
        let can = h.can_count.pokes in
        let room = on-room in
        let few = on-small in
        let one : (taken_for d old).tally.pokes ≡ old.tally.pokes + 1 = omega (arith, can) in
        ap (λ (m : Machinery). m.tally.pokes) h.made ∙ loaded-pokes r.first r.states (taken_for d old) (omega (arith, one, can, room, few)) ∙ omega (arith, one)

-- ---- the guests of a run

-- there are as many as states
pub begun-count : (r : GuestRun) (k : Kept) (on : Machinery) → IsBegun r.first r.states k on → length k.guests ≡ length r.states
begun-count r k on begun = ap length begun.guests ∙ guests-length r.first r.states

-- they begin in these
pub begun-states : (r : GuestRun) (k : Kept) (on : Machinery) → IsBegun r.first r.states k on → virtuals on.state.cells (guests_of r) ≡ r.states
begun-states r k on begun = ap (virtuals on.state.cells) (sym begun.guests) ∙ begun.states

-- and go on to those that the run reaches
pub begun-reached : (r : GuestRun) (k : Kept) (on new : Machinery) (gs : List Guest) (had : ℕ) → k.machine.desc ≡ r.desc → IsBegun r.first r.states k on → had ≡ r.steps →
    virtuals new.state.cells gs ≡ map (steps k.machine.desc had) (virtuals on.state.cells k.guests) → virtuals new.state.cells gs ≡ reached_by r
begun-reached r k on new gs had desc begun turns states =
    states ∙ ap (λ n. map (steps k.machine.desc n) (virtuals on.state.cells k.guests)) turns
    ∙ ap (λ (e : Desc). map (steps e r.steps) (virtuals on.state.cells k.guests)) desc ∙ ap (map (steps r.desc r.steps)) begun.states
