-- What the turns of guests leave that ran until they were still.
use Rattle.std.proofs.Common.{◌≡◌, ℕ, zero, suc, ◌+◌, ◌-◌, ◌*◌, ◌^◌, ◌≤◌, Bool, true, false, min, if◌then◌else◌, List, [], ◌∷◌, length, map, Option, None, Some, slice_get, slice_index, refl, sym, ◌∙◌, ap, subst, arith}
use Rattle.std.specs.Option.{option_map}
use Rattle.std.proofs.lemmas.List.{length-map}
use Rattle.pg_ast.specs.declared.tree.Desc.{Desc}
use Rattle.pg_lang_meaning.specs.States.{State}
use Rattle.pg_lang_meaning.specs.Steps.{steps}
use Rattle.pg_lang_meaning.proofs.StepLaws.{steps-add, steps-stay}
use Rattle.pg_hw.specs.Machinery.{Machinery}
use Rattle.pg_mon_control.specs.Counting.{BottomTurns}
use Rattle.pg_mon_control.specs.Direct.{direct_among}
use Rattle.pg_mon_control.specs.Guests.{grants_of, virtual, virtuals}
use Rattle.pg_mon_control.specs.Plans.{turns_of, turns_for}
use Rattle.pg_mon_control.specs.Standing.{Stands}
use Rattle.pg_mon_control.proofs.CountLemmas.{direct_among-most}
use Rattle.pg_mon_control.proofs.PlanLemmas.{count_of-most, grants-length, turns_of-append}
use Rattle.pg_run_guests.proofs.RanLemmas.{changes-most}
use Rattle.pg_monitor.specs.declared.monitor.Monitor.{Monitor}
use Rattle.pg_monitor.specs.Monitors.{desc_of, kept_by}
use Rattle.pg_monitor.specs.Plans.{direct_of, cell_behind, psw_behind, changes_of}
use Rattle.pg_monitor.specs.Settling.{TellsFirst}
use Rattle.pg_monitor.specs.Turns.{CountsTurns}
use Rattle.pg_monitor.proofs.PlanLemmas.{Followed-own}
use Rattle.pg_run_guests.specs.Begun.{IsBegun}
use Rattle.pg_run_guests.specs.Runs.{GuestRun, guests_of}
use Rattle.pg_run_guests.specs.Setting.{CanRun}
use Rattle.pg_run_guests.proofs.StartedLemmas.{IsLoaded, on-room, on-small, on-first, on-outside, on-psw, on-steps, on-untrapped, on-loads, on-pokes, on-bottom, begun-count, begun-states}
use Rattle.pg_run_guests.proofs.SettingLemmas.{granted-same, guests-length}
use Rattle.pg_run_still.specs.declared.rounds.Rest.{Rest}
use Rattle.pg_run_still.specs.declared.running.Rested.{Rested}
use Rattle.pg_run_still.specs.Rounds.{goes_on, round_behind, rounds_until}
use Rattle.pg_run_still.specs.Resting.{AreRests, RanRounds, firsts}
use Rattle.pg_run_still.specs.Rested.{HaveRested}
use Rattle.pg_run_still.specs.Running.{CanGo, RanStill, plan_until, rested, steps_told, steps_of_rest}

-- ---- how many turns a plan has

turns_of-round : (done turns k : ℕ) (fs : List (Option ℕ)) → turns_of (round_behind done turns k fs) ≤ length fs * turns
turns_of-round done turns k [] = omega arith
turns_of-round done turns k (f ∷ fs) = by (goes_on done f) (turns_of-round done turns (suc k) fs)
  where
    by : (b : Bool) → turns_of (round_behind done turns (suc k) fs) ≤ length fs * turns →
        turns_of (if b then (k, turns) ∷ round_behind done turns (suc k) fs else round_behind done turns (suc k) fs) ≤ suc (length fs) * turns
    by true rest = (let more : suc (length fs) * turns ≡ length fs * turns + turns = grind arith in omega (arith, rest, more))
    by false rest = (let more : suc (length fs) * turns ≡ length fs * turns + turns = grind arith in omega (arith, rest, more))

turns_of-until : (slice steps_all : ℕ) (fs : List (Option ℕ)) (rounds : ℕ) → turns_of (rounds_until slice steps_all fs rounds) ≤ length fs * min (rounds * slice) steps_all
turns_of-until slice steps_all fs zero = omega arith
turns_of-until slice steps_all fs (suc r) =
    let n = min slice (steps_all - r * slice) in
    let more : suc r * slice ≡ r * slice + slice = grind arith in
    let both : min (r * slice) steps_all + n ≡ min (suc r * slice) steps_all = omega (arith, more) in
    let sum : length fs * min (r * slice) steps_all + length fs * n ≡ length fs * (min (r * slice) steps_all + n) = grind arith in
    let all : length fs * (min (r * slice) steps_all + n) ≡ length fs * min (suc r * slice) steps_all = ap (λ m. length fs * m) both in
    let before = turns_of-until slice steps_all fs r in
    let one = turns_of-round (r * slice) n 0 fs in
    let split = turns_of-append (rounds_until slice steps_all fs r) (round_behind (r * slice) n 0 fs) in
    omega (arith, split, before, one, sum, all)

-- ---- the states

told-same : (d : Desc) (s : State) (turns : ℕ) (f : Option ℕ) → TellsFirst d turns s f → steps d (steps_of_rest turns f) s ≡ steps d turns s
told-same d s turns None tells = refl
told-same d s turns (Some n) tells =
    let whole : n + (turns - n) ≡ turns = (let before = tells.before in omega (arith, before)) in
    sym (ap (λ k. steps d k s) (sym whole) ∙ sym (steps-add d n (turns - n) s) ∙ steps-stay d (turns - n) (steps d n s) tells.still)

rested-is : (d : Desc) (ss : List State) (rests : List Rest) (vs : List State) → length rests ≡ length ss → length vs ≡ length ss →
    ((j : ℕ) (s : State) (rest : Rest) → slice_get ss j ≡ Some s → slice_get rests j ≡ Some rest → slice_get vs j ≡ Some (steps d (steps_told rest) s)) → vs ≡ rested d ss rests
rested-is d [] rests [] count long at = refl
rested-is d [] rests (v ∷ vs) count long at = absurd (omega (arith, long))
rested-is d (s ∷ ss) [] vs count long at = absurd (omega (arith, count))
rested-is d (s ∷ ss) (r ∷ rs) [] count long at = absurd (omega (arith, long))
rested-is d (s ∷ ss) (r ∷ rs) (v ∷ vs) count long at =
    let first = at 0 s r refl refl in
    let one : v ≡ steps d (steps_told r) s = cc in
    ap (λ x. x ∷ vs) one ∙ ap (λ xs. steps d (steps_told r) s ∷ xs) (rested-is d ss rs vs (omega (arith, count)) (omega (arith, long)) (λ j. at (suc j)))

-- ---- what is left

-- a run of no turns, from the same states
abbrev pub standing : GuestRun → GuestRun
standing r = record r { slice = 1; steps = 0 }

pub standing-can : (r : GuestRun) → CanGo r → CanRun (standing r)
standing-can r can = record { states = can.states; some = omega arith; counted = (let none : length r.states * 0 ≡ 0 = grind arith in omega (arith, none)) }

module _ (r : GuestRun) (old on new : Machinery) (before after : Monitor) (rests : List Rest) where
  abbrev d : Desc
  d = r.desc

  -- what is known of guests that ran
  pub record IsRested : Type 0 where
    pub can_go : CanGo r
    pub loaded : IsLoaded (standing r) old on
    pub desc : desc_of before ≡ d
    pub begun : IsBegun r.first r.states (kept_by before) on
    pub stands : Stands (desc_of before) new.state after.guests after.current
    pub ran : RanRounds (desc_of before) r.slice r.steps on new before.guests after.guests before.current after.current rests
    pub machine : desc_of after ≡ desc_of before

  module _ (h : IsRested) where
    first : virtuals on.state.cells (guests_of r) ≡ r.states
    first = begun-states r (kept_by before) on h.begun

    abbrev ran : RanRounds d r.slice r.steps on new (guests_of r) after.guests None after.current rests
    ran =
        subst (λ e. RanRounds e r.slice r.steps on new (guests_of r) after.guests None after.current rests) h.desc
        (subst (λ o. RanRounds (desc_of before) r.slice r.steps on new (guests_of r) after.guests o after.current rests) h.begun.current
        (subst (λ gs. RanRounds (desc_of before) r.slice r.steps on new gs after.guests before.current after.current rests) h.begun.guests h.ran))

    abbrev plan : List (ℕ × ℕ)
    plan = plan_until r rests ran.rounds

    count : length rests ≡ length r.states
    count = h.ran.count ∙ begun-count r (kept_by before) on h.begun

    each : AreRests d r.slice r.steps r.states rests
    each = subst (λ ss. AreRests d r.slice r.steps ss rests) first ran.each

    abbrev direct : ℕ
    direct = direct_of d (guests_of r) plan r.states

    same-direct : direct_of d (guests_of r) plan (virtuals on.state.cells (guests_of r)) ≡ direct
    same-direct = ap (direct_of d (guests_of r) plan) first

    direct-most : direct ≤ turns_of plan
    direct-most = count_of-most d (direct_among d) (guests_of r) plan r.states (direct_among-most d)

    turns-most : turns_of plan ≤ 2 ^ 60
    turns-most =
        let most = turns_of-until r.slice r.steps (firsts rests) ran.rounds in
        let long : length (firsts rests) ≡ length r.states = length-map rests (λ (x : Rest). x.still) ∙ count in
        let less : length (firsts rests) * min (ran.rounds * r.slice) r.steps ≤ length r.states * r.steps =
        subst (λ k. k * min (ran.rounds * r.slice) r.steps ≤ length r.states * r.steps) (sym long) (mul_least (length r.states) (min (ran.rounds * r.slice) r.steps) r.steps (omega arith)) in
        let counted = h.can_go.counted in
        omega (arith, most, less, counted)
      where
        mul_least : (k m n : ℕ) → m ≤ n → k * m ≤ k * n
        mul_least k m n less = grind (arith, less)

    changes : changes_of plan None ≤ turns_of plan
    changes = changes-most plan None

    tally : CountsTurns (turns_of plan) direct (changes_of plan None) on.tally new.tally
    tally = subst (λ k. CountsTurns (turns_of plan) k (changes_of plan None) on.tally new.tally) same-direct ran.followed.tally

    bottom : BottomTurns (turns_of plan) direct on.bottom new.bottom
    bottom = subst (λ k. BottomTurns (turns_of plan) k on.bottom new.bottom) same-direct ran.followed.bottom

    run-states : virtuals new.state.cells after.guests ≡ rested d r.states rests
    run-states = rested-is d r.states rests (virtuals new.state.cells after.guests) count long at
      where
        long : length (virtuals new.state.cells after.guests) ≡ length r.states
        long = length-map after.guests (virtual new.state.cells) ∙ grants-length (guests_of r) after.guests ran.followed.grants ∙ guests-length r.first r.states

        at : (j : ℕ) (s : State) (rest : Rest) → slice_get r.states j ≡ Some s → slice_get rests j ≡ Some rest → slice_get (virtuals new.state.cells after.guests) j ≡ Some (steps d (steps_told rest) s)
        at j s rest is is' =
            Followed-own d plan on new (guests_of r) after.guests None after.current ran.followed j
            ∙ ap (λ ss. option_map (steps d (turns_for j plan)) (slice_get ss j)) first
            ∙ ap (option_map (steps d (turns_for j plan))) is
            ∙ ap (λ k. Some (steps d k s)) (ran.had j rest is')
            ∙ ap Some (sym (told-same d s rest.turns rest.still (each j s rest is is').first))

    run-stands : Stands d new.state after.guests after.current
    run-stands = subst (λ e. Stands e new.state after.guests after.current) h.desc h.stands

    run-steps : new.tally.steps ≡ on.tally.steps + turns_of plan
    run-steps = (let counted = tally.steps in let was = on-steps (standing r) old on h.loaded in let can = h.loaded.can_count.steps in let few = turns-most in counted ∙ omega (arith, was, can, few))

    run-untrapped : new.tally.untrapped ≡ on.tally.untrapped + direct
    run-untrapped =
        (let counted = tally.untrapped in let was = on-untrapped (standing r) old on h.loaded in let can = h.loaded.can_count.untrapped in let most = direct-most in let few = turns-most in
        counted ∙ omega (arith, was, can, most, few))

    pub rose-steps : on.tally.steps ≤ new.tally.steps
    rose-steps = (let rose = run-steps in omega (arith, rose))

    pub rose-untrapped : on.tally.untrapped ≤ new.tally.untrapped
    rose-untrapped = (let rose = run-untrapped in omega (arith, rose))

    run-left : RanStill r rests ran.rounds old new
    run-left = record {
      count = count;
      each = each;
      enough = ran.enough;
      size = run-stands.stands.size;
      control = run-stands.stands.control;
      grants = granted-same new.state.cells (guests_of r) after.guests ran.followed.grants ∙ ap (map (λ (s : State). s.cells)) run-states;
      cell_0 = ran.followed.cell_0
          ∙ ap (λ ss. cell_behind d (guests_of r) plan ss (slice_index on.state.cells 0)) first
          ∙ ap (cell_behind d (guests_of r) plan r.states) (on-first (standing r) old on h.loaded);
      outside = λ at some within out. ran.followed.outside at (omega (arith, some)) out ∙ on-outside (standing r) old on h.loaded at some within out;
      psw = ran.followed.psw ∙ ap (λ ss. psw_behind d (guests_of r) plan ss on.state.psw) first ∙ ap (psw_behind d (guests_of r) plan r.states) (on-psw (standing r) old on h.loaded);
      steps = run-steps ∙ ap (λ k. k + turns_of plan) (on-steps (standing r) old on h.loaded);
      untrapped = run-untrapped ∙ ap (λ k. k + direct) (on-untrapped (standing r) old on h.loaded);
      pokes_least = (let counted = tally.pokes.at_least in let was = on-pokes (standing r) old on h.loaded in let can = h.loaded.can_count.pokes in let room = on-room (standing r) old on h.loaded in let low = on-small (standing r) old on h.loaded in omega (arith, counted, was, can, room, low));
      pokes_most = (let counted = tally.pokes.at_most in let was = on-pokes (standing r) old on h.loaded in let can = h.loaded.can_count.pokes in let room = on-room (standing r) old on h.loaded in let low = on-small (standing r) old on h.loaded in let few = turns-most in let most = direct-most in
          omega (arith, counted, was, can, room, low, few, most));
      loads = (let counted = tally.loads in let was = on-loads (standing r) old on h.loaded in let can = h.loaded.can_count.loads in let few = turns-most in let most = direct-most in let change = changes in
          counted ∙ omega (arith, was, can, few, most, change));
      bottom = subst (λ b. BottomTurns (turns_of plan) direct b new.bottom) (on-bottom (standing r) old on h.loaded) bottom;
    }

    pub run-have : (ran_code : Rested) → ran_code.monitor ≡ after → ran_code.rests.items ≡ rests → ran_code.turns ≡ new.tally.steps - on.tally.steps →
        ran_code.direct ≡ new.tally.untrapped - on.tally.untrapped → HaveRested r ran_code old new
    run-have code monitor told turns untrapped = record {
      rounds = ran.rounds;
      ran_still = subst (λ rs. RanStill r rs ran.rounds old new) (sym told) run-left;
      machine = ap desc_of monitor ∙ h.machine ∙ h.desc;
      grants = ap (λ (m : Monitor). grants_of m.guests) monitor ∙ ran.followed.grants;
      stands = subst (λ (m : Monitor). Stands d new.state m.guests m.current) (sym monitor) run-stands;
      states = ap (λ (m : Monitor). virtuals new.state.cells m.guests) monitor ∙ run-states ∙ ap (rested d r.states) (sym told);
      turns = turns ∙ (let rose = run-steps in omega (arith, rose)) ∙ ap (λ rs. turns_of (plan_until r rs ran.rounds)) (sym told);
      direct = untrapped ∙ (let rose = run-untrapped in omega (arith, rose)) ∙ ap (λ rs. direct_of d (guests_of r) (plan_until r rs ran.rounds) r.states) (sym told);
    }
