-- Turns of the current guest: a burst, what is interpreted behind it, and turns after turns.
use Rattle.std.proofs.Common.{◌≡◌, ℕ, ◌+◌, ◌<◌, ◌≤◌, List, length, slice_set, slice_index, refl, sym, ◌∙◌, ap, subst, arith}
use Rattle.std.proofs.lemmas.List.{set-set, get_or-set_same}
use Rattle.pg_word.specs.Psw.{IsPsw}
use Rattle.pg_ast.specs.declared.tree.Desc.{Desc}
use Rattle.pg_lang_meaning.specs.States.{State, IsState}
use Rattle.pg_lang_meaning.specs.Steps.{step, steps}
use Rattle.pg_lang_valid.specs.Valid.{IsValid}
use Rattle.pg_lang_meaning.proofs.StepLaws.{steps-add}
use Rattle.pg_lang_valid.proofs.StepSound.{step-state, step-length}
use Rattle.pg_hw.specs.declared.counts.Counts.{Counts}
use Rattle.pg_hw.specs.Tallies.{Bottom, raised_by, after_steps}
use Rattle.pg_hw.specs.Machinery.{Machinery}
use Rattle.pg_hw.specs.Bursts.{untrapped_at, BottomRises}
use Rattle.pg_hw.specs.Running.{Ran}
use Rattle.pg_hw.proofs.TallyLaws.{raised_by-zero, RisesWithin-none}
use Rattle.pg_hw.proofs.BurstLaws.{untrapped_among-one}
use Rattle.pg_routine.specs.Composing.{composed}
use Rattle.pg_routine.specs.Granting.{with_grant}
use Rattle.pg_routine.proofs.GrantLaws.{with_grant-same}
use Rattle.pg_routine.proofs.StateLaws.{with_grant-length}
use Rattle.pg_mon_control.specs.declared.guest.Guest.{Guest}
use Rattle.pg_mon_control.specs.Guests.{virtual}
use Rattle.pg_mon_control.specs.Direct.{direct_among}
use Rattle.pg_mon_control.specs.Traps.{trap_cell, trap_word}
use Rattle.pg_mon_control.specs.Counting.{BottomTurns}
use Rattle.pg_monitor.specs.Turns.{CountsTurns}
use Rattle.pg_mon_control.specs.Current.{Holds, Runs, with_psw}
use Rattle.pg_monitor.specs.Current.{Interpreted, Went}
use Rattle.pg_mon_control.proofs.CellLemmas.{with_grant-again, with_grant-before, set_first-grant, set_same}
use Rattle.pg_mon_control.proofs.DirectLemmas.{Holds-within, Holds-length}
use Rattle.pg_mon_control.proofs.RunLemmas.{Holds-next, virtual-own, Directly}
use Rattle.pg_mon_control.proofs.BurstLemmas.{Halted, Stopped, StopCounts, StopCounts-of, steps-once}
use Rattle.pg_mon_control.proofs.StateLemmas.{composed-fits, granted-state}
use Rattle.pg_mon_control.proofs.CountLemmas.{BottomTurns-none, BottomTurns-add, direct_among-add, direct_among-most, trap_cell-add}

-- ---- turns that were direct

pub Went-direct : (d : Desc) (n : ℕ) (old new : Machinery) (g h : Guest) → Directly d n old.state g → Ran d n old new →
    h ≡ with_psw g (record g.psw { p = new.state.psw.p }) → Went d n old new g h
Went-direct d n old new g h run ran guest =
    let real = old.state in
    let v = virtual real.cells g in
    let vn = steps d n v in
    let cells : new.state.cells ≡ with_grant real.cells g.base vn.cells = ap (λ (x : State). x.cells) ran.state ∙ run.storage in
    let who : h ≡ with_psw g vn.psw = guest ∙ ap (λ (x : State). with_psw g (record g.psw { p = x.psw.p })) ran.state ∙ sym (ap (with_psw g) run.kept) in
    let first : slice_index (with_grant real.cells g.base vn.cells) 0 ≡ slice_index real.cells 0 =
    with_grant-before real.cells vn.cells g.base 0 (omega (arith, run.within)) (omega (arith, run.runs.holds.grant.above)) in
    record {
      runs = subst (λ (x : State). Runs d x h) (sym ran.state) (subst (Runs d (steps d n real)) (sym who) run.runs);
      guest = who;
      state = subst (λ (x : State). virtual x.cells h ≡ vn) (sym ran.state) (subst (λ x. virtual (steps d n real).cells x ≡ vn) (sym who) run.state);
      storage = cells ∙ sym (ap (slice_set (with_grant real.cells g.base vn.cells) 0) (run.held (slice_index real.cells 0) ∙ sym first) ∙ set_same (with_grant real.cells g.base vn.cells));
      tally = record {
        steps = ap (λ (c : Counts). c.steps) ran.tally;
        untrapped = ap (λ (c : Counts). c.untrapped) ran.tally ∙ ap (λ k. raised_by k old.tally.untrapped) (run.untrapped ∙ sym run.direct);
        loads = ap (λ (c : Counts). c.loads) ran.tally ∙ omega (arith, run.direct);
        pokes = record { at_least = omega (arith, ap (λ (c : Counts). c.pokes) ran.tally); at_most = omega (arith, ap (λ (c : Counts). c.pokes) ran.tally, run.direct) };
      };
      bottom = record {
        steps = ran.bottom.steps;
        untrapped = omega (arith, ran.bottom.untrapped.at_least, ran.bottom.untrapped.at_most, run.untrapped, run.supervisor, run.direct);
      };
    }

-- ---- turns that ended with one that was interpreted

pub Went-halted : (d : Desc) (n : ℕ) (old between new : Machinery) (g h k : Guest) → IsValid d → (stopped : Stopped d n old.state g) →
    Halted d stopped.before old.state between.state g h → Ran d n old between → Interpreted d between new h k → Went d n old new g k
Went-halted d n old between new g h k valid stopped halted ran done =
    let real = old.state in
    let mid = between.state in
    let now = new.state in
    let m = stopped.before in
    let v = virtual real.cells g in
    let vm = steps d m v in
    let before = stopped.directly in
    let counts : StopCounts d n m real g = subst (λ j. StopCounts d j m real g) (sym stopped.done) (StopCounts-of d m real g before stopped.stops halted.turned) in
    let vn = step d vm in
    let vn_state : IsState d vn = step-state d vm valid (subst (IsState d) halted.state halted.holds.virtual_state) in
    let len : length vn.cells ≡ g.size = step-length d vm valid (subst (IsState d) halted.state halted.holds.virtual_state) ∙ before.length in
    let base : h.base ≡ g.base = ap (λ (x : Guest). x.base) halted.guest in
    let size : h.size ≡ g.size = ap (λ (x : Guest). x.size) halted.guest in
    let within = Holds-within d mid h halted.holds in
    let cells : now.cells ≡ with_grant mid.cells g.base vn.cells =
    done.cells ∙ ap (λ (x : State). with_grant mid.cells h.base (step d x).cells) halted.state ∙ ap (λ n. with_grant mid.cells n vn.cells) base in
    let who : k ≡ with_psw g vn.psw = done.guest ∙ ap (λ (x : State). with_psw h (step d x).psw) halted.state ∙ ap (λ x. with_psw x vn.psw) halted.guest in
    let under : now.psw ≡ composed vn.psw g.base g.size = done.under ∙ ap (λ (x : Guest). composed x.psw x.base x.size) who in
    let fits : IsPsw d.address now.psw = subst (IsPsw d.address) (sym under) (composed-fits d vn.psw g.base g.size valid before.runs.holds.grant.within vn_state.fields) in
    let mid_holds : Holds d mid (with_psw g vm.psw) = subst (Holds d mid) halted.guest halted.holds in
    let now_state : IsState d now = granted-state d mid vn g.base now halted.holds.real_state vn_state (omega (arith, within, base, size, len)) cells fits in
    let holds : Holds d now (with_psw g vn.psw) = Holds-next d mid now (with_psw g vm.psw) vn mid_holds cells len now_state vn_state in
    let runs : Runs d now (with_psw g vn.psw) = record { holds = holds; under = under } in
    let own : virtual now.cells (with_psw g vn.psw) ≡ vn = virtual-own mid.cells now.cells g.base g.size vn cells (omega (arith, within, base)) len in
    let held : steps d n v ≡ vn = counts.state in
    record {
      runs = subst (Runs d now) (sym who) runs;
      guest = who ∙ sym (ap (λ (x : State). with_psw g x.psw) held);
      state = ap (virtual now.cells) who ∙ own ∙ sym held;
      storage = cells ∙ ap (λ xs. with_grant xs g.base vn.cells) halted.cells
          ∙ set_first-grant (steps d m real).cells vn.cells g.base (trap_word d g.base vm) (omega (arith, before.runs.holds.grant.above))
          (omega (arith, Holds-within d (steps d m real) (with_psw g vm.psw) before.runs.holds))
          ∙ ap (λ xs. slice_set (with_grant xs g.base vn.cells) 0 (trap_word d g.base vm)) before.storage
          ∙ ap (λ xs. slice_set xs 0 (trap_word d g.base vm)) (with_grant-again real.cells vm.cells vn.cells g.base (omega (arith, before.within)) (len ∙ sym before.length))
          ∙ sym (ap (λ w. slice_set (with_grant real.cells g.base (steps d n v).cells) 0 w) (counts.cell (slice_index real.cells 0))
          ∙ ap (λ (x : State). slice_set (with_grant real.cells g.base x.cells) 0 (trap_word d g.base vm)) held);
      tally = record {
        steps = done.steps ∙ ap (λ (c : Counts). c.steps) ran.tally;
        untrapped = done.untrapped ∙ ap (λ (c : Counts). c.untrapped) ran.tally ∙ ap (λ j. raised_by j old.tally.untrapped) (counts.untrapped ∙ sym counts.direct);
        loads = omega (arith, done.loads, ap (λ (c : Counts). c.loads) ran.tally, counts.direct, stopped.done);
        pokes = record {
          at_least = omega (arith, done.pokes.at_least, ap (λ (c : Counts). c.pokes) ran.tally);
          at_most = omega (arith, done.pokes.at_most, ap (λ (c : Counts). c.pokes) ran.tally, counts.direct, stopped.done);
        };
      };
      bottom = record {
        steps = ap (λ (c : Bottom). c.steps) done.bottom ∙ ran.bottom.steps;
        untrapped = omega (arith, ap (λ (c : Bottom). c.untrapped) done.bottom, ran.bottom.untrapped.at_least, ran.bottom.untrapped.at_most, counts.untrapped, counts.supervisor, counts.direct);
      };
    }

-- ---- turns after turns

pub CountsTurns-none : (t : Counts) → CountsTurns 0 0 0 t t
CountsTurns-none t = record { steps = sym (raised_by-zero t.steps); untrapped = sym (raised_by-zero t.untrapped); loads = sym (raised_by-zero t.loads); pokes = RisesWithin-none t.pokes }

pub Went-none : (d : Desc) (h : Machinery) (g : Guest) → Runs d h.state g → Went d 0 h h g g
unfolding steps direct_among trap_cell
Went-none d h g runs =
    let real = h.state in
    record {
      runs = runs;
      guest = refl;
      state = refl;
      storage = sym (ap (λ xs. slice_set xs 0 (slice_index real.cells 0)) (with_grant-same real.cells g.base g.size (Holds-within d real g runs.holds)) ∙ set_same real.cells);
      tally = CountsTurns-none h.tally;
      bottom = BottomTurns-none h.bottom;
    }

pub CountsTurns-add : (m n x y c k : ℕ) (t t' t'' : Counts) → x ≤ m → y ≤ n → CountsTurns m x c t t' → CountsTurns n y k t' t'' → CountsTurns (m + n) (x + y) (c + k) t t''
CountsTurns-add m n x y c k t t' t'' few few' a b = record {
  steps = omega (arith, a.steps, b.steps);
  untrapped = omega (arith, a.untrapped, b.untrapped);
  loads = omega (arith, a.loads, b.loads);
  pokes = record { at_least = omega (arith, a.pokes.at_least, b.pokes.at_least); at_most = omega (arith, a.pokes.at_most, b.pokes.at_most) };
}

-- cell 0 and the grant, set one after the other
set_again : (cells first second : List ℕ) (base w w' : ℕ) → 0 < base → base + length first ≤ length cells → length second ≡ length first →
    slice_set (with_grant (slice_set (with_grant cells base first) 0 w) base second) 0 w' ≡ slice_set (with_grant cells base second) 0 w'
set_again cells first second base w w' some within len =
    let same = with_grant-length cells first base within in
    ap (λ xs. slice_set xs 0 w') (set_first-grant (with_grant cells base first) second base w some (omega (arith, same, within)))
    ∙ set-set (with_grant (with_grant cells base first) base second) 0 w w'
    ∙ ap (λ xs. slice_set xs 0 w') (with_grant-again cells first second base (omega (arith, within)) len)

pub Went-then : (d : Desc) (m n : ℕ) (old between new : Machinery) (g h k : Guest) → IsValid d → Runs d old.state g →
    Went d m old between g h → Went d n between new h k → Went d (m + n) old new g k
Went-then d m n old between new g h k valid runs one two =
    let real = old.state in
    let mid = between.state in
    let now = new.state in
    let t = old.tally in
    let t' = between.tally in
    let t'' = new.tally in
    let b = old.bottom in
    let b' = between.bottom in
    let b'' = new.bottom in
    let v = virtual real.cells g in
    let vm = steps d m v in
    let vn = steps d (m + n) v in
    let base : h.base ≡ g.base = ap (λ (x : Guest). x.base) one.guest in
    let size : h.size ≡ g.size = ap (λ (x : Guest). x.size) one.guest in
    let more : steps d n (virtual mid.cells h) ≡ vn = ap (steps d n) one.state ∙ steps-add d m n v in
    let within = Holds-within d real g runs.holds in
    let first_len : length vm.cells ≡ g.size = ap (λ (x : State). length x.cells) (sym one.state) ∙ Holds-length d mid h one.runs.holds ∙ size in
    let last_base : k.base ≡ g.base = ap (λ (x : Guest). x.base) two.guest ∙ base in
    let last_size : k.size ≡ g.size = ap (λ (x : Guest). x.size) two.guest ∙ size in
    let last_len : length vn.cells ≡ g.size = ap (λ (x : State). length x.cells) (sym (two.state ∙ more)) ∙ Holds-length d now k two.runs.holds ∙ last_size in
    let w = trap_cell d g.base m v (slice_index real.cells 0) in
    let held : slice_index mid.cells 0 ≡ w = ap (λ xs. slice_index xs 0) one.storage
    ∙ get_or-set_same (with_grant real.cells g.base vm.cells) 0 w 0 (omega (arith, with_grant-length real.cells vm.cells g.base (omega (arith, within, first_len)), runs.holds.real_state.size_least)) in
    let direct : direct_among d h.base n (virtual mid.cells h) ≡ direct_among d g.base n vm =
    ap (λ x. direct_among d x n (virtual mid.cells h)) base ∙ ap (direct_among d g.base n) one.state in
    let all : direct_among d g.base (m + n) v ≡ direct_among d g.base m v + direct_among d h.base n (virtual mid.cells h) =
    direct_among-add d g.base m n v ∙ ap (λ x. direct_among d g.base m v + x) (sym direct) in
    record {
      runs = two.runs;
      guest = two.guest ∙ ap (λ (x : State). with_psw h x.psw) more ∙ ap (λ x. with_psw x vn.psw) one.guest;
      state = two.state ∙ more;
      storage = two.storage
          ∙ ap (λ x. slice_set (with_grant mid.cells x (steps d n (virtual mid.cells h)).cells) 0 (trap_cell d x n (virtual mid.cells h) (slice_index mid.cells 0))) base
          ∙ ap (λ (x : State). slice_set (with_grant mid.cells g.base x.cells) 0 (trap_cell d g.base n (virtual mid.cells h) (slice_index mid.cells 0))) more
          ∙ ap (λ x. slice_set (with_grant mid.cells g.base vn.cells) 0 (trap_cell d g.base n x (slice_index mid.cells 0))) one.state
          ∙ ap (λ x. slice_set (with_grant mid.cells g.base vn.cells) 0 (trap_cell d g.base n vm x)) held
          ∙ ap (λ x. slice_set (with_grant mid.cells g.base vn.cells) 0 x) (sym (trap_cell-add d g.base m n v (slice_index real.cells 0)))
          ∙ ap (λ xs. slice_set (with_grant xs g.base vn.cells) 0 (trap_cell d g.base (m + n) v (slice_index real.cells 0))) one.storage
          ∙ set_again real.cells vm.cells vn.cells g.base w (trap_cell d g.base (m + n) v (slice_index real.cells 0))
          (omega (arith, runs.holds.grant.above)) (omega (arith, within, first_len)) (last_len ∙ sym first_len);
      tally = subst (λ x. CountsTurns (m + n) x 0 t t'') (sym all)
          (CountsTurns-add m n (direct_among d g.base m v) (direct_among d h.base n (virtual mid.cells h)) 0 0 t t' t'' (direct_among-most d g.base m v) (direct_among-most d h.base n (virtual mid.cells h)) one.tally two.tally);
      bottom = subst (λ x. BottomTurns (m + n) x b b'') (sym all)
          (BottomTurns-add m n (direct_among d g.base m v) (direct_among d h.base n (virtual mid.cells h)) b b' b'' one.bottom two.bottom);
    }

-- the same number of turns
pub Went-count : (d : Desc) (m n : ℕ) (old new : Machinery) (g h : Guest) → m ≡ n → Went d m old new g h → Went d n old new g h
Went-count d m n old new g h e went = subst (λ k. Went d k old new g h) e went

-- one step, as a run of one
pub Ran-step : (d : Desc) (old new : Machinery) → new.state ≡ step d old.state → new.tally ≡ after_steps old.tally 1 (untrapped_at d old.state) →
    BottomRises d 1 old.state old.bottom new.bottom → Ran d 1 old new
Ran-step d old new moved counted bottom = record {
  state = moved ∙ sym (steps-once d old.state);
  tally = counted ∙ ap (λ k. after_steps old.tally 1 k) (sym (untrapped_among-one d old.state));
  bottom = bottom;
}
