-- Turns of the guest that the hardware runs from user mode: a burst, and what is interpreted behind it.
use Rattle.std.proofs.Common.{◌≡◌, ℕ, suc, ◌+◌, Bool, true, false, None, Some, slice_set, slice_index, refl, sym, ◌∙◌, ap, subst, arith}
use Rattle.std.specs.Bool.{then_some}
use Rattle.std.proofs.lemmas.List.{get_or-set_same}
use Rattle.pg_word.specs.declared.psw.Mode.TheVariants.{U}
use Rattle.pg_word.specs.declared.psw.Psw.{Psw}
use Rattle.pg_word.specs.Psw.{power_on_psw}
use Rattle.pg_ast.specs.declared.tree.Desc.{Desc}
use Rattle.pg_lang_meaning.specs.States.{State}
use Rattle.pg_lang_meaning.specs.Steps.{step, steps}
use Rattle.pg_lang_valid.specs.Valid.{IsValid}
use Rattle.pg_type.specs.Accepting.{IsHybridAccepted}
use Rattle.pg_hw.specs.declared.counts.Counts.{Counts}
use Rattle.pg_hw.specs.Tallies.{Bottom, raised_by}
use Rattle.pg_hw.specs.Machinery.{Machinery}
use Rattle.pg_hw.specs.Bursts.{untrapped_among, supervisor_among}
use Rattle.pg_hw.specs.Running.{Ran}
use Rattle.pg_routine.specs.Composing.{composed}
use Rattle.pg_routine.specs.Granting.{GrantPoked, with_grant}
use Rattle.pg_mon_control.specs.declared.guest.Guest.{Guest}
use Rattle.pg_mon_control.specs.Guests.{virtual}
use Rattle.pg_mon_control.specs.Direct.{is_direct, direct_among}
use Rattle.pg_mon_control.specs.Current.{Holds, Runs, with_psw}
use Rattle.pg_mon_control.specs.Traps.{trap_word}
use Rattle.pg_mon_control.specs.Advancing.{Advanced}
use Rattle.pg_mon_control.proofs.AdvanceLemmas.{Advanced-then, Advanced-direct, Advanced-halted, Advanced-interpreted}
use Rattle.pg_mon_control.proofs.BurstLemmas.{Halted, Stopped, StopCounts, StopCounts-of}
use Rattle.pg_mon_control.proofs.CellLemmas.{with_grant-before}
use Rattle.pg_mon_control.proofs.DirectLemmas.{Holds-within, IsAlikeIn, TrapStep-of, user-alike}
use Rattle.pg_mon_control.proofs.RunLemmas.{Directly}
use Rattle.pg_hybrid.specs.UserTurns.{user_among, hybrid_among}
use Rattle.pg_hybrid.specs.Leaving.{left_of, left_by, left_among}
use Rattle.pg_hybrid.specs.Current.{Interpreted, Stepped}
use Rattle.pg_hybrid.proofs.LeavingLemmas.{of_four, same-left, left-trapped, left_among-next}
use Rattle.pg_hybrid.proofs.UserLemmas.{UserRun, UserRun-all, direct-once, trapped-users, trapped-hybrid}

-- a machine that a hybrid monitor may run does the steps of a guest in user mode alike
pub alike-of : (d : Desc) (g : Guest) → ∥ IsHybridAccepted d ∥₁ → g.psw.mode ≡ U → IsAlikeIn d g.psw.mode
alike-of d g accepted user = subst (IsAlikeIn d) (sym user) (user-alike d accepted)

-- ---- turns that were direct

-- steps none of which traps leave the hardware's mode and R
directly-kept : (d : Desc) (n : ℕ) (real : State) (g : Guest) → Runs d real g → Directly d n real g → (steps d n real).psw ≡ record real.psw { p = (steps d n real).psw.p }
directly-kept d n real g runs run =
    run.runs.under ∙ ap (λ (x : Psw). composed x g.base g.size) run.kept ∙ ap (λ (x : Psw). record x { p = (steps d n real).psw.p }) (sym runs.under)

-- and cell 0
direct-first : (d : Desc) (n : ℕ) (real : State) (g : Guest) → Runs d real g → Directly d n real g → (now : State) → now ≡ steps d n real →
    slice_index now.cells 0 ≡ slice_index real.cells 0
direct-first d n real g runs run now is =
    ap (λ (x : State). slice_index x.cells 0) is ∙ ap (λ xs. slice_index xs 0) run.storage
    ∙ with_grant-before real.cells (steps d n (virtual real.cells g)).cells g.base 0 (omega (arith, run.within)) (omega (arith, runs.holds.grant.above))

pub Stepped-direct : (d : Desc) (n : ℕ) (old new : Machinery) (g h : Guest) → ∥ IsHybridAccepted d ∥₁ → IsValid d → Runs d old.state g → g.psw.mode ≡ U → Directly d n old.state g → Ran d n old new →
    h ≡ with_psw g (record g.psw { p = new.state.psw.p }) → Stepped d n true old new g h
Stepped-direct d n old new g h accepted valid runs user run ran guest =
    let v = virtual old.state.cells g in
    let all : UserRun d n old.state g = UserRun-all d n old.state g (alike-of d g accepted user) valid runs user run.untrapped in
    let went = Advanced-direct d n old.state new.state g h run ran.state guest in
    let loads = ap (λ (c : Counts). c.loads) ran.tally in
    let pokes = ap (λ (c : Counts). c.pokes) ran.tally in
    record {
      advanced = went.0;
      runs = λ on. went.1;
      went_on = λ on. ran.state;
      kept = λ on. ap (λ (x : State). x.psw) ran.state ∙ directly-kept d n old.state g runs run ∙ ap (λ (x : State). record old.state.psw { p = x.psw.p }) (sym ran.state);
      once = λ one. direct-once d g.base v (ap (λ k. direct_among d g.base k v) (sym one) ∙ run.direct ∙ one);
      tally = record {
        steps = omega (arith, ap (λ (c : Counts). c.steps) ran.tally, all.users);
        untrapped = omega (arith, ap (λ (c : Counts). c.untrapped) ran.tally, run.untrapped, all.hybrid);
        loads = record { at_least = omega (arith, loads); at_most = omega (arith, loads) };
        pokes = record { at_least = omega (arith, pokes); at_most = omega (arith, pokes) };
      };
      loads = loads;
      users = all.users;
      left = λ k. same-left (Some k) (Some k) new.tally.loads old.tally.loads (slice_index new.state.cells 0) (slice_index old.state.cells 0) new.state.psw (steps d n old.state).psw
          refl loads (direct-first d n old.state g runs run new.state ran.state) (ap (λ (x : State). x.psw) ran.state)
          ∙ sym (all.left k old.tally.loads (slice_index old.state.cells 0));
      bottom = record {
        steps = omega (arith, ran.bottom.steps, all.users);
        untrapped = omega (arith, ran.bottom.untrapped.at_least, ran.bottom.untrapped.at_most, run.untrapped, run.supervisor, all.hybrid);
      };
    }

-- ---- turns that ended with one that was interpreted

pub Interpreted-of : (d : Desc) (old new : Machinery) (g h : Guest) → IsValid d → Holds d old.state g → GrantPoked g.base (step d (virtual old.state.cells g)).cells 8 old new →
    h ≡ with_psw g (step d (virtual old.state.cells g)).psw → Interpreted d old new g h
Interpreted-of d old new g h valid held poked who = record {
  advanced = Advanced-interpreted d old.state new.state g h valid held poked.state who;
  psw = ap (λ (x : State). x.psw) poked.state;
  cell_0 = ap (λ (x : State). slice_index x.cells 0) poked.state
      ∙ with_grant-before old.state.cells (step d (virtual old.state.cells g)).cells g.base 0 (omega (arith, Holds-within d old.state g held)) (omega (arith, held.grant.above));
  tally = poked.tally;
  bottom = poked.bottom;
}

first-stop : (d : Desc) (n m base : ℕ) (v : State) → n ≡ suc m → is_direct d base (steps d m v) ≡ false → n ≡ 1 → is_direct d base v ≡ false
unfolding steps
first-stop d n m base v done turned one =
    let none : m ≡ 0 = omega (arith, done, one) in ap (λ k. is_direct d base (steps d k v)) (sym none) ∙ turned

-- the trap left its word in cell 0, and entered the control program
halted-first : (d : Desc) (m : ℕ) (real mid : State) (g h : Guest) → Directly d m real g → Halted d m real mid g h → slice_index mid.cells 0 ≡ trap_word d g.base (steps d m (virtual real.cells g))
halted-first d m real mid g h before halted =
    ap (λ xs. slice_index xs 0) halted.cells
    ∙ get_or-set_same (steps d m real).cells 0 (trap_word d g.base (steps d m (virtual real.cells g))) 0 (omega (arith, before.runs.holds.real_state.size_least))

stopped-psw : (d : Desc) (n : ℕ) (real : State) (g : Guest) → (stopped : Stopped d n real g) → IsValid d → (steps d n real).psw ≡ power_on_psw d.size
unfolding steps
stopped-psw d n real g stopped valid =
    ap (λ i. (steps d i real).psw) stopped.done ∙ (TrapStep-of d (steps d stopped.before real) _ valid stopped.directly.runs stopped.stops).psw

pub Stepped-halted : (d : Desc) (n : ℕ) (old between new : Machinery) (g h k : Guest) → ∥ IsHybridAccepted d ∥₁ → IsValid d → Runs d old.state g → g.psw.mode ≡ U →
    (stopped : Stopped d n old.state g) → Halted d stopped.before old.state between.state g h → Ran d n old between → Interpreted d between new h k → Stepped d n false old new g k
Stepped-halted d n old between new g h k accepted valid runs user stopped halted ran done =
    let v = virtual old.state.cells g in
    let m = stopped.before in
    let before = stopped.directly in
    let all : UserRun d m old.state g = UserRun-all d m old.state g (alike-of d g accepted user) valid runs user before.untrapped in
    let counts : StopCounts d n m old.state g =
    subst (λ j. StopCounts d j m old.state g) (sym stopped.done) (StopCounts-of d m old.state g before stopped.stops halted.turned) in
    let users : user_among d n v ≡ n = subst (λ j. user_among d j v ≡ j) (sym stopped.done) (trapped-users d m old.state g all) in
    let hybrid : hybrid_among d g.base n v ≡ m = ap (λ j. hybrid_among d g.base j v) stopped.done ∙ trapped-hybrid d m old.state g all halted.turned in
    let steps_on : m + 1 ≡ n = omega (arith, stopped.done) in
    let loads = done.tally.loads ∙ ap (λ (c : Counts). c.loads) ran.tally in
    let pokes = ap (λ (c : Counts). c.pokes) ran.tally in
    record {
      advanced = subst (λ j. Advanced d j old.state new.state g k) steps_on
          (Advanced-then d m 1 old.state between.state new.state g h k (Advanced-halted d m old.state between.state g h before halted) done.advanced);
      runs = λ on. absurd (let wrong : ⊥ = cc in wrong);
      went_on = λ on. absurd (let wrong : ⊥ = cc in wrong);
      kept = λ on. absurd (let wrong : ⊥ = cc in wrong);
      once = first-stop d n m g.base v stopped.done halted.turned;
      tally = record {
        steps = omega (arith, done.tally.steps, ap (λ (c : Counts). c.steps) ran.tally, users);
        untrapped = omega (arith, done.tally.untrapped, ap (λ (c : Counts). c.untrapped) ran.tally, counts.untrapped, hybrid);
        loads = record { at_least = omega (arith, loads); at_most = omega (arith, loads) };
        pokes = record { at_least = omega (arith, done.tally.pokes.at_least, pokes); at_most = omega (arith, done.tally.pokes.at_most, pokes, hybrid, stopped.done) };
      };
      loads = loads;
      users = users;
      left = λ j. same-left None None new.tally.loads old.tally.loads (slice_index new.state.cells 0) (trap_word d g.base (steps d m v)) new.state.psw (power_on_psw d.size) refl loads
          (done.cell_0 ∙ halted-first d m old.state between.state g h before halted)
          (done.psw ∙ ap (λ (x : State). x.psw) ran.state ∙ stopped-psw d n old.state g stopped valid)
          ∙ sym (ap (λ i. left_among d j g.base i v (left_of old (Some j))) stopped.done
          ∙ left_among-next d j g.base m v (left_of old (Some j))
          ∙ ap (left_by d j g.base (steps d m v)) (all.left j old.tally.loads (slice_index old.state.cells 0))
          ∙ left-trapped d j g.base (steps d m v) old.tally.loads (slice_index old.state.cells 0) (steps d m old.state).psw all.mode halted.turned);
      bottom = record {
        steps = omega (arith, ap (λ (c : Bottom). c.steps) done.bottom, ran.bottom.steps, users);
        untrapped = omega (arith, ap (λ (c : Bottom). c.untrapped) done.bottom, ran.bottom.untrapped.at_least, ran.bottom.untrapped.at_most, counts.untrapped, counts.supervisor, hybrid);
      };
    }
