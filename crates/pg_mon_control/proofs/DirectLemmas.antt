-- Steps of the hardware for the guest that it runs: direct ones, and one that traps.
use Rattle.std.proofs.Common.{◌≡◌, ℕ, ◌+◌, ◌-◌, ◌<◌, ◌≤◌, Bool, true, false, not, min, nat_lt, if◌then◌else◌, List, [], ◌++◌, length, take, drop, slice_set, slice_index, refl, sym, ◌∙◌, ap, subst, arith}
use Rattle.std.proofs.lemmas.Bool.{ltb-true}
use Rattle.std.proofs.lemmas.List.{nil_from_length, take-append-drop, append-nil, get_or-set_same}
use Rattle.std.proofs.lemmas.Option.{get_or_from_slice_get}
use Rattle.pg_word.specs.declared.psw.Psw.{Psw}
use Rattle.pg_word.specs.declared.psw.Mode.{Mode}
use Rattle.pg_word.specs.declared.psw.Mode.TheVariants.{U}
use Rattle.pg_word.specs.Psw.{IsPsw, packed, packed_trap, power_on_psw, unpacked, window_len_of}
use Rattle.pg_word.proofs.Words.{unpacked_packed, unpacked_packed_trap}
use Rattle.pg_ast.specs.declared.tree.Desc.{Desc}
use Rattle.pg_lang_meaning.specs.Bodies.{After}
use Rattle.pg_lang_meaning.specs.States.{State, IsState, shape_of, window, put_back}
use Rattle.pg_lang_meaning.specs.Steps.{Ending, ByMemTrap, ByTrap, ByNoPattern, Done, ending, left_by, trapped, step, ends_in_trap}
use Rattle.pg_lang_valid.specs.Valid.{IsValid}
use Rattle.pg_type.specs.Accepting.{IsAccepted, IsHybridAccepted}
use Rattle.pg_type.specs.Alike.{LookAlike, StepsAlike}
use Rattle.pg_lang_valid.proofs.ValidFacts.{IsShape-of_valid}
use Rattle.pg_lang_valid.proofs.StepSound.{AfterFits, OnDone, ending-sound, window-length, window-words, put_back-length}
use Rattle.pg_type.proofs.AlikeSteps.{steps_alike, user_steps_alike}
use Rattle.pg_hw.specs.Bursts.{traps}
use Rattle.pg_routine.specs.Composing.{composed}
use Rattle.pg_routine.specs.Granting.{with_grant}
use Rattle.pg_routine.proofs.GrantLaws.{composed-window, guest-length, with_grant-put_back}
use Rattle.pg_mon_control.specs.declared.guest.Guest.{Guest}
use Rattle.pg_mon_control.specs.Guests.{virtual}
use Rattle.pg_mon_control.specs.Direct.{ending_at, is_direct}
use Rattle.pg_mon_control.specs.Traps.{cause_of, trap_word}
use Rattle.pg_mon_control.specs.Current.{Holds, Runs}

-- ---- the guest's machine and the hardware look alike

pub Holds-within : (d : Desc) (real : State) (g : Guest) → Holds d real g → g.base + g.size ≤ length real.cells
Holds-within d real g h = omega (arith, h.size, h.grant.within)

pub Holds-length : (d : Desc) (real : State) (g : Guest) → Holds d real g → length (virtual real.cells g).cells ≡ g.size
Holds-length d real g h = guest-length real.cells g.base g.size (Holds-within d real g h)

pub Runs-alike : (d : Desc) (real : State) (g : Guest) → Runs d real g → LookAlike real (virtual real.cells g)
Runs-alike d real g r = record {
  same_window = ap (λ x. window (record { cells = real.cells; psw = x })) r.under ∙ composed-window real.cells g.base g.size g.psw (Holds-within d real g r.holds);
  same_p = ap (λ (x : Psw). x.p) r.under;
}

pub Runs-user : (d : Desc) (real : State) (g : Guest) → Runs d real g → real.psw.mode ≡ U
Runs-user d real g r = ap (λ (x : Psw). x.mode) r.under

-- the hardware's step ends as the definition of a direct step looks at it
pub Runs-ending : (d : Desc) (real : State) (g : Guest) → Runs d real g → ending d (window real) real.psw ≡ ending_at d g.base (virtual real.cells g)
Runs-ending d real g r =
    ap (λ w. ending d w real.psw) (Runs-alike d real g r).same_window
    ∙ ap (λ x. ending d (window (virtual real.cells g)) x) (r.under ∙ ap (λ n. composed g.psw g.base n) (sym (Holds-length d real g r.holds)))

pub Runs-direct : (d : Desc) (real : State) (g : Guest) → Runs d real g → is_direct d g.base (virtual real.cells g) ≡ not (traps d real)
unfolding is_direct traps
Runs-direct d real g r = ap (λ e. not (ends_in_trap e)) (sym (Runs-ending d real g r))

-- ---- steps that are done alike

-- a step of the hardware that is done does the same at the state of the guest that it runs
pub record GoesAlike (d : Desc) (real : State) (g : Guest) : Type 0 where
  pub alike : (after : After) → ending d (window real) real.psw ≡ Done after → StepsAlike d real (virtual real.cells g) after

-- so does each step for each guest that is in this mode
pub record IsAlikeIn (d : Desc) (mode : Mode) : Type 0 where
  pub goes : (real : State) (g : Guest) → g.psw.mode ≡ mode → Runs d real g → GoesAlike d real g

-- of an accepted machine in both modes
pub accepted-alike : (d : Desc) (mode : Mode) → ∥ IsAccepted d ∥₁ → IsAlikeIn d mode
accepted-alike d mode accepted = record {
  goes = λ real g is r. record {
    alike = λ after e. steps_alike d real (virtual real.cells g) after accepted r.holds.real_state r.holds.virtual_state (Runs-alike d real g r) (Runs-user d real g r) e;
  };
}

-- of one that a hybrid monitor may run in user mode
pub user-alike : (d : Desc) → ∥ IsHybridAccepted d ∥₁ → IsAlikeIn d U
user-alike d accepted = record {
  goes = λ real g is r. record {
    alike = λ after e. user_steps_alike d real (virtual real.cells g) after accepted r.holds.real_state r.holds.virtual_state (Runs-alike d real g r) (Runs-user d real g r) is e;
  };
}

-- ---- a direct step

step_done : (d : Desc) (s : State) (after : After) → ending d (window s) s.psw ≡ Done after → step d s ≡ record { cells = put_back s after.window; psw = after.psw }
unfolding step
step_done d s after e = ap (left_by d s) e

done_length : (d : Desc) (s : State) (after : After) → IsValid d → IsState d s → ending d (window s) s.psw ≡ Done after → length after.window ≡ length (window s)
done_length d s after v h e = (subst (λ x. OnDone x (AfterFits d (length (window s)))) e (ending-sound d (window s) s.psw v (window-words d s h) h.fields)).same_length

-- a window put back where the composed program status word opens it
placed : (cells w : List ℕ) (base size l bound : ℕ) (b : Bool) → nat_lt l size ≡ b → base + size ≤ length cells →
    length w ≡ min (if b then min bound (size - l) else 0) (length cells - (if b then l + base else base)) →
    take (if b then l + base else base) cells ++ w ++ drop ((if b then l + base else base) + min (if b then min bound (size - l) else 0) (length cells - (if b then l + base else base))) cells
    ≡ with_grant cells (base + min l size) w
placed cells w base size l bound true e h len =
    let below : l < size = ltb-true l size e in
    let at : l + base ≡ base + min l size = omega arith in
    ap (λ n. take (l + base) cells ++ w ++ drop (l + base + n) cells) (sym len) ∙ ap (λ n. with_grant cells n w) at
placed cells w base size l bound false e h len =
    let none : w ≡ [] = nil_from_length w (omega (arith, len)) in
    let end : base + min 0 (length cells - base) ≡ base = omega arith in
    let stop : base + min l size + 0 ≡ base + min l size = omega arith in
    subst (λ v. take base cells ++ v ++ drop (base + min 0 (length cells - base)) cells ≡ with_grant cells (base + min l size) v) (sym none)
    (ap (λ xs. xs ++ drop (base + min 0 (length cells - base)) cells) (append-nil (take base cells)) ∙ ap (λ n. take base cells ++ drop n cells) end ∙ take-append-drop base cells
    ∙ sym (ap (λ xs. xs ++ drop (base + min l size + 0) cells) (append-nil (take (base + min l size) cells)) ∙ ap (λ n. take (base + min l size) cells ++ drop n cells) stop
    ∙ take-append-drop (base + min l size) cells))

abbrev state_of : List ℕ → Psw → State
state_of cells psw = record { cells = cells; psw = psw }

put_back-grant : (d : Desc) (real : State) (g : Guest) (w : List ℕ) → Runs d real g → length w ≡ length (window real) →
    put_back real w ≡ with_grant real.cells g.base (put_back (virtual real.cells g) w)
put_back-grant d real g w r len =
    let within = Holds-within d real g r.holds in
    ap (λ x. put_back (state_of real.cells x) w) r.under
    ∙ placed real.cells w g.base g.size g.psw.l g.psw.b (nat_lt g.psw.l g.size) refl within
    (len ∙ window-length real ∙ ap (λ x. window_len_of x (length real.cells)) r.under)
    ∙ sym (with_grant-put_back real.cells w g.base g.size g.psw within
    (len ∙ ap length (Runs-alike d real g r).same_window ∙ window-length (virtual real.cells g) ∙ ap (window_len_of g.psw) (Holds-length d real g r.holds)))

-- a step of the hardware that does not trap, beside the guest's step from its state
pub record DirectStep (d : Desc) (real : State) (g : Guest) (v : State) : Type 0 where
  pub psw : (step d real).psw ≡ composed (step d v).psw g.base g.size
  pub kept : (step d v).psw ≡ record g.psw { p = (step d real).psw.p }
  pub cells : (step d real).cells ≡ with_grant real.cells g.base (step d v).cells
  pub length : length (step d v).cells ≡ g.size
  pub calm : traps d v ≡ false

calm_done : (d : Desc) (s : State) (after : After) → ending d (window s) s.psw ≡ Done after → traps d s ≡ false
unfolding traps
calm_done d s after e = ap ends_in_trap e

pub DirectStep-of : (d : Desc) (real : State) (g : Guest) → GoesAlike d real g → IsValid d → Runs d real g → traps d real ≡ false → DirectStep d real g (virtual real.cells g)
unfolding traps
DirectStep-of d real g goes valid r calm = by_ending (ending d (window real) real.psw) refl calm
  where
    by_ending : (e : Ending) → ending d (window real) real.psw ≡ e → ends_in_trap e ≡ false → DirectStep d real g (virtual real.cells g)
    by_ending ByMemTrap e traps = absurd (let wrong : ⊥ = cc in wrong)
    by_ending ByTrap e traps = absurd (let wrong : ⊥ = cc in wrong)
    by_ending ByNoPattern e traps = absurd (let wrong : ⊥ = cc in wrong)
    by_ending (Done after) e traps =
        let v = virtual real.cells g in
        let alike = goes.alike after e in
        let here = step_done d real after e in
        let there = step_done d v (record { window = after.window; psw = record v.psw { p = after.psw.p } }) alike.same_done in
        let moved : (step d real).psw ≡ record real.psw { p = after.psw.p } = ap (λ (t : State). t.psw) here ∙ alike.kept in
        let len = done_length d real after valid r.holds.real_state e in
        let put : length (put_back v after.window) ≡ length v.cells =
        put_back-length v after.window (len ∙ ap length (Runs-alike d real g r).same_window ∙ window-length v) in
        record {
          psw = moved ∙ ap (λ (x : Psw). record x { p = after.psw.p }) r.under ∙ sym (ap (λ (t : State). composed t.psw g.base g.size) there);
          kept = ap (λ (t : State). t.psw) there ∙ ap (λ (n : ℕ). record g.psw { p = n }) (sym (ap (λ (t : State). t.psw.p) here));
          cells = ap (λ (t : State). t.cells) here ∙ put_back-grant d real g after.window r len ∙ sym (ap (λ (t : State). with_grant real.cells g.base t.cells) there);
          length = ap (λ (t : State). length t.cells) there ∙ put ∙ Holds-length d real g r.holds;
          calm = calm_done d v (record { window = after.window; psw = record v.psw { p = after.psw.p } }) alike.same_done;
        }

-- ---- a step that traps

-- what it leaves: the composed program status word in cell 0, and that of cell 1 in the hardware
pub record TrapStep (d : Desc) (real : State) (g : Guest) (v : State) : Type 0 where
  pub cells : (step d real).cells ≡ slice_set real.cells 0 (trap_word d g.base v)
  pub psw : (step d real).psw ≡ power_on_psw d.size
  pub entry : unpacked d.address (slice_index (step d real).cells 0) ≡ real.psw

trap_left : (d : Desc) (s : State) (e : Ending) → ends_in_trap e ≡ true → left_by d s e ≡ trapped d s (cause_of e)
trap_left d s ByMemTrap h = refl
trap_left d s ByTrap h = refl
trap_left d s ByNoPattern h = refl
trap_left d s (Done after) h = absurd (let wrong : ⊥ = cc in wrong)

step_trapped : (d : Desc) (s : State) → traps d s ≡ true → step d s ≡ trapped d s (cause_of (ending d (window s) s.psw))
unfolding step traps
step_trapped d s h = trap_left d s (ending d (window s) s.psw) h

pub control-fits : (d : Desc) → IsValid d → IsPsw d.address (power_on_psw d.size)
control-fits d valid =
    let shape = IsShape-of_valid d valid in
    record { p = omega (arith, shape.size_least, shape.size_most); l = omega (arith, shape.size_most); b = shape.size_most }

pub TrapStep-of : (d : Desc) (real : State) (g : Guest) → IsValid d → Runs d real g → traps d real ≡ true → TrapStep d real g (virtual real.cells g)
TrapStep-of d real g valid r stops =
    let v = virtual real.cells g in
    let here = step_trapped d real stops in
    let cause = cause_of (ending d (window real) real.psw) in
    let word : packed_trap (shape_of d) real.psw cause ≡ trap_word d g.base v =
    ap (λ x. packed_trap (shape_of d) x cause) (r.under ∙ ap (composed g.psw g.base) (sym (Holds-length d real g r.holds)))
    ∙ ap (λ e. packed_trap (shape_of d) (composed g.psw g.base (length v.cells)) (cause_of e)) (Runs-ending d real g r) in
    let first : slice_index (step d real).cells 0 ≡ packed_trap (shape_of d) real.psw cause =
    ap (λ (t : State). slice_index t.cells 0) here ∙ get_or-set_same real.cells 0 (packed_trap (shape_of d) real.psw cause) 0 (omega (arith, r.holds.real_state.size_least)) in
    record {
      cells = ap (λ (t : State). t.cells) here ∙ ap (slice_set real.cells 0) word;
      psw = ap (λ (t : State). t.psw) here ∙ ap (unpacked d.address) (get_or_from_slice_get real.cells 1 (packed d.address (power_on_psw d.size)) 0 r.holds.control)
          ∙ unpacked_packed d.address (power_on_psw d.size) (control-fits d valid);
      entry = ap (unpacked d.address) first ∙ unpacked_packed_trap (shape_of d) real.psw cause r.holds.real_state.fields;
    }
