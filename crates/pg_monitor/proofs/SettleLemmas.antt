-- When a guest is first still, told by the hardware under it.
use Rattle.std.proofs.Common.{◌≡◌, ℕ, zero, suc, ◌+◌, ◌-◌, ◌^◌, ◌<◌, ◌≤◌, inl, inr, true, false, List, Option, None, Some, IfSome, slice_get, refl, sym, ◌∙◌, ap, subst, arith, true≢false}
use Rattle.std.proofs.lemmas.Bool.{cases_lt}
use Rattle.std.proofs.lemmas.Option.{same_Some}
use Rattle.pg_word.specs.declared.psw.Psw.{Psw}
use Rattle.pg_word.specs.declared.psw.Mode.TheVariants.{U}
use Rattle.pg_ast.specs.declared.tree.Desc.{Desc}
use Rattle.pg_lang_meaning.specs.States.{State}
use Rattle.pg_lang_meaning.specs.Steps.{step, steps}
use Rattle.pg_lang_meaning.proofs.StepLaws.{steps-add, steps-stay}
use Rattle.pg_lang_valid.specs.Valid.{IsValid}
use Rattle.pg_hw.specs.Bursts.{traps, burst_length}
use Rattle.pg_hw.specs.Stillness.{IsStill, Stays, TellsStill}
use Rattle.pg_hw.proofs.BurstLaws.{burst_length-goes_on, burst_length-some}
use Rattle.pg_routine.specs.Composing.{composed}
use Rattle.pg_routine.specs.Granting.{with_grant}
use Rattle.pg_mon_control.specs.declared.guest.Guest.{Guest}
use Rattle.pg_mon_control.specs.Current.{Runs, with_psw}
use Rattle.pg_mon_control.specs.Guests.{virtual}
use Rattle.pg_mon_control.proofs.BurstLemmas.{Stopped, Halted, Runs-calm}
use Rattle.pg_mon_control.proofs.DirectLemmas.{IsAlikeIn}
use Rattle.pg_mon_control.proofs.RunLemmas.{Directly, Directly-next}
use Rattle.pg_monitor.specs.Settling.{NoneStill, StillFirst, TellsFirst, first_of}
use Rattle.pg_monitor.proofs.ToldLemmas.{direct-before}

-- ---- one state

-- where the hardware's state stays under a guest, the guest is still
stays-still : (d : Desc) (n : ℕ) (real : State) (g : Guest) → IsAlikeIn d g.psw.mode → IsValid d → Directly d n real g → Stays d (steps d n real) →
    IsStill d (steps d n (virtual real.cells g))
unfolding steps
stays-still d n real g alike valid run stays =
    let next = Directly-next d n real g alike valid run stays.untrapped in
    let before : State = steps d n (virtual real.cells g) in
    let after : State = steps d (suc n) (virtual real.cells g) in
    let psw : after.psw ≡ before.psw = next.kept ∙ ap (λ (x : State). record g.psw { p = x.psw.p }) stays.still ∙ sym run.kept in
    sym next.state
    ∙ ap (λ (x : State). virtual x.cells (with_psw g after.psw)) stays.still
    ∙ ap (λ x. virtual (steps d n real).cells (with_psw g x)) psw
    ∙ run.state

-- and only there, of steps that are direct
still-stays : (d : Desc) (n : ℕ) (real : State) (g : Guest) → IsAlikeIn d g.psw.mode → IsValid d → Directly d n real g → traps d (steps d n real) ≡ false →
    IsStill d (steps d n (virtual real.cells g)) → Stays d (steps d n real)
unfolding steps
still-stays d n real g alike valid run calm still =
    let next = Directly-next d n real g alike valid run calm in
    let now : State = steps d n real in
    let then : State = steps d (suc n) real in
    let cells : then.cells ≡ now.cells = next.storage ∙ ap (λ (x : State). with_grant real.cells g.base x.cells) still ∙ sym run.storage in
    let psw : then.psw ≡ now.psw = next.runs.under ∙ ap (λ (x : State). composed x.psw g.base g.size) still ∙ sym run.runs.under in
    record {
      untrapped = calm;
      still = ap (λ cs. let t : State = record { cells = cs; psw = then.psw } in t) cells ∙ ap (λ (x : Psw). let t : State = record { cells = now.cells; psw = x } in t) psw;
    }

-- ---- bursts

-- the steps of a burst that left the hardware in user mode are calm
calm-before : (d : Desc) (k n j : ℕ) (real : State) (g : Guest) → IsAlikeIn d g.psw.mode → IsValid d → Runs d real g → 0 < k → n ≡ burst_length d k real →
    (steps d n real).psw.mode ≡ U → j < n → traps d (steps d j real) ≡ false
unfolding steps
calm-before d k zero j real g alike valid r some done user below = absurd (omega (arith, below))
calm-before d k (suc m) j real g alike valid r some done user below = elim (cases_lt j m) [
  | inl before ↦ burst_length-goes_on d k j real (omega (arith, done, before))
  | inr last ↦
      let same : m ≡ j = omega (arith, below, last) in
      let run = direct-before d k (suc m) m real g alike valid r done (omega arith) in
      subst (λ i. traps d (steps d i real) ≡ false) same
      (Runs-calm d (steps d m real) (with_psw g (steps d m (virtual real.cells g)).psw) valid run.runs user)
]

-- of such a burst: what the hardware tells of its state holds of the guest's
pub tells-direct : (d : Desc) (k n : ℕ) (real : State) (g : Guest) (told : Option ℕ) → IsAlikeIn d g.psw.mode → IsValid d → Runs d real g → 0 < k → n ≡ burst_length d k real →
    (steps d n real).psw.mode ≡ U → TellsStill d n real told → TellsFirst d n (virtual real.cells g) told
tells-direct d k n real g None alike valid r some done user none =
    λ j below still. none j below (still-stays d j real g alike valid (direct-before d k n j real g alike valid r done below) (calm-before d k n j real g alike valid r some done user below) still)
tells-direct d k n real g (Some m) alike valid r some done user told = record {
  before = told.before;
  still = stays-still d m real g alike valid (direct-before d k n m real g alike valid r done told.before) told.stays;
  first = λ j below still.
      let within : j < n = omega (arith, below, told.before) in
      told.first j below (still-stays d j real g alike valid (direct-before d k n j real g alike valid r done within) (calm-before d k n j real g alike valid r some done user within) still);
}

-- before a step that traps no state was still
none-before : (d : Desc) (k n : ℕ) (real : State) (g : Guest) (stopped : Stopped d n real g) → IsAlikeIn d g.psw.mode → IsValid d → Runs d real g → n ≡ burst_length d k real →
    NoneStill d stopped.before (virtual real.cells g)
none-before d k n real g stopped alike valid r done j below still =
    let m = stopped.before in
    let calm = burst_length-goes_on d k j real (omega (arith, done, stopped.done, below)) in
    let stays = still-stays d j real g alike valid (direct-before d k n j real g alike valid r done (omega (arith, stopped.done, below))) calm still in
    let whole : j + (m - j) ≡ m = omega (arith, below) in
    let there : steps d m real ≡ steps d j real = ap (λ i. steps d i real) (sym whole) ∙ sym (steps-add d j (m - j) real) ∙ steps-stay d (m - j) (steps d j real) stays.still in
    true≢false (sym stopped.stops ∙ ap (traps d) there ∙ calm)

-- of a burst whose last step trapped and was interpreted: it is told of that step
pub tells-still : (d : Desc) (k n : ℕ) (real mid : State) (g h : Guest) (stopped : Stopped d n real g) → IsAlikeIn d g.psw.mode → IsValid d → Runs d real g → n ≡ burst_length d k real →
    Halted d stopped.before real mid g h → IsStill d (virtual mid.cells h) → TellsFirst d n (virtual real.cells g) (Some (n - 1))
tells-still d k n real mid g h stopped alike valid r done halted still =
    let last : stopped.before ≡ n - 1 = omega (arith, stopped.done) in
    subst (λ m. StillFirst d m n (virtual real.cells g)) last
    (record { before = omega (arith, stopped.done); still = subst (IsStill d) halted.state still; first = none-before d k n real g stopped alike valid r done })

pub tells-moves : (d : Desc) (k n : ℕ) (real mid : State) (g h : Guest) (stopped : Stopped d n real g) → IsAlikeIn d g.psw.mode → IsValid d → Runs d real g → n ≡ burst_length d k real →
    Halted d stopped.before real mid g h → (IsStill d (virtual mid.cells h) → ⊥) → NoneStill d n (virtual real.cells g)
tells-moves d k n real mid g h stopped alike valid r done halted moves j below still = elim (cases_lt j stopped.before) [
  | inl before ↦ none-before d k n real g stopped alike valid r done j before still
  | inr last ↦
      let same : j ≡ stopped.before = omega (arith, below, last, stopped.done) in
      moves (subst (IsStill d) (sym halted.state) (subst (λ i. IsStill d (steps d i (virtual real.cells g))) same still))
]

-- ---- turns after turns

pub TellsFirst-then : (d : Desc) (m k : ℕ) (s : State) (before told : Option ℕ) → TellsFirst d m s before → TellsFirst d k (steps d m s) told →
    TellsFirst d (m + k) s (first_of before m told)
TellsFirst-then d m k s (Some n) told one two = record { before = (let within = one.before in omega (arith, within)); still = one.still; first = one.first }
TellsFirst-then d m k s None None one two = λ j below still. elim (cases_lt j m) [
  | inl less ↦ one j less still
  | inr more ↦
      let whole : m + (j - m) ≡ j = omega (arith, more) in
      two (j - m) (omega (arith, below, more)) (subst (IsStill d) (ap (λ i. steps d i s) (sym whole) ∙ sym (steps-add d m (j - m) s)) still)
]
TellsFirst-then d m k s None (Some n) one two = record {
  before = (let within = two.before in omega (arith, within));
  still = subst (IsStill d) (steps-add d m n s) two.still;
  first = λ j below still. elim (cases_lt j m) [
    | inl less ↦ one j less still
    | inr more ↦
        let whole : m + (j - m) ≡ j = omega (arith, more) in
        two.first (j - m) (omega (arith, below, more)) (subst (IsStill d) (ap (λ i. steps d i s) (sym whole) ∙ sym (steps-add d m (j - m) s)) still)
  ];
}

-- what is told can be counted where all turns can
pub first-fits : (d : Desc) (m k : ℕ) (s : State) (told : Option ℕ) → TellsFirst d k s told → m + k < 2 ^ 64 → IfSome told (λ n. m + n < 2 ^ 64)
first-fits d m k s None tells fits = tt
first-fits d m k s (Some n) tells fits = (let within = tells.before in omega (arith, within, fits))

-- no turn
pub TellsFirst-none : (d : Desc) (n : ℕ) (s : State) → n ≡ 0 → TellsFirst d n s None
TellsFirst-none d n s none j below still = absurd (omega (arith, below, none))

-- so many turns, from this state
pub TellsFirst-as : (d : Desc) (m n : ℕ) (s t : State) (told : Option ℕ) → m ≡ n → s ≡ t → TellsFirst d m s told → TellsFirst d n t told
TellsFirst-as d m n s t told same from tells = subst (λ k. TellsFirst d k t told) same (subst (λ x. TellsFirst d m x told) from tells)

-- the guest that was selected is the one of the number
pub TellsFirst-guest : (d e : Desc) (n : ℕ) (cells mid : List ℕ) (gs : List Guest) (k : ℕ) (g h : Guest) (told : Option ℕ) → e ≡ d → mid ≡ cells → slice_get gs k ≡ Some g → slice_get gs k ≡ Some h →
    TellsFirst e n (virtual mid g) told → TellsFirst d n (virtual cells h) told
TellsFirst-guest d e n cells mid gs k g h told machine same is is' tells =
    subst (λ (x : Guest). TellsFirst d n (virtual cells x) told) (same_Some g h (sym is ∙ is'))
    (subst (λ xs. TellsFirst d n (virtual xs g) told) same
    (subst (λ x. TellsFirst x n (virtual mid g) told) machine tells))
