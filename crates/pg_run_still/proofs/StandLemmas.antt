-- Bare machines on the way to a state that is still.
use Rattle.std.proofs.Common.{◌≡◌, ℕ, zero, suc, ◌+◌, ◌-◌, ◌<◌, ◌≤◌, List, ◌++◌, length, replicate, Option, Some, Bool, true, false, inl, inr, refl, sym, ◌∙◌, ap, subst, arith}
use Rattle.std.proofs.lemmas.Bool.{cases_lt}
use Rattle.std.proofs.lemmas.List.{append-nil, drop_all, length-append, length-replicate, take_all}
use Rattle.pg_word.specs.declared.psw.Psw.{Psw}
use Rattle.pg_word.specs.Psw.{IsPsw}
use Rattle.pg_ast.specs.declared.tree.Desc.{Desc}
use Rattle.pg_lang_meaning.specs.States.{State, IsState}
use Rattle.pg_lang_meaning.specs.Steps.{bare, power_on, step, steps}
use Rattle.pg_lang_meaning.proofs.StepLaws.{steps-add, steps-stay}
use Rattle.pg_lang_valid.specs.Valid.{IsValid}
use Rattle.pg_lang_valid.proofs.StepSound.{power_on-state, step-length, step-state, steps-length}
use Rattle.pg_hw.specs.Bursts.{burst_length, traps}
use Rattle.pg_hw.specs.Machinery.{Machinery, at_psw, loaded_with}
use Rattle.pg_hw.specs.Serving.{IsServed, IsServedPsw, blank}
use Rattle.pg_hw.specs.Stillness.{IsStill, NoneStays, StaysFirst}
use Rattle.pg_hw.proofs.BurstLaws.{burst_length-goes_on}
use Rattle.pg_monitor.specs.Settling.{NoneStill, StillFirst, TellsFirst}
use Rattle.pg_routine.specs.Granting.{guest_at, with_grant, GrantPoked}
use Rattle.pg_run_still.specs.declared.bare.Met.{Met}
use Rattle.pg_run_still.specs.declared.bare.Met.TheVariants.{First, About}
use Rattle.pg_run_still.specs.Running.{steps_of_rest}
use Rattle.pg_run_still.specs.Bare.{CanStand, IsMet, StillAbout, Stood}

-- ---- one step

pub steps-none : (d : Desc) (s : State) → s ≡ steps d 0 s
unfolding steps
steps-none d s = refl

pub step-next : (d : Desc) (n : ℕ) (s : State) → step d (steps d n s) ≡ steps d (n + 1) s
unfolding steps
step-next d n s = let e : suc n ≡ n + 1 = omega arith in subst (λ m. step d (steps d n s) ≡ steps d m s) e refl

-- the state behind one that is still is still
still-next : (d : Desc) (n : ℕ) (s : State) → IsStill d (steps d n s) → IsStill d (steps d (n + 1) s)
still-next d n s still = subst (IsStill d) (sym still ∙ step-next d n s) still

-- ---- an interpreted step of the whole storage

pub whole-guest : (s : State) (size : ℕ) (psw : Psw) → size ≡ length s.cells → psw ≡ s.psw → guest_at s.cells 0 size psw ≡ s
whole-guest s size psw whole fields =
    ap (λ cs. at_psw cs psw) (take_all size s.cells (omega (arith, whole))) ∙ ap (λ x. at_psw s.cells x) fields

pub whole-state : (d : Desc) (s : State) (size : ℕ) (psw : Psw) → size ≡ length s.cells → psw ≡ s.psw → IsState d s → IsState d (guest_at s.cells 0 size psw)
whole-state d s size psw whole fields sound = subst (IsState d) (sym (whole-guest s size psw whole fields)) sound

whole-grant : (cells new : List ℕ) → length new ≡ length cells → with_grant cells 0 new ≡ new
whole-grant cells new same = ap (λ xs. new ++ xs) (drop_all (0 + length new) cells (omega (arith, same))) ∙ append-nil new

pub whole-step : (d : Desc) (size : ℕ) (psw after : Psw) (old mid new : Machinery) → IsValid d → IsState d old.state → size ≡ length old.state.cells → psw ≡ old.state.psw →
    GrantPoked 0 (step d (guest_at old.state.cells 0 size psw)).cells 8 old mid → after ≡ (step d (guest_at old.state.cells 0 size psw)).psw → new ≡ loaded_with after mid →
    new.state ≡ step d old.state
whole-step d size psw after old mid new valid sound whole fields poked moved loaded =
    let is = whole-guest old.state size psw whole fields in
    let next : State = step d old.state in
    let cells : mid.state.cells ≡ next.cells =
    ap (λ (x : State). x.cells) poked.state ∙ ap (λ (x : State). with_grant old.state.cells 0 (step d x).cells) is ∙ whole-grant old.state.cells next.cells (step-length d old.state valid sound) in
    let psw_after : after ≡ next.psw = moved ∙ ap (λ (x : State). (step d x).psw) is in
    ap (λ (m : Machinery). m.state) loaded ∙ ap (λ xs. at_psw xs after) cells ∙ ap (λ x. at_psw next.cells x) psw_after

-- the hardware may be given the status word behind it
pub whole-served : (serves : Desc → Type 0) (d : Desc) (s : State) (size : ℕ) (psw after : Psw) → IsServed serves d → IsValid d → IsState d s → size ≡ length s.cells → psw ≡ s.psw →
    after ≡ (step d (guest_at s.cells 0 size psw)).psw → IsServedPsw serves after
whole-served serves d s size psw after served valid sound whole fields moved =
    let sound_next = step-state d s valid sound in
    record {
      machine = d;
      served = served;
      fits = subst (IsPsw d.address) (sym (moved ∙ ap (λ (x : State). (step d x).psw) (whole-guest s size psw whole fields))) sound_next.fields;
    }

-- ---- states before that are not still

pub none-first : (d : Desc) (s : State) → NoneStill d 0 s
none-first d s j before still = absurd (omega (arith, before))

none-more : (d : Desc) (n : ℕ) (s : State) → NoneStill d n s → (IsStill d (steps d n s) → ⊥) → NoneStill d (n + 1) s
none-more d n s none moves j before still = elim (cases_lt j n) [
  | inl less ↦ none j less still
  | inr more ↦ let e : j ≡ n = omega (arith, before, more) in moves (subst (λ i. IsStill d (steps d i s)) e still)
]

-- those behind a burst, but that with which it ended
pub none-burst : (d : Desc) (k done n : ℕ) (s t : State) → t ≡ steps d done s → n ≡ burst_length d k t → NoneStill d done s → NoneStays d n t → NoneStill d (done + (n - 1)) s
none-burst d k done n s t from count none stays j before still = elim (cases_lt j done) [
  | inl less ↦ none j less still
  | inr more ↦
      let i : ℕ = j - done in
      let whole : done + i ≡ j = omega (arith, more) in
      let there : steps d i t ≡ steps d j s = ap (steps d i) from ∙ steps-add d done i s ∙ ap (λ m. steps d m s) whole in
      stays i (omega (arith, before, more)) (record {
        untrapped = burst_length-goes_on d k i t (omega (arith, before, more, count));
        still = subst (IsStill d) (sym there) still;
      })
]

-- that one too, where the step behind it does not trap
pub none-calm : (d : Desc) (done n : ℕ) (s t now : State) → t ≡ steps d done s → now ≡ steps d n t → NoneStill d (done + (n - 1)) s → NoneStays d n t → traps d now ≡ false →
    NoneStill d (done + n) s
none-calm d done n s t now from here none stays calm j before still = elim (cases_lt j (done + (n - 1))) [
  | inl less ↦ none j less still
  | inr more ↦
      let i : ℕ = n - 1 in
      let whole : done + i ≡ j = omega (arith, before, more) in
      let last : i + 1 ≡ n = omega (arith, before, more) in
      let there : steps d i t ≡ steps d j s = ap (steps d i) from ∙ steps-add d done i s ∙ ap (λ m. steps d m s) whole in
      let stands : IsStill d (steps d i t) = subst (IsStill d) (sym there) still in
      let same : now ≡ steps d i t = here ∙ ap (λ m. steps d m t) (sym last) ∙ sym (step-next d i t) ∙ stands in
      stays i (omega (arith, last)) (record { untrapped = ap (traps d) (sym same) ∙ calm; still = stands })
]

-- and both, where the step behind it moves
pub none-moves : (d : Desc) (b at : ℕ) (s : State) → at ≤ b + 1 → NoneStill d b s → (IsStill d (steps d at s) → ⊥) → NoneStill d (at + 1) s
none-moves d b at s most none moves j before still = elim (cases_lt j b) [
  | inl less ↦ none j less still
  | inr more ↦ elim (cases_lt j at) [
    | inl under ↦
        let e : j + 1 ≡ at = omega (arith, under, more, most) in
        moves (subst (λ i. IsStill d (steps d i s)) e (still-next d j s still))
    | inr over ↦ let e : j ≡ at = omega (arith, before, over) in moves (subst (λ i. IsStill d (steps d i s)) e still)
  ]
]

-- ---- a state that is still

-- of more steps
pub first-within : (d : Desc) (n k most : ℕ) (s : State) → k ≤ most → StillFirst d n k s → StillFirst d n most s
first-within d n k most s within first = record { before = (let b = first.before in omega (arith, b, within)); still = first.still; first = first.first }

-- told by a burst
pub first-burst : (d : Desc) (k done n m most : ℕ) (s t : State) → t ≡ steps d done s → n ≡ burst_length d k t → done + n ≤ most → NoneStill d done s → StaysFirst d m n t →
    StillFirst d (done + m) most s
first-burst d k done n m most s t from count within none told =
    let below = told.before in
    let there : steps d m t ≡ steps d (done + m) s = ap (steps d m) from ∙ steps-add d done m s in
    record {
      before = omega (arith, below, within);
      still = subst (IsStill d) there told.stays.still;
      first = λ j before still. elim (cases_lt j done) [
        | inl less ↦ none j less still
        | inr more ↦
            let i : ℕ = j - done in
            let whole : done + i ≡ j = omega (arith, more) in
            let here : steps d i t ≡ steps d j s = ap (steps d i) from ∙ steps-add d done i s ∙ ap (λ x. steps d x s) whole in
            told.first i (omega (arith, before, more)) (record {
              untrapped = burst_length-goes_on d k i t (omega (arith, before, more, below, count));
              still = subst (IsStill d) (sym here) still;
            })
      ];
    }

-- where that burst ends
pub reached-burst : (d : Desc) (done n m : ℕ) (s t now : State) → t ≡ steps d done s → now ≡ steps d n t → StaysFirst d m n t → now ≡ steps d (done + m) s
reached-burst d done n m s t now from here told =
    let below = told.before in
    let whole : m + (n - m) ≡ n = omega (arith, below) in
    here ∙ ap (λ x. steps d x t) (sym whole) ∙ sym (steps-add d m (n - m) t) ∙ steps-stay d (n - m) (steps d m t) told.stays.still ∙ ap (steps d m) from ∙ steps-add d done m s

-- it is this one or the one before
pub about-first : (d : Desc) (n : ℕ) (s : State) → StillAbout d n s → IsStill d (steps d (n - 1) s) → StillFirst d (n - 1) (n + 1) s
about-first d n s about still = record { before = omega arith; still = still; first = about.none }

pub about-second : (d : Desc) (n : ℕ) (s : State) → StillAbout d n s → (IsStill d (steps d (n - 1) s) → ⊥) → StillFirst d n (n + 1) s
about-second d n s about moves =
    let some = about.some in
    let whole : (n - 1) + 1 ≡ n = omega (arith, some) in
    record { before = omega arith; still = about.still; first = subst (λ k. NoneStill d k s) whole (none-more d (n - 1) s about.none moves) }

-- ---- what is met

-- where the state behind a burst is still
pub met-behind : (d : Desc) (most done k n : ℕ) (s t now after : State) (trapped : Bool) (met : Met) → t ≡ steps d done s → now ≡ steps d n t → n ≡ burst_length d k t → done + n < most →
    NoneStill d done s → NoneStays d n t → trapped ≡ traps d now → IsStill d now → after ≡ now → (trapped ≡ true → 1 ≤ n → met ≡ About (done + n)) →
    (trapped ≡ false → met ≡ First (Some (done + n))) → (n ≡ 0 → met ≡ First (Some (done + n))) → IsMet d most s met after
met-behind d most done k n s t now after trapped met from here count within none stays traps_now still same about calm nothing = by trapped refl
  where
    there : now ≡ steps d (done + n) s
    there = here ∙ ap (steps d n) from ∙ steps-add d done n s

    held : IsStill d (steps d (done + n) s)
    held = subst (IsStill d) there still

    before : NoneStill d (done + (n - 1)) s
    before = none-burst d k done n s t from count none stays

    by_count : (m : ℕ) → n ≡ m → trapped ≡ true → IsMet d most s met after
    by_count zero e is =
        let whole : done + (n - 1) ≡ done + n = omega (arith, e) in
        subst (λ x. IsMet d most s x after) (sym (nothing e)) (record {
          first = record { before = within; still = held; first = subst (λ x. NoneStill d x s) whole before };
          reached = same ∙ there;
        })
    by_count (suc m) e is =
        let whole : done + (n - 1) ≡ (done + n) - 1 = omega (arith, e) in
        subst (λ x. IsMet d most s x after) (sym (about is (omega (arith, e)))) (record {
          before = within;
          about = record { some = omega (arith, e); still = held; none = subst (λ x. NoneStill d x s) whole before };
          reached = same ∙ there;
        })

    by : (b : Bool) → trapped ≡ b → IsMet d most s met after
    by false is =
        subst (λ x. IsMet d most s x after) (sym (calm is)) (record {
          first = record { before = within; still = held; first = none-calm d done n s t now from here before stays (sym traps_now ∙ is) };
          reached = same ∙ there;
        })
    by true is = by_count n refl is

-- ---- a machine that is switched on

pub blank-long : (n : ℕ) → length (blank n).cells ≡ n
unfolding blank
blank-long n = length-replicate {A = ℕ} n 0

pub stand-state : (d : Desc) (grant : ℕ) (image : List ℕ) → IsValid d → CanStand d grant image → IsState d (power_on image grant)
stand-state d grant image valid can = power_on-state d image grant valid can.least can.most (let whole = can.whole in omega (arith, whole)) can.words

on-long : (image : List ℕ) (grant : ℕ) → length image ≡ grant → length (power_on image grant).cells ≡ grant
unfolding power_on
on-long image grant whole = omega (arith, whole, length-append image (replicate (grant - length image) 0), length-replicate {A = ℕ} (grant - length image) 0)

-- it met a state that is first still, or none
pub stood-first : (d : Desc) (grant most : ℕ) (image : List ℕ) (still : Option ℕ) (on now : State) (met : Met) → IsMet d most on met now → met ≡ First still → on ≡ power_on image grant →
    Stood d grant most image still now
unfolding bare
stood-first d grant most image still on now met is_met is from =
    let first = subst (λ m. IsMet d most on m now) is is_met in
    record {
      first = subst (λ s. TellsFirst d most s still) from first.first;
      reached = first.reached ∙ ap (λ s. steps d (steps_of_rest most still) s) from;
    }

-- it met one that may be the second, and was switched on anew
pub about-long : (d : Desc) (grant most n : ℕ) (image : List ℕ) (on mid : State) (met : Met) → IsValid d → CanStand d grant image → IsMet d most on met mid → met ≡ About n →
    on ≡ power_on image grant → length image ≡ length mid.cells
about-long d grant most n image on mid met valid can is_met is from =
    let about = subst (λ m. IsMet d most on m mid) is is_met in
    let sound : IsState d on = subst (IsState d) (sym from) (stand-state d grant image valid can) in
    let whole = can.whole in
    sym (ap (λ (s : State). length s.cells) about.reached ∙ steps-length d n on valid sound ∙ ap (λ (s : State). length s.cells) from ∙ on-long image grant whole ∙ sym whole)

pub about-again : (d : Desc) (grant most n : ℕ) (image : List ℕ) (on mid again : State) (met : Met) → IsMet d most on met mid → met ≡ About n → on ≡ power_on image grant →
    again ≡ power_on image grant → StillAbout d n again
about-again d grant most n image on mid again met is_met is from anew =
    let about = subst (λ m. IsMet d most on m mid) is is_met in
    subst (StillAbout d n) (from ∙ sym anew) about.about

pub stood-about : (d : Desc) (grant most n r : ℕ) (image : List ℕ) (on mid again now : State) (met : Met) → IsMet d most on met mid → met ≡ About n → again ≡ power_on image grant →
    StillFirst d r (n + 1) again → now ≡ steps d r again → Stood d grant most image (Some r) now
unfolding bare
stood-about d grant most n r image on mid again now met is_met is anew first here =
    let about = subst (λ m. IsMet d most on m mid) is is_met in
    let within = about.before in
    record {
      first = subst (λ s. TellsFirst d most s (Some r)) anew (first-within d r (n + 1) most again (omega (arith, within)) first);
      reached = here ∙ ap (λ s. steps d r s) anew;
    }
