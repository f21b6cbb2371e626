-- A level: what its calls keep, and what they leave of it.
use Rattle.std.proofs.Common.{◌≡◌, ℕ, ◌+◌, ◌-◌, ◌<◌, ◌≤◌, List, [], ◌∷◌, length, Option, None, Some, slice_get, slice_set, refl, sym, ◌∙◌, ap, subst, arith}
use Rattle.std.proofs.Props.{props}
use Rattle.std.proofs.Math.Logic.{∥∥₁_elim, ∥∥₁_map}
use Rattle.pg_word.specs.declared.psw.Psw.{Psw}
use Rattle.pg_ast.specs.declared.tree.Desc.{Desc}
use Rattle.pg_mach_ready.specs.declared.machine.Machine.{Machine}
use Rattle.pg_lang_meaning.specs.States.{State, IsState}
use Rattle.pg_lang_meaning.specs.Steps.{step, steps}
use Rattle.pg_type.specs.Agreeing.{Agree}
use Rattle.pg_alloc.specs.Fit.{kept_cells}
use Rattle.pg_hw.specs.declared.counts.Counts.{Counts}
use Rattle.pg_hw.specs.Tallies.{Bottom, after_steps, raised_by}
use Rattle.pg_hw.specs.Bursts.{untrapped_at, untrapped_among, burst_length, BottomRises}
use Rattle.pg_hw.specs.Machinery.{Machinery, at_psw}
use Rattle.pg_hw.specs.Running.{after_run}
use Rattle.pg_hw.specs.Serving.{IsServed, blank}
use Rattle.pg_hw.proofs.BurstLaws.{steps-one, burst_length-one, untrapped_among-one}
use Rattle.pg_routine.specs.Granting.{guest_at}
use Rattle.pg_mon_control.specs.declared.guest.Guest.{Guest}
use Rattle.pg_mon_control.specs.Current.{with_psw}
use Rattle.pg_mon_control.specs.Standing.{Stands}
use Rattle.pg_mon_control.proofs.DirectLemmas.{Holds-length}
use Rattle.pg_monitor.specs.declared.monitor.Monitor.{Monitor}
use Rattle.pg_monitor.specs.Monitors.{desc_of}
use Rattle.pg_nest.specs.Presenting.{first_guest, first_state, Presents, PresentsAny, IsMonitorOf}
use Rattle.pg_nest.specs.Levels.{presented, level_of, Carries}
use Rattle.pg_nest.specs.Bursting.{Burst}
use Rattle.pg_nest.proofs.AgreeingBursts.{burst-agreed}
use Rattle.pg_nest.proofs.PresentLemmas.{presents-of}

-- ---- what is kept where the hardware below is the same one

pub kept-served : {F : Type 0} (serves : F → Desc → Type 0) (old new : F) (d : Desc) → new ≡ old → IsServed (serves old) d → IsServed (serves new) d
kept-served serves old new d same served = subst (λ f. IsServed (serves f) d) (sym same) served

pub kept-room : {F : Type 0} (room : F → ℕ) (old new : F) (n : ℕ) → new ≡ old → n ≤ room old → n ≤ room new
kept-room room old new n same most = subst (λ f. n ≤ room f) (sym same) most

pub kept-runs : (d : Desc) (m m' : Monitor) → m'.accepted.machine.now ≡ m.accepted.machine.now → ∥ desc_of m ≡ d ∥₁ → ∥ desc_of m' ≡ d ∥₁
kept-runs d m m' same runs = ∥∥₁_map runs (λ is. ap (λ (x : Machine). x.desc) same ∙ is)

pub some-runs : (d : Desc) (o : Option Monitor) (m : Monitor) → o ≡ Some m → IsMonitorOf d o → ∥ desc_of m ≡ d ∥₁
some-runs d o m is runs = subst (IsMonitorOf d) is runs

pub some-presents : (real : State) (o : Option Monitor) (m : Monitor) → o ≡ Some m → PresentsAny real o → Presents (desc_of m) real m.guests m.current
some-presents real o m is p = subst (PresentsAny real) is p

pub presents-machine : (m m' : Monitor) (real : State) → m'.accepted.machine.now ≡ m.accepted.machine.now → Presents (desc_of m) real m'.guests m'.current → Presents (desc_of m') real m'.guests m'.current
presents-machine m m' real same p = subst (λ (x : Machine). Presents x.desc real m'.guests m'.current) (sym same) p

-- behind a poke the guests are the same
pub poked-presents : (m m' : Monitor) (real now : State) → Presents (desc_of m) real m.guests m.current → Stands (desc_of m) now m'.guests m'.current → m'.guests ≡ m.guests →
    Presents (desc_of m) now m'.guests m'.current
poked-presents m m' real now p stands same =
    presents-of (desc_of m) now m'.guests m'.current stands
    (same ∙ p.alone ∙ ap (λ (gs : List Guest). let l : List Guest = first_guest gs ∷ [] in l) (sym same))
    (ap (λ gs. (first_guest gs).base) same ∙ p.base)

-- behind another program status word too, but for that word
pub reset-alone : (gs hs : List Guest) (psw : Psw) → gs ≡ first_guest gs ∷ [] → hs ≡ slice_set gs 0 (with_psw (first_guest gs) psw) → hs ≡ with_psw (first_guest gs) psw ∷ []
reset-alone gs hs psw alone is = is ∙ ap (λ (l : List Guest). slice_set l 0 (with_psw (first_guest gs) psw)) alone

pub reset-presents : (m m' : Monitor) (real now : State) (psw : Psw) → Presents (desc_of m) real m.guests m.current → Stands (desc_of m) now m'.guests m'.current →
    m'.guests ≡ slice_set m.guests 0 (with_psw (first_guest m.guests) psw) → Presents (desc_of m) now m'.guests m'.current
reset-presents m m' real now psw p stands is =
    let one = reset-alone m.guests m'.guests psw p.alone is in
    let first : first_guest m'.guests ≡ with_psw (first_guest m.guests) psw = ap first_guest one in
    presents-of (desc_of m) now m'.guests m'.current stands
    (one ∙ ap (λ (g : Guest). let l : List Guest = g ∷ [] in l) (sym first))
    (ap (λ (g : Guest). g.base) first ∙ p.base)

-- ---- a level that was just installed

pub level-installed : (h h' : Machinery) (o : Option Monitor) (m : Monitor) (idle : Psw) (c : Counts) (size : ℕ) → first_state h'.state.cells m.guests ≡ blank size → h'.bottom ≡ h.bottom →
    level_of h' (Some m) idle c ≡ record (level_of h o idle c) { state = blank size }
level-installed h h' o m idle c size state bottom =
    ap (λ (s : State). let x : Machinery = record { state = s; tally = c; bottom = h'.bottom } in x) state
    ∙ ap (λ (b : Bottom). let x : Machinery = record { state = blank size; tally = c; bottom = b } in x) bottom

pub level-same : (h h' : Machinery) (o : Option Monitor) (idle : Psw) (c : Counts) → h' ≡ h → level_of h' o idle c ≡ level_of h o idle c
level-same h h' o idle c same = ap (λ x. level_of x o idle c) same

-- ---- what a level is made of

carries-presents : (d : Desc) (real : State) (m : Monitor) → Presents d real m.guests m.current → Carries d (first_state real.cells m.guests) real
carries-presents d real m p =
    let g = first_guest m.guests in
    let len = Holds-length d real g p.holds in
    record {
      size = p.holds.size;
      control = p.holds.control;
      guest = ap (λ b. guest_at real.cells b g.size g.psw) p.base ∙ ap (λ n. guest_at real.cells 2 n g.psw) (sym len);
    }

Carries-prop : (d : Desc) (upper real : State) → IsProp (Carries d upper real)
Carries-prop d upper real = hlevel props

pub carries-of : (d : Desc) (real : State) (o : Option Monitor) (idle : Psw) → IsMonitorOf d o → PresentsAny real o → 1 ≤ length (presented real o idle).cells → Carries d (presented real o idle) real
carries-of d real None idle runs p some = absurd (omega (arith, some))
carries-of d real (Some m) idle runs p some =
    ∥∥₁_elim {P = Carries d (first_state real.cells m.guests) real} runs (Carries-prop d (first_state real.cells m.guests) real)
    (λ is. subst (λ e. Carries e (first_state real.cells m.guests) real) is (carries-presents (desc_of m) real m p))

-- ---- bursts

pub counts-of : (c : Counts) (n u steps untrapped : ℕ) → steps ≡ raised_by n c.steps → untrapped ≡ raised_by u c.untrapped →
    record { steps = steps; untrapped = untrapped; pokes = c.pokes; loads = c.loads } ≡ after_steps c n u
counts-of c n u steps untrapped is also =
    ap (λ x. let k : Counts = record { steps = x; untrapped = untrapped; pokes = c.pokes; loads = c.loads } in k) is
    ∙ ap (λ x. let k : Counts = record { steps = raised_by n c.steps; untrapped = x; pokes = c.pokes; loads = c.loads } in k) also

module _ (e : Desc) (h h' : Machinery) (o : Option Monitor) (m m' : Monitor) (idle : Psw) (c c' : Counts) (k n u : ℕ) where
  pub record IsBurst : Type 0 where
    pub monitor : o ≡ Some m
    pub agrees : ∥ Agree (desc_of m) e ∥₁
    pub count : n ≡ burst_length (desc_of m) k (first_state h.state.cells m.guests)
    pub state : first_state h'.state.cells m'.guests ≡ steps (desc_of m) n (first_state h.state.cells m.guests)
    pub untrapped : u ≡ untrapped_among (desc_of m) n (first_state h.state.cells m.guests)
    pub bottom : BottomRises (desc_of m) n (first_state h.state.cells m.guests) h.bottom h'.bottom
    pub counted : c' ≡ after_steps c n u

  pub level-burst : IsBurst → Burst e k n (level_of h o idle c) (level_of h' (Some m') idle c')
  level-burst b =
      subst (λ x. Burst e k n (level_of h x idle c) (level_of h' (Some m') idle c')) (sym b.monitor)
      (burst-agreed (desc_of m) e k n (level_of h (Some m) idle c) (level_of h' (Some m') idle c') b.agrees
      (record { count = b.count; ran = record { state = b.state; tally = b.counted ∙ ap (after_steps c n) b.untrapped; bottom = b.bottom } }))

-- a burst of one step is a step
module _ (e : Desc) (n : ℕ) (old new : Machinery) (b : Burst e 1 n old new) where
  pub one-count : n ≡ 1
  one-count = b.count ∙ burst_length-one e old.state

  pub one-state : new.state ≡ step e old.state
  one-state = b.ran.state ∙ ap (λ k. steps e k old.state) one-count ∙ steps-one e old.state

  pub one-tally : new.tally ≡ after_steps old.tally 1 (untrapped_at e old.state)
  one-tally = b.ran.tally ∙ ap (λ k. after_run e old.tally k old.state) one-count ∙ ap (λ u. after_steps old.tally 1 u) (untrapped_among-one e old.state)

  pub one-bottom : BottomRises e 1 old.state old.bottom new.bottom
  one-bottom = subst (λ k. BottomRises e k old.state old.bottom new.bottom) one-count b.ran.bottom
