-- Bursts of the hardware for the guest that it runs: direct steps, and one that traps as the last.
use Rattle.std.proofs.Common.{◌≡◌, ℕ, zero, suc, ◌+◌, ◌<◌, Bool, true, false, not, if◌then◌else◌, List, length, slice_set, slice_index, slice_get, Some, lit<, refl, sym, ◌∙◌, ap, subst, arith}
use Rattle.std.proofs.lemmas.List.{length-set}
use Rattle.std.proofs.lemmas.Option.{get_or_from_slice_get}
use Rattle.pg_word.specs.declared.shape.Shape.{Shape}
use Rattle.pg_word.specs.declared.psw.Psw.{Psw}
use Rattle.pg_word.specs.declared.psw.Mode.TheVariants.{S, U}
use Rattle.pg_word.specs.Psw.{packed, power_on_psw, unpacked}
use Rattle.pg_ast.specs.declared.tree.Desc.{Desc}
use Rattle.pg_lang_meaning.specs.States.{State, IsState, shape_of}
use Rattle.pg_lang_meaning.specs.Steps.{step, steps}
use Rattle.pg_lang_valid.specs.Valid.{IsValid}
use Rattle.pg_lang_valid.proofs.StepSound.{step-state}
use Rattle.pg_hw.specs.Bursts.{traps, one_if, untrapped_among, supervisor_among, burst_length}
use Rattle.pg_hw.proofs.BurstLaws.{burst_length-goes_on, burst_length-some, untrapped_at-trap}
use Rattle.pg_mon_control.specs.declared.guest.Guest.{Guest}
use Rattle.pg_mon_control.specs.Guests.{virtual}
use Rattle.pg_mon_control.specs.Direct.{is_direct, direct_among}
use Rattle.pg_mon_control.specs.Traps.{trap_cell, trap_word}
use Rattle.pg_mon_control.specs.Current.{Holds, Runs, with_psw}
use Rattle.pg_mon_control.proofs.CellLemmas.{set_first-guest, set_first-second, cell_of}
use Rattle.pg_mon_control.proofs.DirectLemmas.{Runs-user, Runs-direct, DirectStep-of, TrapStep, TrapStep-of, IsAlikeIn}
use Rattle.pg_mon_control.proofs.RunLemmas.{Directly, Directly-next, Directly-all, supervisor_at-user}

-- ---- a burst

control-mode : (x : Psw) (q : ℕ) → x ≡ power_on_psw q → x.mode ≡ S
control-mode x q e = ap (λ (y : Psw). y.mode) e

-- a burst that ended with a step that traps
pub record Stopped (d : Desc) (n : ℕ) (real : State) (g : Guest) : Type 0 where
  pub before : ℕ
  pub done : n ≡ suc before
  pub directly : Directly d before real g
  pub stops : traps d (steps d before real) ≡ true

last_directly : (d : Desc) (k m : ℕ) (real : State) (g : Guest) → IsAlikeIn d g.psw.mode → IsValid d → Runs d real g → suc m ≡ burst_length d k real → Directly d m real g
last_directly d k m real g alike valid r e =
    Directly-all d m real g alike valid r (λ j below. burst_length-goes_on d k j real (omega (arith, e)))

user_last : (d : Desc) (m : ℕ) (real : State) (g : Guest) (b : Bool) → IsAlikeIn d g.psw.mode → IsValid d → Directly d m real g → traps d (steps d m real) ≡ b →
    (steps d (suc m) real).psw.mode ≡ U → Directly d (suc m) real g
unfolding steps
user_last d m real g false alike valid before is user = Directly-next d m real g alike valid before is
user_last d m real g true alike valid before is user =
    let left = control-mode _ d.size (TrapStep-of d (steps d m real) _ valid before.runs is).psw in absurd (let wrong : ⊥ = cc in wrong)

-- a burst after which the hardware is in user mode was of direct steps
pub Directly-burst : (d : Desc) (k done : ℕ) (real : State) (g : Guest) → IsAlikeIn d g.psw.mode → IsValid d → Runs d real g → 0 < k → done ≡ burst_length d k real →
    (steps d done real).psw.mode ≡ U → Directly d done real g
Directly-burst d k zero real g alike valid r some e user = absurd (omega (arith, burst_length-some d k real some))
Directly-burst d k (suc m) real g alike valid r some e user =
    user_last d m real g (traps d (steps d m real)) alike valid (last_directly d k m real g alike valid r e) refl user

stopped_last : (d : Desc) (m : ℕ) (real : State) (g : Guest) (b : Bool) → IsAlikeIn d g.psw.mode → IsValid d → Directly d m real g → traps d (steps d m real) ≡ b →
    (steps d (suc m) real).psw.mode ≡ S → Stopped d (suc m) real g
stopped_last d m real g true alike valid before is control = record { before = m; done = refl; directly = before; stops = is }
stopped_last d m real g false alike valid before is control =
    let after = Directly-next d m real g alike valid before is in
    let user = Runs-user d (steps d (suc m) real) _ after.runs in absurd (let wrong : ⊥ = cc in wrong)

-- one after which it is in supervisor mode ended with a step that traps
pub Stopped-burst : (d : Desc) (k done : ℕ) (real : State) (g : Guest) → IsAlikeIn d g.psw.mode → IsValid d → Runs d real g → 0 < k → done ≡ burst_length d k real →
    (steps d done real).psw.mode ≡ S → Stopped d done real g
Stopped-burst d k zero real g alike valid r some e control = absurd (omega (arith, burst_length-some d k real some))
Stopped-burst d k (suc m) real g alike valid r some e control =
    stopped_last d m real g (traps d (steps d m real)) alike valid (last_directly d k m real g alike valid r e) refl control

-- ---- turns that ended with one that was interpreted

-- the hardware behind a burst whose last step trapped, and the guest as it was at that step's entry
pub record Halted (d : Desc) (m : ℕ) (real mid : State) (g h : Guest) : Type 0 where
  pub holds : Holds d mid h
  pub guest : h ≡ with_psw g (steps d m (virtual real.cells g)).psw
  pub state : virtual mid.cells h ≡ steps d m (virtual real.cells g)
  pub cells : mid.cells ≡ slice_set (steps d m real).cells 0 (trap_word d g.base (steps d m (virtual real.cells g)))
  pub turned : is_direct d g.base (steps d m (virtual real.cells g)) ≡ false

steps-last : (d : Desc) (n m : ℕ) (s t : State) → t ≡ steps d n s → n ≡ suc m → t ≡ step d (steps d m s)
unfolding steps
steps-last d n m s t is e = is ∙ ap (λ k. steps d k s) e

Holds-trapped : (d : Desc) (now mid : State) (h : Guest) (word : ℕ) → Holds d now h → mid.cells ≡ slice_set now.cells 0 word → IsState d mid → Holds d mid h
Holds-trapped d now mid h word held e mid_state =
    let same : length mid.cells ≡ length now.cells = ap length e ∙ length-set now.cells 0 word in
    let guest : virtual mid.cells h ≡ virtual now.cells h = virtual-trapped now.cells mid.cells h word e (omega (arith, held.grant.above)) in
    record {
      size = same ∙ held.size;
      grant = held.grant;
      control = cell_of now.cells mid.cells 1 (packed d.address (power_on_psw d.size)) same (ap (λ xs. slice_index xs 1) e ∙ set_first-second now.cells word) held.control;
      real_state = mid_state;
      virtual_state = subst (IsState d) (sym guest) held.virtual_state;
    }
  where
    virtual-trapped : (cells after : List ℕ) (h : Guest) (word : ℕ) → after ≡ slice_set cells 0 word → 0 < h.base → virtual after h ≡ virtual cells h
    virtual-trapped cells after h word e some =
        ap (λ xs. virtual xs h) e ∙ ap (λ xs. let t : State = record { cells = xs; psw = h.psw } in t) (set_first-guest cells h.base h.size word some)

pub Halted-of : (d : Desc) (n : ℕ) (real mid : State) (g h : Guest) (stopped : Stopped d n real g) → IsValid d → mid ≡ steps d n real →
    h ≡ with_psw g (record g.psw { p = (unpacked d.address (slice_index mid.cells 0)).p }) → Halted d stopped.before real mid g h
Halted-of d n real mid g h stopped valid is guest =
    let m = stopped.before in
    let v = virtual real.cells g in
    let vm = steps d m v in
    let now = steps d m real in
    let hm = with_psw g vm.psw in
    let before = stopped.directly in
    let moved : mid ≡ step d now = steps-last d n m real mid is stopped.done in
    let trap : TrapStep d now hm vm = subst (TrapStep d now hm) before.state (TrapStep-of d now hm valid before.runs stopped.stops) in
    let entry : (unpacked d.address (slice_index mid.cells 0)).p ≡ now.psw.p =
    ap (λ (x : State). (unpacked d.address (slice_index x.cells 0)).p) moved ∙ ap (λ (x : Psw). x.p) trap.entry in
    let who : h ≡ hm = guest ∙ ap (λ (k : ℕ). with_psw g (record g.psw { p = k })) entry ∙ sym (ap (with_psw g) before.kept) in
    let cells : mid.cells ≡ slice_set now.cells 0 (trap_word d g.base vm) = ap (λ (x : State). x.cells) moved ∙ trap.cells in
    let holds : Holds d mid hm = Holds-trapped d now mid hm (trap_word d g.base vm) before.runs.holds cells
    (subst (IsState d) (sym moved) (step-state d now valid before.runs.holds.real_state)) in
    let same : virtual mid.cells hm ≡ vm = ap (λ xs. virtual xs hm) cells
    ∙ ap (λ xs. let t : State = record { cells = xs; psw = vm.psw } in t) (set_first-guest now.cells g.base g.size (trap_word d g.base vm) (omega (arith, before.runs.holds.grant.above)))
    ∙ before.state in
    record {
      holds = subst (Holds d mid) (sym who) holds;
      guest = who;
      state = ap (virtual mid.cells) who ∙ same;
      cells = cells;
      turned = ap (is_direct d g.base) (sym before.state) ∙ Runs-direct d now hm before.runs ∙ ap not stopped.stops;
    }

-- what a run that ended with a trap counts
pub record StopCounts (d : Desc) (n m : ℕ) (real : State) (g : Guest) : Type 0 where
  pub untrapped : untrapped_among d n real ≡ m
  pub supervisor : supervisor_among d n real ≡ 0
  pub direct : direct_among d g.base n (virtual real.cells g) ≡ m
  pub cell : (held : ℕ) → trap_cell d g.base n (virtual real.cells g) held ≡ trap_word d g.base (steps d m (virtual real.cells g))
  pub state : steps d n (virtual real.cells g) ≡ step d (steps d m (virtual real.cells g))

pub StopCounts-of : (d : Desc) (m : ℕ) (real : State) (g : Guest) → Directly d m real g → traps d (steps d m real) ≡ true →
    is_direct d g.base (steps d m (virtual real.cells g)) ≡ false → StopCounts d (suc m) m real g
unfolding steps untrapped_among supervisor_among direct_among trap_cell
StopCounts-of d m real g before stops turned =
    let v = virtual real.cells g in
    let now = steps d m real in
    record {
      untrapped = omega (arith, untrapped_at-trap d now stops, before.untrapped);
      supervisor = omega (arith, supervisor_at-user now (Runs-user d now (with_psw g (steps d m v).psw) before.runs), before.supervisor);
      direct = ap (λ b. direct_among d g.base m v + one_if b) turned ∙ omega (arith, before.direct);
      cell = λ held. ap (λ b. if b then trap_cell d g.base m v held else trap_word d g.base (steps d m v)) turned;
      state = refl;
    }

-- ---- a single step

pub burst-one : (d : Desc) (s : State) → 1 ≡ burst_length d 1 s
unfolding burst_length
burst-one d s = by_test (traps d s)
  where
    by_test : (b : Bool) → 1 ≡ (if b then 1 else 1 + 0)
    by_test true = refl
    by_test false = refl

pub steps-once : (d : Desc) (s : State) → steps d 1 s ≡ step d s
unfolding steps
steps-once d s = refl

pub Runs-calm : (d : Desc) (real : State) (g : Guest) → IsValid d → Runs d real g → (step d real).psw.mode ≡ U → traps d real ≡ false
Runs-calm d real g valid r user = by_test (traps d real) refl
  where
    by_test : (b : Bool) → traps d real ≡ b → traps d real ≡ false
    by_test false e = e
    by_test true e = let left = control-mode _ d.size (TrapStep-of d real g valid r e).psw in absurd (let wrong : ⊥ = cc in wrong)

pub Stopped-turned : (d : Desc) (real mid : State) (g h : Guest) (stopped : Stopped d 1 real g) → Halted d stopped.before real mid g h → is_direct d g.base (virtual real.cells g) ≡ false
unfolding steps
Stopped-turned d real mid g h stopped halted =
    let none : stopped.before ≡ 0 = omega (arith, stopped.done) in
    ap (λ k. is_direct d g.base (steps d k (virtual real.cells g))) (sym none) ∙ halted.turned

pub Stopped-state : (d : Desc) (real mid : State) (g h : Guest) (stopped : Stopped d 1 real g) → Halted d stopped.before real mid g h → virtual mid.cells h ≡ virtual real.cells g
unfolding steps
Stopped-state d real mid g h stopped halted =
    let none : stopped.before ≡ 0 = omega (arith, stopped.done) in
    halted.state ∙ ap (λ k. steps d k (virtual real.cells g)) none

Runs-stops : (d : Desc) (real : State) (g : Guest) → IsAlikeIn d g.psw.mode → IsValid d → Runs d real g → (step d real).psw.mode ≡ S → traps d real ≡ true
Runs-stops d real g alike valid r control = by_test (traps d real) refl
  where
    by_test : (b : Bool) → traps d real ≡ b → traps d real ≡ true
    by_test true e = e
    by_test false e =
        let moved = DirectStep-of d real g (alike.goes real g refl r) valid r e in
        let user : (step d real).psw.mode ≡ U = ap (λ (x : Psw). x.mode) moved.psw in absurd (let wrong : ⊥ = cc in wrong)

-- of a single step that traps, the guest has the P of its entry already
pub entry-own : (d : Desc) (real mid : State) (g : Guest) → IsAlikeIn d g.psw.mode → IsValid d → Runs d real g → mid ≡ step d real → mid.psw.mode ≡ S →
    g ≡ with_psw g (record g.psw { p = (unpacked d.address (slice_index mid.cells 0)).p })
entry-own d real mid g alike valid r is control =
    let stops = Runs-stops d real g alike valid r (ap (λ (x : State). x.psw.mode) (sym is) ∙ control) in
    let entry = (TrapStep-of d real g valid r stops).entry ∙ r.under in
    let p : (unpacked d.address (slice_index mid.cells 0)).p ≡ g.psw.p =
    ap (λ (x : State). (unpacked d.address (slice_index x.cells 0)).p) is ∙ ap (λ (x : Psw). x.p) entry in
    ap (λ (n : ℕ). with_psw g (record g.psw { p = n })) (sym p)

-- a single step of the hardware that enters the control program
pub Stopped-once : (d : Desc) (old mid : State) (g : Guest) → IsAlikeIn d g.psw.mode → IsValid d → Runs d old g → mid ≡ step d old → mid.psw.mode ≡ S → Stopped d 1 old g
Stopped-once d old mid g alike valid r is control =
    Stopped-burst d 1 1 old g alike valid r (lit< tt) (burst-one d old) (ap (λ (x : State). x.psw.mode) (steps-once d old ∙ sym is) ∙ control)

pub Halted-once : (d : Desc) (old mid : State) (g : Guest) (stopped : Stopped d 1 old g) → IsAlikeIn d g.psw.mode → IsValid d → Runs d old g → mid ≡ step d old → mid.psw.mode ≡ S →
    Halted d stopped.before old mid g g
Halted-once d old mid g stopped alike valid r is control =
    Halted-of d 1 old mid g g stopped valid (is ∙ sym (steps-once d old)) (entry-own d old mid g alike valid r is control)

-- the program status word at the entry of a step that trapped, as it is read from cell 0
pub entry-read : (d : Desc) (cells : List ℕ) (shape : Shape) (word : ℕ) (x : Psw) → shape ≡ shape_of d → slice_get cells 0 ≡ Some word → x ≡ unpacked shape.a word →
    x ≡ unpacked d.address (slice_index cells 0)
entry-read d cells shape word x same is read =
    read ∙ ap (λ (s : Shape). unpacked s.a word) same ∙ ap (unpacked d.address) (sym (get_or_from_slice_get cells 0 word 0 is))
