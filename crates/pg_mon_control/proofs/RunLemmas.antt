-- Runs of direct steps, each after another.
use Rattle.std.proofs.Common.{◌≡◌, ℕ, zero, suc, ◌+◌, ◌<◌, ◌≤◌, Bool, true, false, not, ◌&&◌, if◌then◌else◌, List, length, take, drop, slice_index, refl, sym, ◌∙◌, ap, subst, arith}
use Rattle.pg_word.specs.declared.psw.Psw.{Psw}
use Rattle.pg_word.specs.declared.psw.Mode.{Mode}
use Rattle.pg_word.specs.declared.psw.Mode.TheVariants.{S, U}
use Rattle.pg_word.specs.Psw.{packed, power_on_psw}
use Rattle.pg_ast.specs.declared.tree.Desc.{Desc}
use Rattle.pg_lang_meaning.specs.States.{State, IsState}
use Rattle.pg_lang_meaning.specs.Steps.{step, steps}
use Rattle.pg_lang_valid.specs.Valid.{IsValid}
use Rattle.pg_lang_valid.proofs.StepSound.{step-state}
use Rattle.pg_hw.specs.Bursts.{traps, is_user, one_if, untrapped_at, untrapped_among, supervisor_at, supervisor_among}
use Rattle.pg_routine.specs.Granting.{guest_at, with_grant}
use Rattle.pg_routine.proofs.GrantLaws.{with_grant-same}
use Rattle.pg_routine.proofs.StateLaws.{with_grant-length}
use Rattle.pg_mon_control.specs.declared.guest.Guest.{Guest}
use Rattle.pg_mon_control.specs.Guests.{virtual}
use Rattle.pg_mon_control.specs.Direct.{is_direct, direct_among}
use Rattle.pg_mon_control.specs.Traps.{trap_cell, trap_word}
use Rattle.pg_mon_control.specs.Current.{Holds, Runs, with_psw}
use Rattle.pg_mon_control.proofs.CellLemmas.{with_grant-own, with_grant-again, with_grant-before, cell_of}
use Rattle.pg_mon_control.proofs.DirectLemmas.{Holds-within, Holds-length, Runs-user, Runs-direct, IsAlikeIn, DirectStep, DirectStep-of}

-- a guest has the cells that were put into its grant
pub virtual-own : (old now : List ℕ) (base size : ℕ) (s : State) → now ≡ with_grant old base s.cells → base ≤ length old → length s.cells ≡ size →
    guest_at now base size s.psw ≡ s
virtual-own old now base size s e h len =
    ap (λ xs. let t : State = record { cells = take size (drop base xs); psw = s.psw } in t) e
    ∙ ap (λ xs. let t : State = record { cells = xs; psw = s.psw } in t) (with_grant-own old s.cells base size h len)

-- a hardware that has the guest's cells after other cells were put into the grant
pub Holds-next : (d : Desc) (real now : State) (g : Guest) (s : State) → Holds d real g → now.cells ≡ with_grant real.cells g.base s.cells → length s.cells ≡ g.size →
    IsState d now → IsState d s → Holds d now (with_psw g s.psw)
Holds-next d real now g s h e len now_state s_state =
    let within = Holds-within d real g h in
    let same : length now.cells ≡ length real.cells = ap length e ∙ with_grant-length real.cells s.cells g.base (omega (arith, within, len)) in
    record {
      size = same ∙ h.size;
      grant = record { above = h.grant.above; least = h.grant.least; within = h.grant.within };
      control = cell_of real.cells now.cells 1 (packed d.address (power_on_psw d.size)) same
          (ap (λ xs. slice_index xs 1) e ∙ with_grant-before real.cells s.cells g.base 1 (omega (arith, within)) (omega (arith, h.grant.above))) h.control;
      real_state = now_state;
      virtual_state = subst (IsState d) (sym (virtual-own real.cells now.cells g.base g.size s e (omega (arith, within)) len)) s_state;
    }

-- n steps of the hardware from a state, all of them direct
pub record Directly (d : Desc) (n : ℕ) (real : State) (g : Guest) : Type 0 where
  pub within : g.base + g.size ≤ length real.cells
  pub runs : Runs d (steps d n real) (with_psw g (steps d n (virtual real.cells g)).psw)
  pub state : virtual (steps d n real).cells (with_psw g (steps d n (virtual real.cells g)).psw) ≡ steps d n (virtual real.cells g)
  pub kept : (steps d n (virtual real.cells g)).psw ≡ record g.psw { p = (steps d n real).psw.p }
  pub storage : (steps d n real).cells ≡ with_grant real.cells g.base (steps d n (virtual real.cells g)).cells
  pub length : length (steps d n (virtual real.cells g)).cells ≡ g.size
  pub direct : direct_among d g.base n (virtual real.cells g) ≡ n
  pub held : (word : ℕ) → trap_cell d g.base n (virtual real.cells g) word ≡ word
  pub untrapped : untrapped_among d n real ≡ n
  pub supervisor : supervisor_among d n real ≡ 0

pub Directly-none : (d : Desc) (real : State) (g : Guest) → Runs d real g → Directly d 0 real g
unfolding steps direct_among trap_cell untrapped_among supervisor_among
Directly-none d real g r = record {
  within = Holds-within d real g r.holds;
  runs = r;
  state = refl;
  kept = ap (λ (n : ℕ). record g.psw { p = n }) (sym (ap (λ (x : Psw). x.p) r.under));
  storage = sym (with_grant-same real.cells g.base g.size (Holds-within d real g r.holds));
  length = Holds-length d real g r.holds;
  direct = refl;
  held = λ word. refl;
  untrapped = refl;
  supervisor = refl;
}

counted : (m : Mode) (b : Bool) → m ≡ U → b ≡ false → one_if (is_user m && not b) ≡ 1
counted U false user calm = refl
counted U true user calm = absurd (let wrong : ⊥ = cc in wrong)
counted S b user calm = absurd (let wrong : ⊥ = cc in wrong)

uncounted : (m : Mode) → m ≡ U → one_if (not (is_user m)) ≡ 0
uncounted U user = refl
uncounted S user = absurd (let wrong : ⊥ = cc in wrong)

-- a step from user mode that does not trap is counted as such
pub untrapped_at-calm : (d : Desc) (s : State) → s.psw.mode ≡ U → traps d s ≡ false → untrapped_at d s ≡ 1
untrapped_at-calm d s user calm = counted s.psw.mode (traps d s) user calm

pub supervisor_at-user : (s : State) → s.psw.mode ≡ U → supervisor_at s ≡ 0
supervisor_at-user s user = uncounted s.psw.mode user

kept_again : (g : Guest) (mid : Psw) (n m : ℕ) → mid ≡ record g.psw { p = n } → record mid { p = m } ≡ record g.psw { p = m }
kept_again g mid n m e = ap (λ (x : Psw). record x { p = m }) e

pub Directly-next : (d : Desc) (n : ℕ) (real : State) (g : Guest) → IsAlikeIn d g.psw.mode → IsValid d → Directly d n real g → traps d (steps d n real) ≡ false →
    Directly d (suc n) real g
unfolding steps direct_among trap_cell untrapped_among supervisor_among
Directly-next d n real g alike valid before calm =
    let v = virtual real.cells g in
    let now = steps d n real in
    let vn = steps d n v in
    let h = with_psw g vn.psw in
    let moved : DirectStep d now h vn = subst (DirectStep d now h) before.state (DirectStep-of d now h (alike.goes now h (ap (λ (x : Psw). x.mode) before.kept) before.runs) valid before.runs calm) in
    let is : is_direct d g.base vn ≡ true = ap (is_direct d g.base) (sym before.state) ∙ Runs-direct d now h before.runs ∙ ap not calm in
    let user = Runs-user d now h before.runs in
    let real_state = step-state d now valid before.runs.holds.real_state in
    let guest_state : IsState d (step d vn) = step-state d vn valid (subst (IsState d) before.state before.runs.holds.virtual_state) in
    let within = Holds-within d now h before.runs.holds in
    record {
      within = before.within;
      runs = record { holds = Holds-next d now (step d now) h (step d vn) before.runs.holds moved.cells moved.length real_state guest_state; under = moved.psw };
      state = virtual-own now.cells (step d now).cells g.base g.size (step d vn) moved.cells (omega (arith, within)) moved.length;
      kept = moved.kept ∙ kept_again g vn.psw now.psw.p (step d now).psw.p before.kept;
      storage = moved.cells ∙ ap (λ xs. with_grant xs g.base (step d vn).cells) before.storage
          ∙ with_grant-again real.cells vn.cells (step d vn).cells g.base (omega (arith, before.within)) (moved.length ∙ sym before.length);
      length = moved.length;
      direct = ap (λ b. direct_among d g.base n v + one_if b) is ∙ ap (λ k. k + 1) before.direct ∙ omega arith;
      held = λ word. ap (λ b. if b then trap_cell d g.base n v word else trap_word d g.base vn) is ∙ before.held word;
      untrapped = ap (λ k. untrapped_among d n real + k) (untrapped_at-calm d now user calm) ∙ ap (λ k. k + 1) before.untrapped ∙ omega arith;
      supervisor = ap (λ k. supervisor_among d n real + k) (supervisor_at-user now user) ∙ ap (λ k. k + 0) before.supervisor;
    }

-- steps none of which traps
pub Directly-all : (d : Desc) (n : ℕ) (real : State) (g : Guest) → IsAlikeIn d g.psw.mode → IsValid d → Runs d real g →
    ((j : ℕ) → j < n → traps d (steps d j real) ≡ false) → Directly d n real g
Directly-all d zero real g alike valid r calm = Directly-none d real g r
Directly-all d (suc n) real g alike valid r calm =
    Directly-next d n real g alike valid (Directly-all d n real g alike valid r (λ j below. calm j (omega arith))) (calm n (omega arith))
