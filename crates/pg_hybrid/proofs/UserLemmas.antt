-- Turns by the mode in which they begin: they add up, and what a run of the hardware counts of them.
use Rattle.std.proofs.Common.{◌≡◌, ℕ, zero, suc, ◌+◌, ◌≤◌, Bool, true, false, not, ◌&&◌, length, Some, refl, sym, ◌∙◌, ap, subst, arith, add-zero, add-suc}
use Rattle.pg_word.specs.declared.psw.Psw.{Psw}
use Rattle.pg_word.specs.declared.psw.Mode.{Mode}
use Rattle.pg_word.specs.declared.psw.Mode.TheVariants.{S, U}
use Rattle.pg_ast.specs.declared.tree.Desc.{Desc}
use Rattle.pg_lang_meaning.specs.States.{State}
use Rattle.pg_lang_meaning.specs.Steps.{step, steps}
use Rattle.pg_lang_meaning.proofs.StepLaws.{steps-add}
use Rattle.pg_lang_valid.specs.Valid.{IsValid}
use Rattle.pg_hw.specs.Bursts.{traps, is_user, one_if, untrapped_at, untrapped_among}
use Rattle.pg_hw.proofs.BurstLaws.{one_if-most, untrapped_among-most}
use Rattle.pg_routine.specs.Composing.{composed}
use Rattle.pg_mon_control.specs.declared.guest.Guest.{Guest}
use Rattle.pg_mon_control.specs.Guests.{virtual}
use Rattle.pg_mon_control.specs.Direct.{is_direct, direct_among}
use Rattle.pg_mon_control.specs.Current.{Runs, with_psw}
use Rattle.pg_mon_control.proofs.DirectLemmas.{IsAlikeIn, Runs-direct}
use Rattle.pg_mon_control.proofs.PlanLemmas.{AddsUp}
use Rattle.pg_mon_control.proofs.RunLemmas.{Directly, Directly-none, Directly-next}
use Rattle.pg_hybrid.specs.UserTurns.{user_among, hybrid_among}
use Rattle.pg_hybrid.specs.Leaving.{Left, left_by, left_among}
use Rattle.pg_hybrid.proofs.LeavingLemmas.{of_four, left-direct, left_among-none, left_among-next}

-- ---- turns after turns

pub user_among-add : (d : Desc) (m n : ℕ) (s : State) → user_among d (m + n) s ≡ user_among d m s + user_among d n (steps d m s)
unfolding user_among
user_among-add d m zero s = rw (add-zero, add-zero) refl
user_among-add d m (suc n) s = rw (add-suc, user_among-add d m n s, steps-add d m n s) (omega arith)

pub hybrid_among-add : (d : Desc) (base m n : ℕ) (s : State) → hybrid_among d base (m + n) s ≡ hybrid_among d base m s + hybrid_among d base n (steps d m s)
unfolding hybrid_among
hybrid_among-add d base m zero s = rw (add-zero, add-zero) refl
hybrid_among-add d base m (suc n) s = rw (add-suc, hybrid_among-add d base m n s, steps-add d m n s) (omega arith)

pub user_among-most : (d : Desc) (n : ℕ) (s : State) → user_among d n s ≤ n
unfolding user_among
user_among-most d zero s = omega arith
user_among-most d (suc n) s = omega (arith, user_among-most d n s, one_if-most (is_user (steps d n s).psw.mode))

both-most : (b c : Bool) → one_if (b && c) ≤ one_if b
both-most true c = one_if-most c
both-most false c = omega arith

-- the direct ones are some of those from user mode
pub hybrid_among-users : (d : Desc) (base n : ℕ) (s : State) → hybrid_among d base n s ≤ user_among d n s
unfolding user_among hybrid_among
hybrid_among-users d base zero s = omega arith
hybrid_among-users d base (suc n) s = omega (arith, hybrid_among-users d base n s, both-most (is_user (steps d n s).psw.mode) (is_direct d base (steps d n s)))

direct-most : (b c : Bool) → one_if (b && c) ≤ one_if c
direct-most true c = omega arith
direct-most false c = omega arith

-- and some of those that are direct in whatever mode
pub hybrid_among-direct : (d : Desc) (base n : ℕ) (s : State) → hybrid_among d base n s ≤ direct_among d base n s
unfolding direct_among hybrid_among
hybrid_among-direct d base zero s = omega arith
hybrid_among-direct d base (suc n) s = omega (arith, hybrid_among-direct d base n s, direct-most (is_user (steps d n s).psw.mode) (is_direct d base (steps d n s)))

pub hybrid_among-most : (d : Desc) (base n : ℕ) (s : State) → hybrid_among d base n s ≤ n
hybrid_among-most d base n s = omega (arith, hybrid_among-users d base n s, user_among-most d n s)

pub user-adds : (d : Desc) → AddsUp d (λ base. user_among d)
unfolding user_among
user-adds d = record { none = λ base s. refl; more = λ base m n s. user_among-add d m n s }

pub hybrid-adds : (d : Desc) → AddsUp d (hybrid_among d)
unfolding hybrid_among
hybrid-adds d = record { none = λ base s. refl; more = λ base m n s. hybrid_among-add d base m n s }

-- ---- one turn

-- one from supervisor mode counts as none
pub supervisor-users : (d : Desc) (s : State) → s.psw.mode ≡ S → user_among d 1 s ≡ 0
unfolding user_among steps
supervisor-users d s is = ap (λ m. 0 + one_if (is_user m)) is

pub supervisor-hybrid : (d : Desc) (base : ℕ) (s : State) → s.psw.mode ≡ S → hybrid_among d base 1 s ≡ 0
supervisor-hybrid d base s is = omega (arith, hybrid_among-users d base 1 s, supervisor-users d s is)

is_one : (b : Bool) → 0 + one_if b ≡ 1 → b ≡ true
is_one true e = refl
is_one false e = absurd (omega (arith, e))

-- a run of one direct step
pub direct-once : (d : Desc) (base : ℕ) (s : State) → direct_among d base 1 s ≡ 1 → is_direct d base s ≡ true
unfolding direct_among steps
direct-once d base s e = is_one (is_direct d base s) e

-- ---- runs of the hardware from user mode

-- n direct steps for a guest in user mode
pub record UserRun (d : Desc) (n : ℕ) (real : State) (g : Guest) : Type 0 where
  pub directly : Directly d n real g
  pub mode : (steps d n (virtual real.cells g)).psw.mode ≡ U
  pub users : user_among d n (virtual real.cells g) ≡ n
  pub hybrid : hybrid_among d g.base n (virtual real.cells g) ≡ n
  -- the guest stays the current one, and nothing is loaded
  pub left : (k l w : ℕ) → left_among d k g.base n (virtual real.cells g) (of_four (Some k) l w real.psw) ≡ of_four (Some k) l w (steps d n real).psw

not_trapped : (u t : Bool) → one_if (u && not t) ≡ 1 → t ≡ false
not_trapped u false e = refl
not_trapped true true e = absurd (omega (arith, e))
not_trapped false true e = absurd (omega (arith, e))

UserRun-next : (d : Desc) (n : ℕ) (real : State) (g : Guest) → IsAlikeIn d g.psw.mode → IsValid d → g.psw.mode ≡ U → UserRun d n real g → traps d (steps d n real) ≡ false →
    UserRun d (suc n) real g
unfolding user_among hybrid_among steps
UserRun-next d n real g alike valid user before calm =
    let v = virtual real.cells g in
    let vn = steps d n v in
    let after = Directly-next d n real g alike valid before.directly calm in
    let is : is_direct d g.base vn ≡ true =
    ap (is_direct d g.base) (sym before.directly.state) ∙ Runs-direct d (steps d n real) (with_psw g vn.psw) before.directly.runs ∙ ap not calm in
    record {
      directly = after;
      mode = ap (λ (x : Psw). x.mode) after.kept ∙ user;
      users = ap (λ m. user_among d n v + one_if (is_user m)) before.mode ∙ omega (arith, before.users);
      hybrid = ap (λ m. hybrid_among d g.base n v + one_if (is_user m && is_direct d g.base vn)) before.mode
          ∙ ap (λ b. hybrid_among d g.base n v + one_if b) is ∙ omega (arith, before.hybrid);
      left = λ k l w.
          left_among-next d k g.base n v (of_four (Some k) l w real.psw)
          ∙ ap (left_by d k g.base vn) (before.left k l w)
          ∙ left-direct d k g.base vn l w (steps d n real).psw before.mode is
          ∙ ap (λ x. of_four (Some k) l w (composed (step d vn).psw g.base x)) before.directly.length
          ∙ ap (of_four (Some k) l w) (sym after.runs.under);
    }

-- n steps of the hardware for a guest in user mode, all of which count as untrapped
pub UserRun-all : (d : Desc) (n : ℕ) (real : State) (g : Guest) → IsAlikeIn d g.psw.mode → IsValid d → Runs d real g → g.psw.mode ≡ U → untrapped_among d n real ≡ n → UserRun d n real g
unfolding steps untrapped_among user_among hybrid_among
UserRun-all d zero real g alike valid r user all = record { directly = Directly-none d real g r; mode = user; users = refl; hybrid = refl; left = λ k l w. left_among-none d k g.base (virtual real.cells g) (of_four (Some k) l w real.psw) }
UserRun-all d (suc n) real g alike valid r user all =
    let few = untrapped_among-most d n real in
    let last = steps d n real in
    let one = one_if-most (is_user last.psw.mode && not (traps d last)) in
    let before : untrapped_among d n real ≡ n = omega (arith, few, one, all) in
    let calm : one_if (is_user last.psw.mode && not (traps d last)) ≡ 1 = omega (arith, few, one, all) in
    UserRun-next d n real g alike valid user (UserRun-all d n real g alike valid r user before) (not_trapped (is_user last.psw.mode) (traps d last) calm)

-- the turn behind such a run, of which the hardware's step trapped
pub trapped-users : (d : Desc) (n : ℕ) (real : State) (g : Guest) → UserRun d n real g → user_among d (suc n) (virtual real.cells g) ≡ suc n
unfolding user_among
trapped-users d n real g before =
    ap (λ m. user_among d n (virtual real.cells g) + one_if (is_user m)) before.mode ∙ omega (arith, before.users)

pub trapped-hybrid : (d : Desc) (n : ℕ) (real : State) (g : Guest) → UserRun d n real g → is_direct d g.base (steps d n (virtual real.cells g)) ≡ false →
    hybrid_among d g.base (suc n) (virtual real.cells g) ≡ n
unfolding hybrid_among
trapped-hybrid d n real g before turned =
    let v = virtual real.cells g in
    ap (λ m. hybrid_among d g.base n v + one_if (is_user m && is_direct d g.base (steps d n v))) before.mode
    ∙ ap (λ b. hybrid_among d g.base n v + one_if b) turned ∙ omega (arith, before.hybrid)
