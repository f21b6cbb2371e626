-- What the direct steps of a guest are beside what its own machine counts.
use Rattle.std.proofs.Common.{◌≡◌, ℕ, zero, suc, ◌+◌, ◌≤◌, Bool, true, false, not, ◌&&◌, length, take, drop, refl, sym, ◌∙◌, ap, subst, arith}
use Rattle.std.proofs.lemmas.List.{take_all}
use Rattle.std.proofs.Math.Logic.{∥∥₁_map}
use Rattle.pg_word.specs.declared.psw.Psw.{Psw}
use Rattle.pg_word.specs.declared.psw.Mode.{Mode}
use Rattle.pg_word.specs.declared.psw.Mode.TheVariants.{S, U}
use Rattle.pg_ast.specs.declared.tree.Desc.{Desc}
use Rattle.pg_lang_meaning.specs.States.{State, IsState, window}
use Rattle.pg_lang_meaning.specs.Steps.{step, steps, ending, ends_in_trap}
use Rattle.pg_lang_valid.specs.Valid.{IsValid}
use Rattle.pg_lang_valid.proofs.StepSound.{steps-state, steps-length}
use Rattle.pg_type.specs.Accepting.{IsAccepted, IsHybridAccepted}
use Rattle.pg_type.proofs.AlikeSteps.{user_traps_alike}
use Rattle.pg_type.proofs.KindLaws.{accepted-hybrid}
use Rattle.pg_hw.specs.Tallies.{Bottom, RisesWithin}
use Rattle.pg_hw.specs.Bursts.{traps, is_user, one_if, untrapped_at, untrapped_among, supervisor_at, supervisor_among, BottomRises}
use Rattle.pg_hw.proofs.BurstLaws.{one_if-most}
use Rattle.pg_routine.specs.Composing.{composed}
use Rattle.pg_routine.specs.Granting.{guest_at}
use Rattle.pg_routine.proofs.GrantLaws.{composed-window}
use Rattle.pg_mon_control.specs.Counting.{BottomTurns}
use Rattle.pg_mon_control.specs.Direct.{is_direct, direct_among}
use Rattle.pg_mon_control.proofs.BaseLemmas.{direct-anywhere}
use Rattle.pg_mon_control.proofs.StateLemmas.{composed-fits}

-- a state under the PSW composed of its own for a grant of all of its cells
abbrev clipped : State → State
clipped s = record { cells = s.cells; psw = composed s.psw 0 (length s.cells) }

clipped-window : (s : State) → window (clipped s) ≡ window s
clipped-window s =
    composed-window s.cells 0 (length s.cells) s.psw (omega arith)
    ∙ ap (λ xs. window (record { cells = xs; psw = s.psw })) (take_all (length s.cells) s.cells (omega arith))

clipped-state : (d : Desc) (s : State) → IsValid d → IsState d s → IsState d (clipped s)
clipped-state d s valid h = record {
  size_least = h.size_least;
  size_most = h.size_most;
  words = h.words;
  fields = composed-fits d s.psw 0 (length s.cells) valid (omega (arith, h.size_most)) h.fields;
}

-- from user mode a step is direct exactly where the guest's own does not trap
direct-user : (d : Desc) (s : State) (base : ℕ) → ∥ IsHybridAccepted d ∥₁ → IsValid d → IsState d s → base + length s.cells ≤ d.size → s.psw.mode ≡ U → is_direct d base s ≡ not (traps d s)
unfolding is_direct traps
direct-user d s base accepted valid h within user =
    direct-anywhere d s base 0 accepted valid h within (omega (arith, h.size_most))
    ∙ ap not (ap (λ w. ends_in_trap (ending d w (clipped s).psw)) (sym (clipped-window s))
    ∙ user_traps_alike d (clipped s) s accepted (clipped-state d s valid h) h (record { same_window = clipped-window s; same_p = refl }) refl user)

-- a step is counted as direct between what its own machine counts as untrapped and one more where it begins in supervisor mode
record Between (d : Desc) (base n : ℕ) (s : State) : Type 0 where
  at_least : untrapped_among d n s ≤ direct_among d base n s
  at_most : direct_among d base n s ≤ untrapped_among d n s + supervisor_among d n s

one-between : (d : Desc) (s : State) (base : ℕ) → ∥ IsHybridAccepted d ∥₁ → IsValid d → IsState d s → base + length s.cells ≤ d.size →
    (untrapped_at d s ≤ one_if (is_direct d base s)) × (one_if (is_direct d base s) ≤ untrapped_at d s + supervisor_at s)
one-between d s base accepted valid h within = by_mode s.psw.mode refl
  where
    by_mode : (m : Mode) → s.psw.mode ≡ m → (untrapped_at d s ≤ one_if (is_direct d base s)) × (one_if (is_direct d base s) ≤ untrapped_at d s + supervisor_at s)
    by_mode U is =
        let same : untrapped_at d s ≡ one_if (is_direct d base s) =
        ap (λ m. one_if (is_user m && not (traps d s))) is ∙ ap one_if (sym (direct-user d s base accepted valid h within is)) in
        (omega (arith, same), omega (arith, same))
    by_mode S is =
        let none : untrapped_at d s ≡ 0 = ap (λ m. one_if (is_user m && not (traps d s))) is in
        let one : supervisor_at s ≡ 1 = ap (λ m. one_if (not (is_user m))) is in
        let most = one_if-most (is_direct d base s) in
        (omega (arith, none), omega (arith, one, most))

between : (d : Desc) (base n : ℕ) (s : State) → ∥ IsHybridAccepted d ∥₁ → IsValid d → IsState d s → base + length s.cells ≤ d.size → Between d base n s
unfolding untrapped_among supervisor_among direct_among
between d base zero s accepted valid h within = record { at_least = omega arith; at_most = omega arith }
between d base (suc n) s accepted valid h within =
    let before = between d base n s accepted valid h within in
    let len = steps-length d n s valid h in
    let one = one-between d (steps d n s) base accepted valid (steps-state d n s valid h) (omega (arith, len, within)) in
    record { at_least = omega (arith, before.at_least, one.0); at_most = omega (arith, before.at_most, one.1) }

-- so the counts at the bottom rise as the guest's machine lets them
pub bottom-rises : (d : Desc) (base n : ℕ) (s : State) (old new : Bottom) → ∥ IsAccepted d ∥₁ → IsValid d → IsState d s → base + length s.cells ≤ d.size →
    BottomTurns n (direct_among d base n s) old new → BottomRises d n s old new
bottom-rises d base n s old new accepted valid h within turns =
    let x = between d base n s (∥∥₁_map accepted (accepted-hybrid d)) valid h within in
    record {
      steps = turns.steps;
      untrapped = record { at_least = omega (arith, turns.untrapped, x.at_least); at_most = omega (arith, turns.untrapped, x.at_most) };
    }
