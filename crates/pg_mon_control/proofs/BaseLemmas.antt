-- Whether a step is direct does not depend on where the grant lies.
use Rattle.std.proofs.Common.{◌≡◌, ℕ, ◌+◌, ◌<◌, ◌≤◌, ◌^◌, not, ◌++◌, length, take, replicate, refl, sym, ◌∙◌, ap, arith, length-append}
use Rattle.std.proofs.lemmas.List.{length-replicate, drop_at, take_all}
use Rattle.std.proofs.lemmas.List.Elements.{All-append, All-replicate}
use Rattle.std.proofs.lemmas.Nat.{pow_pos}
use Rattle.pg_ast.specs.declared.tree.Desc.{Desc}
use Rattle.pg_lang_meaning.specs.States.{State, IsState, window}
use Rattle.pg_lang_meaning.specs.Steps.{ending, ends_in_trap}
use Rattle.pg_lang_valid.specs.Valid.{IsValid}
use Rattle.pg_type.specs.Accepting.{IsHybridAccepted}
use Rattle.pg_type.proofs.AlikeSteps.{user_traps_alike}
use Rattle.pg_routine.specs.Composing.{composed}
use Rattle.pg_routine.proofs.GrantLaws.{composed-window}
use Rattle.pg_mon_control.specs.Direct.{ending_at, is_direct}
use Rattle.pg_mon_control.proofs.StateLemmas.{composed-fits}

-- the cells of a state from a base on, under the composed program status word
abbrev placed : ℕ → State → State
placed base s = record { cells = replicate base 0 ++ s.cells; psw = composed s.psw base (length s.cells) }

placed-length : (base : ℕ) (s : State) → length (placed base s).cells ≡ base + length s.cells
placed-length base s = omega (arith, length-append (replicate base 0) s.cells, length-replicate {A = ℕ} base 0)

placed-window : (base : ℕ) (s : State) → window (placed base s) ≡ window s
placed-window base s =
    composed-window (replicate base 0 ++ s.cells) base (length s.cells) s.psw (omega (arith, placed-length base s))
    ∙ ap (λ xs. window (record { cells = xs; psw = s.psw }))
    (ap (take (length s.cells)) (drop_at (replicate base 0) s.cells base (length-replicate {A = ℕ} base 0)) ∙ take_all (length s.cells) s.cells (omega arith))

placed-state : (d : Desc) (base : ℕ) (s : State) → IsValid d → IsState d s → base + length s.cells ≤ d.size → IsState d (placed base s)
placed-state d base s valid h within = record {
  size_least = omega (arith, placed-length base s, h.size_least);
  size_most = omega (arith, placed-length base s);
  words = All-append (λ c. c < 2 ^ d.word) (replicate base 0) s.cells (All-replicate (λ c. c < 2 ^ d.word) base 0 (pow_pos d.word)) h.words;
  fields = composed-fits d s.psw base (length s.cells) valid within h.fields;
}

placed-trap : (d : Desc) (base : ℕ) (s : State) → ends_in_trap (ending_at d base s) ≡ ends_in_trap (ending d (window (placed base s)) (placed base s).psw)
placed-trap d base s = ap (λ w. ends_in_trap (ending d w (placed base s).psw)) (sym (placed-window base s))

pub direct-anywhere : (d : Desc) (s : State) (b c : ℕ) → ∥ IsHybridAccepted d ∥₁ → IsValid d → IsState d s → b + length s.cells ≤ d.size → c + length s.cells ≤ d.size →
    is_direct d b s ≡ is_direct d c s
unfolding is_direct
direct-anywhere d s b c accepted valid h within within' =
    ap not (placed-trap d b s
    ∙ user_traps_alike d (placed b s) (placed c s) accepted (placed-state d b s valid h within) (placed-state d c s valid h within')
    (record { same_window = placed-window b s ∙ sym (placed-window c s); same_p = refl }) refl refl
    ∙ sym (placed-trap d c s))
