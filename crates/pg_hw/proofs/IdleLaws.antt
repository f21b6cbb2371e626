-- A machine without instructions traps at every step.
use Rattle.std.proofs.Common.{◌≡◌, ℕ, Bool, true, false, nat_lt, if◌then◌else◌, List, [], length, slice_set, slice_index, None, refl, sym, ◌∙◌, ap, subst, inl, inr}
use Rattle.std.proofs.Math.Logic.{∥∥₁_elim}
use Rattle.std.proofs.Props.{props}
use Rattle.std.proofs.lemmas.Option.{slice_get_cases}
use Rattle.std.proofs.lemmas.Bool.{lt-ltb, le-ltb}
use Rattle.pg_word.specs.declared.shape.Shape.{Shape}
use Rattle.pg_word.specs.declared.psw.Psw.{Psw}
use Rattle.pg_word.specs.declared.cause.Cause.{Cause}
use Rattle.pg_word.specs.declared.cause.Cause.TheVariants.{Memory, NoPattern}
use Rattle.pg_word.specs.Psw.{cause_number, packed_trap, unpacked}
use Rattle.pg_ast.specs.declared.tree.Instr.{Instr}
use Rattle.pg_ast.specs.declared.tree.Desc.{Desc}
use Rattle.pg_lang_meaning.specs.Patterns.{matching}
use Rattle.pg_lang_meaning.specs.States.{State, shape_of, window, window_length}
use Rattle.pg_lang_meaning.specs.Steps.{Ending, ByMemTrap, ByNoPattern, ending, left_by, trapped, step, ends_in_trap}
use Rattle.pg_lang_valid.proofs.StepSound.{window-length}
use Rattle.pg_hw.specs.Bursts.{traps}
use Rattle.pg_hw.specs.Idling.{cause_where}

-- no instruction matches
none_matches : (is : List Instr) (word : ℕ) → is ≡ [] → matching is word ≡ None
unfolding matching
none_matches is word e = subst (λ l. matching l word ≡ None) (sym e) refl

-- how a step ends that finds no instruction
abbrev idle_ending : Bool → Ending
idle_ending b = (if b then ByNoPattern else ByMemTrap)

pub ending-idle : (d : Desc) (cells : List ℕ) (psw : Psw) → d.instrs ≡ [] → ending d cells psw ≡ idle_ending (nat_lt psw.p (length cells))
unfolding ending
ending-idle d cells psw e = elim ((slice_get_cases cells psw.p).1) [
  | inl h ↦ rw (h.2, none_matches d.instrs h.0 e, lt-ltb psw.p (length cells) h.1) refl
  | inr h ↦ rw (h.1, le-ltb psw.p (length cells) h.0) refl
]

left_by_test : (d : Desc) (s : State) (b : Bool) → left_by d s (idle_ending b) ≡ trapped d s (cause_number (if b then NoPattern else Memory))
left_by_test d s true = refl
left_by_test d s false = refl

is_trap_test : (b : Bool) → ends_in_trap (idle_ending b) ≡ true
is_trap_test true = refl
is_trap_test false = refl

-- a step that finds no instruction traps, by its cause
step_none : (d : Desc) (s : State) → d.instrs ≡ [] → step d s ≡ trapped d s (cause_number (cause_where s.psw.p (window_length s)))
unfolding step
step_none d s e = rw (ending-idle d (window s) s.psw e, window-length s) (left_by_test d s (nat_lt s.psw.p (window_length s)))

traps_none : (d : Desc) (s : State) → d.instrs ≡ [] → traps d s ≡ true
unfolding traps
traps_none d s e = rw (ending-idle d (window s) s.psw e) (is_trap_test (nat_lt s.psw.p (length (window s))))

-- however it is known that there is none
pub step-idle : (d : Desc) (s : State) → ∥ d.instrs ≡ [] ∥₁ → step d s ≡ trapped d s (cause_number (cause_where s.psw.p (window_length s)))
step-idle d s known =
    ∥∥₁_elim {P = step d s ≡ trapped d s (cause_number (cause_where s.psw.p (window_length s)))} known (hlevel props) (step_none d s)

pub traps-idle : (d : Desc) (s : State) → ∥ d.instrs ≡ [] ∥₁ → traps d s ≡ true
traps-idle d s known = ∥∥₁_elim {P = traps d s ≡ true} known (hlevel props) (traps_none d s)

-- the same step, done in parts
pub step-idle_by : (d : Desc) (s t : State) (shape : Shape) (usable : ℕ) (cause : Cause) → ∥ d.instrs ≡ [] ∥₁ → shape ≡ shape_of d →
    usable ≡ window_length s → cause ≡ cause_where s.psw.p usable →
    t.cells ≡ slice_set s.cells 0 (packed_trap shape s.psw (cause_number cause)) → t.psw ≡ unpacked shape.a (slice_index s.cells 1) → t ≡ step d s
step-idle_by d s t shape usable cause none is usable_is cause_is cells_is psw_is =
    ap (λ xs. let r : State = record { cells = xs; psw = t.psw } in r) cells_is
    ∙ ap (λ (x : Psw). let r : State = record { cells = slice_set s.cells 0 (packed_trap shape s.psw (cause_number cause)); psw = x } in r) psw_is
    ∙ rw (cause_is, usable_is, is) (sym (step-idle d s none))
