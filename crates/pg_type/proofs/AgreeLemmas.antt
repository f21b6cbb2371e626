-- Machines that agree step alike, since no part of a step asks for the greatest size; and what is known of every state of
-- one machine is known of the fewer states of a narrower one.
use Rattle.std.proofs.Common.{◌≡◌, ℕ, zero, suc, ◌≤◌, List, refl, sym, ◌∙◌, ap, subst, arith, inl, inr, get_or}
use Rattle.std.proofs.Math.Logic.{∥∥₁_map}
use Rattle.pg_word.specs.declared.psw.Psw.{Psw}
use Rattle.pg_ast.specs.declared.tree.Instr.{Instr}
use Rattle.pg_ast.specs.declared.tree.Desc.{Desc}
use Rattle.pg_lang_meaning.specs.Bodies.{body}
use Rattle.pg_lang_meaning.specs.States.{State, IsState}
use Rattle.pg_lang_meaning.specs.Steps.{ending, step, steps}
use Rattle.pg_lang_valid.specs.Sized.{sized}
use Rattle.pg_type.specs.Kinds.{course_at, ShowsControl, ShowsMode, ShowsLocation, ShowsBound}
use Rattle.pg_type.specs.Accepting.{IsPrivileged, IsInnocuous, IsUserInnocuous, IsAccepted, IsHybridAccepted}
use Rattle.pg_type.specs.Agreeing.{Agree}

-- ---- steps

ending-sized : (q : ℕ) (d : Desc) (cells : List ℕ) (psw : Psw) → ending (sized q d) cells psw ≡ ending d cells psw
unfolding ending body
ending-sized q d cells psw = refl

step-sized : (q : ℕ) (d : Desc) (s : State) → step (sized q d) s ≡ step d s
unfolding step ending body
step-sized q d s = refl

steps-sized : (q : ℕ) (d : Desc) (n : ℕ) (s : State) → steps (sized q d) n s ≡ steps d n s
unfolding steps
steps-sized q d zero s = refl
steps-sized q d (suc n) s = step-sized q d (steps (sized q d) n s) ∙ ap (step d) (steps-sized q d n s)

pub agree-ending : (d e : Desc) → Agree d e → (cells : List ℕ) (psw : Psw) → ending e cells psw ≡ ending d cells psw
agree-ending d e agrees cells psw = ap (λ x. ending x cells psw) agrees ∙ ending-sized e.size d cells psw

pub agree-step : (d e : Desc) → Agree d e → (s : State) → step e s ≡ step d s
agree-step d e agrees s = ap (λ x. step x s) agrees ∙ step-sized e.size d s

pub agree-steps : (d e : Desc) → Agree d e → (n : ℕ) (s : State) → steps e n s ≡ steps d n s
agree-steps d e agrees n s = ap (λ x. steps x n s) agrees ∙ steps-sized e.size d n s

-- ---- states, and what they show

state-sized : (q : ℕ) (d : Desc) (s : State) → q ≤ d.size → IsState (sized q d) s → IsState d s
state-sized q d s narrower h = record {
  size_least = h.size_least;
  size_most = omega arith;
  words = h.words;
  fields = h.fields;
}

pub agree-state : (d e : Desc) → Agree d e → e.size ≤ d.size → (s : State) → IsState e s → IsState d s
agree-state d e agrees narrower s h = state-sized e.size d s narrower (subst (λ x. IsState x s) agrees h)

control-sized : (q : ℕ) (d : Desc) (i : Instr) (s t : State) → q ≤ d.size → ShowsControl (sized q d) i s t → ShowsControl d i s t
unfolding course_at body
control-sized q d i s t narrower h = record { state = state-sized q d s narrower h.state; same = h.same; at = h.at; changes = h.changes }

mode-sized : (q : ℕ) (d : Desc) (i : Instr) (s t : State) → q ≤ d.size → ShowsMode (sized q d) i s t → ShowsMode d i s t
unfolding course_at body
mode-sized q d i s t narrower h = record {
  pair = record {
    state = state-sized q d s narrower h.pair.state;
    supervisor = h.pair.supervisor;
    same_in_user = h.pair.same_in_user;
    at_first = h.pair.at_first;
    at_second = h.pair.at_second;
  };
  done = h.done;
  differ = h.differ;
}

location-sized : (q : ℕ) (d : Desc) (i : Instr) (s t : State) → q ≤ d.size → ShowsLocation (sized q d) i s t → ShowsLocation d i s t
unfolding course_at body
location-sized q d i s t narrower h = record {
  first = state-sized q d s narrower h.first;
  second = state-sized q d t narrower h.second;
  at_first = h.at_first;
  at_second = h.at_second;
  same_size = h.same_size;
  same_bound = h.same_bound;
  same_mode = h.same_mode;
  same_p = h.same_p;
  same_window = h.same_window;
  moved = h.moved;
  done = h.done;
  differ = h.differ;
}

bound-sized : (q : ℕ) (d : Desc) (i : Instr) (s t : State) → q ≤ d.size → ShowsBound (sized q d) i s t → ShowsBound d i s t
unfolding course_at body
bound-sized q d i s t narrower h = record {
  first = state-sized q d s narrower h.first;
  second = state-sized q d t narrower h.second;
  at_first = h.at_first;
  at_second = h.at_second;
  same_l = h.same_l;
  same_mode = h.same_mode;
  same_p = h.same_p;
  same_window = h.same_window;
  other_bound = h.other_bound;
  done = h.done;
  differ = h.differ;
}

-- ---- what is accepted

privileged-sized : (q : ℕ) (d : Desc) (i : Instr) → q ≤ d.size → IsPrivileged d i → IsPrivileged (sized q d) i
unfolding course_at body
privileged-sized q d i narrower h = record {
  user_traps = λ s state. h.user_traps s (state-sized q d s narrower state);
  supervisor_done = λ s state. h.supervisor_done s (state-sized q d s narrower state);
}

innocuous-sized : (q : ℕ) (d : Desc) (i : Instr) → q ≤ d.size → IsInnocuous d i → IsInnocuous (sized q d) i
innocuous-sized q d i narrower h = record {
  control = λ x. h.control (x.0, x.1, control-sized q d i x.0 x.1 narrower x.2);
  mode_and_location = λ x. elim x [
    | inl m ↦ h.mode_and_location (inl (m.0, m.1, mode-sized q d i m.0 m.1 narrower m.2))
    | inr l ↦ h.mode_and_location (inr (l.0, l.1, location-sized q d i l.0 l.1 narrower l.2))
  ];
  bound = λ x. h.bound (x.0, x.1, bound-sized q d i x.0 x.1 narrower x.2);
}

user_innocuous-sized : (q : ℕ) (d : Desc) (i : Instr) → q ≤ d.size → IsUserInnocuous d i → IsUserInnocuous (sized q d) i
user_innocuous-sized q d i narrower h = record {
  control = λ x. h.control (x.0, x.1, control-sized q d i x.0 x.1 narrower x.2, x.3);
  location = λ x. h.location (x.0, x.1, location-sized q d i x.0 x.1 narrower x.2, x.3);
  bound = λ x. h.bound (x.0, x.1, bound-sized q d i x.0 x.1 narrower x.2, x.3);
}

accepted-sized : (q : ℕ) (d : Desc) → q ≤ d.size → IsAccepted d → IsAccepted (sized q d)
accepted-sized q d narrower h = λ k i within. elim (h k i within) [
  | inl p ↦ inl (privileged-sized q d (get_or d.instrs k i) narrower p)
  | inr n ↦ inr (innocuous-sized q d (get_or d.instrs k i) narrower n)
]

hybrid-sized : (q : ℕ) (d : Desc) → q ≤ d.size → IsHybridAccepted d → IsHybridAccepted (sized q d)
hybrid-sized q d narrower h = λ k i within. elim (h k i within) [
  | inl p ↦ inl (privileged-sized q d (get_or d.instrs k i) narrower p)
  | inr n ↦ inr (user_innocuous-sized q d (get_or d.instrs k i) narrower n)
]

pub agree-accepted : (d e : Desc) → Agree d e → e.size ≤ d.size → IsAccepted d → IsAccepted e
agree-accepted d e agrees narrower h = subst IsAccepted (sym agrees) (accepted-sized e.size d narrower h)

pub agree-hybrid : (d e : Desc) → Agree d e → e.size ≤ d.size → IsHybridAccepted d → IsHybridAccepted e
agree-hybrid d e agrees narrower h = subst IsHybridAccepted (sym agrees) (hybrid-sized e.size d narrower h)

-- where it is only known to be accepted
pub agree-known : (d e : Desc) → Agree d e → e.size ≤ d.size → ∥ IsAccepted d ∥₁ → ∥ IsAccepted e ∥₁
agree-known d e agrees narrower accepted = ∥∥₁_map accepted (agree-accepted d e agrees narrower)
