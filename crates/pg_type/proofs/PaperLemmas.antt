-- What is accepted is so in the paper's own words.
use Rattle.std.proofs.Common.{◌≡◌, refl, sym, ◌∙◌, inl, inr, get_or}
use Rattle.pg_word.specs.declared.psw.Mode.{Mode}
use Rattle.pg_word.specs.declared.psw.Mode.TheVariants.{S, U}
use Rattle.pg_ast.specs.declared.tree.Instr.{Instr}
use Rattle.pg_ast.specs.declared.tree.Desc.{Desc}
use Rattle.pg_lang_meaning.specs.Bodies.{Course, MemTrapped, Trapped, Going, After}
use Rattle.pg_lang_meaning.specs.States.{State, in_user}
use Rattle.pg_type.specs.Kinds.{course_at, observation, IsDone, IsTrap, IsNoMemTrap, ShowsLocation}
use Rattle.pg_type.specs.Accepting.{IsPrivileged, IsInnocuous, IsAccepted}
use Rattle.pg_type.specs.PaperWords.{IsPaperPrivileged, DiffersElsewhere, IsPaperSensitive, HoldPaperWords}
use Rattle.pg_type.specs.Alike.{LookAlike}
use Rattle.pg_type.proofs.AlikeLemmas.{at_alike, done_same, place_alike, mode_alike, in_user-state}

-- what is not done, and does not memory trap, traps
trap_from : (c : Course After) → IsNoMemTrap c → ¬ IsDone c → IsTrap c
trap_from MemTrapped free h = absurd free
trap_from Trapped free h = tt
trap_from (Going after) free h = absurd (h tt)

privileged-paper : (d : Desc) (i : Instr) → IsPrivileged d i → IsPaperPrivileged d i
privileged-paper d i h = record {
  user_traps = λ s state supervisor at free user. trap_from (course_at d i (in_user s)) user (h.user_traps s state supervisor at);
  supervisor_does_not = h.supervisor_done;
}

-- no pair of states shows an instruction that is not sensitive to depend on the place
unshown : (d : Desc) (i : Instr) (s t : State) → IsInnocuous d i → ¬ ShowsLocation d i s t
unshown d i s t harmless = λ shown. harmless.mode_and_location (inr (s, t, shown))

-- an instruction that is not sensitive, done at a user state: the same is observed at a state of any mode that has the
-- window elsewhere, first of the same in user mode, and then of the state itself
elsewhere_from_user : (d : Desc) (i : Instr) (s t : State) → IsInnocuous d i → DiffersElsewhere d i s t → s.psw.mode ≡ U → observation d i s ≡ observation d i t
elsewhere_from_user d i s t harmless h user =
    let same : LookAlike s t = record { same_window = h.same_window; same_p = h.same_p } in
    let same_user : LookAlike s (in_user t) = record { same_window = h.same_window; same_p = h.same_p } in
    let move = place_alike d i s (in_user t) (unshown d i s (in_user t) harmless) h.first (in_user-state d t h.second) same_user h.at_first h.same_size user h.same_bound h.first_done in
    move ∙ mode_alike d i t harmless h.second (at_alike i s t same h.at_first) (done_same (course_at d i s) (course_at d i (in_user t)) move h.first_done)

-- two states turned about
turned : (d : Desc) (i : Instr) (s t : State) → DiffersElsewhere d i s t → DiffersElsewhere d i t s
turned d i s t h = record {
  first = h.second;
  second = h.first;
  at_first = h.at_second;
  at_second = h.at_first;
  same_size = sym h.same_size;
  same_p = sym h.same_p;
  same_bound = sym h.same_bound;
  same_window = sym h.same_window;
  first_done = h.second_done;
  second_done = h.first_done;
  differ = λ e. h.differ (sym e);
}

-- whatever their modes, nothing else is observed elsewhere
never_elsewhere : (d : Desc) (i : Instr) (s t : State) → IsInnocuous d i → ¬ DiffersElsewhere d i s t
never_elsewhere d i s t harmless h = by s.psw.mode t.psw.mode refl refl
  where
    by : (m n : Mode) → s.psw.mode ≡ m → t.psw.mode ≡ n → ⊥
    by U n e f = h.differ (elsewhere_from_user d i s t harmless h e)
    by S U e f = h.differ (sym (elsewhere_from_user d i t s harmless (turned d i s t h) f))
    by S S e f =
        let same : LookAlike s t = record { same_window = h.same_window; same_p = h.same_p } in
        h.differ (place_alike d i s t (unshown d i s t harmless) h.first h.second same h.at_first h.same_size (e ∙ sym f) h.same_bound h.first_done)

innocuous-paper : (d : Desc) (i : Instr) → IsInnocuous d i → ¬ IsPaperSensitive d i
innocuous-paper d i harmless (inl x) =
    harmless.control (x.0, x.0, record { state = x.1.state; same = refl; at = x.1.at; changes = x.1.changes })
innocuous-paper d i harmless (inr x) = never_elsewhere d i x.0 x.1 harmless x.2

-- each instruction of an accepted description is paper-privileged, or not paper-sensitive
pub accepted-paper : (d : Desc) → IsAccepted d → HoldPaperWords d
accepted-paper d h = λ k i within. elim (h k i within) [
  | inl p ↦ inl (privileged-paper d (get_or d.instrs k i) p)
  | inr n ↦ inr (innocuous-paper d (get_or d.instrs k i) n)
]
