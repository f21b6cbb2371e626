-- Whether two states show a kind, as a test: *Shows* is decided.
use Rattle.std.specs.Prelude.{◌↔◌, ℕ, Bool, true, false, not, ◌&&◌, ◌||◌, ◌==◌, nat_le, nat_lt, IsTrue, ◌^◌, length, bytes_eq, Option, None, Some, slice_get}
use Rattle.std.specs.List.{list_all}
use Rattle.pg_word.specs.declared.psw.Psw.{Psw}
use Rattle.pg_word.specs.declared.psw.Mode.{Mode}
use Rattle.pg_word.specs.declared.psw.Mode.TheVariants.{S, U}
use Rattle.pg_ast.specs.declared.tree.Instr.{Instr}
use Rattle.pg_ast.specs.declared.tree.Desc.{Desc}
use Rattle.pg_lang_meaning.specs.Patterns.{matches}
use Rattle.pg_lang_meaning.specs.Bodies.{Course, MemTrapped, Trapped, Going, After}
use Rattle.pg_lang_meaning.specs.States.{State, window, in_user}
use Rattle.pg_type.specs.declared.kind.Kind.{Kind}
use Rattle.pg_type.specs.declared.kind.Kind.TheVariants.{Privileged, Control, ModeDep, Location, Bound, UControl, ULocation, UBound}
use Rattle.pg_type.specs.Kinds.{course_at, Shows}

-- ---- states

abbrev pub is_state : Desc → State → Bool
is_state d s =
    (nat_le 2 (length s.cells) && nat_le (length s.cells) d.size)
    && (list_all (λ cell. nat_lt cell (2 ^ d.word)) s.cells
    && (nat_lt s.psw.p (2 ^ d.address) && (nat_lt s.psw.l (2 ^ d.address) && nat_lt s.psw.b (2 ^ d.address))))

abbrev pub same_mode : Mode → Mode → Bool
same_mode S S = true
same_mode S U = false
same_mode U S = false
same_mode U U = true

abbrev pub same_psw : Psw → Psw → Bool
same_psw x y = same_mode x.mode y.mode && ((x.p == y.p) && ((x.l == y.l) && (x.b == y.b)))

abbrev pub same_state : State → State → Bool
same_state s t = bytes_eq s.cells t.cells && same_psw s.psw t.psw

abbrev pub word_matches : Instr → Option ℕ → Bool
word_matches i None = false
word_matches i (Some word) = matches i.pattern.bytes word

abbrev pub is_at : Instr → State → Bool
is_at i s = word_matches i (slice_get (window s) s.psw.p)

-- ---- what becomes of a body

abbrev pub is_done : Course After → Bool
is_done MemTrapped = false
is_done Trapped = false
is_done (Going after) = true

abbrev pub is_trap : Course After → Bool
is_trap MemTrapped = false
is_trap Trapped = true
is_trap (Going after) = false

abbrev pub is_no_mem_trap : Course After → Bool
is_no_mem_trap MemTrapped = false
is_no_mem_trap Trapped = true
is_no_mem_trap (Going after) = true

abbrev pub changes_control : Psw → Course After → Bool
changes_control old MemTrapped = false
changes_control old Trapped = false
changes_control old (Going after) = not (same_mode after.psw.mode old.mode) || (not (after.psw.l == old.l) || not (after.psw.b == old.b))

abbrev pub same_observed : Course After → Course After → Bool
same_observed MemTrapped MemTrapped = true
same_observed MemTrapped Trapped = false
same_observed MemTrapped (Going y) = false
same_observed Trapped MemTrapped = false
same_observed Trapped Trapped = true
same_observed Trapped (Going y) = false
same_observed (Going x) MemTrapped = false
same_observed (Going x) Trapped = false
same_observed (Going x) (Going y) = bytes_eq x.window y.window && (x.psw.p == y.psw.p)

-- ---- kinds

abbrev pub mode_pair : Desc → Instr → State → State → Bool
mode_pair d i s t = is_state d s && (same_mode s.psw.mode S && (same_state t (in_user s) && (is_at i s && is_at i t)))

abbrev pub breaks_privilege : Desc → Instr → State → State → Bool
breaks_privilege d i s t = mode_pair d i s t && (is_done (course_at d i t) || (is_no_mem_trap (course_at d i t) && is_trap (course_at d i s)))

abbrev pub shows_control : Desc → Instr → State → State → Bool
shows_control d i s t = is_state d s && (same_state t s && (is_at i s && changes_control s.psw (course_at d i s)))

abbrev pub shows_mode : Desc → Instr → State → State → Bool
shows_mode d i s t = mode_pair d i s t && (is_done (course_at d i t) && not (same_observed (course_at d i s) (course_at d i t)))

-- both are states with the instruction at them, of one mode, P and window, one at least done, and seen apart
abbrev pub seen_apart : Desc → Instr → State → State → Bool
seen_apart d i s t =
    (is_state d s && is_state d t) && ((is_at i s && is_at i t)
    && ((same_mode s.psw.mode t.psw.mode && ((s.psw.p == t.psw.p) && bytes_eq (window s) (window t)))
    && ((is_done (course_at d i s) || is_done (course_at d i t)) && not (same_observed (course_at d i s) (course_at d i t)))))

abbrev pub shows_location : Desc → Instr → State → State → Bool
shows_location d i s t = (length s.cells == length t.cells) && ((s.psw.b == t.psw.b) && (not (s.psw.l == t.psw.l) && seen_apart d i s t))

abbrev pub shows_bound : Desc → Instr → State → State → Bool
shows_bound d i s t = (s.psw.l == t.psw.l) && (not (s.psw.b == t.psw.b) && seen_apart d i s t)

unfoldable pub shows : Desc → Instr → Kind → State → State → Bool
shows d i Privileged s t = breaks_privilege d i s t
shows d i Control s t = shows_control d i s t
shows d i ModeDep s t = shows_mode d i s t
shows d i Location s t = shows_location d i s t
shows d i Bound s t = shows_bound d i s t
shows d i UControl s t = shows_control d i s t && same_mode s.psw.mode U
shows d i ULocation s t = shows_location d i s t && same_mode s.psw.mode U
shows d i UBound s t = shows_bound d i s t && same_mode s.psw.mode U

-- the test is true exactly where *Shows* holds
abbrev pub ShowsIsDecided : Type 0
ShowsIsDecided = (d : Desc) (i : Instr) (kind : Kind) (s t : State) → IsTrue (shows d i kind s t) ↔ Shows d i kind s t
