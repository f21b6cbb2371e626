-- The test of two states, part by part: each decides what it says.
use Rattle.std.proofs.Common.{◌≡◌, ◌≢◌, ◌⊎◌, ℕ, ◌^◌, ◌<◌, ◌≤◌, true, false, not, List, length, Option, None, Some, All, slice_get, refl, ap}
use Rattle.std.specs.Prelude.{◌&&◌, ◌||◌, ◌==◌, nat_le, nat_lt, bytes_eq, IsSomeAnd, IsTrue}
use Rattle.std.specs.Bool.{Decides}
use Rattle.std.specs.List.{list_all}
use Rattle.std.proofs.lemmas.Bool.{leb-true, le-leb}
use Rattle.std.proofs.lemmas.Bool.Decides.{Decides-and, Decides-or, Decides-not, Decides-like, Decides-eqb, Decides-ltb, Decides-by_and}
use Rattle.std.proofs.lemmas.Slice.Eq.{bytes_eq-Decides}
use Rattle.pg_word.specs.declared.psw.Psw.{Psw}
use Rattle.pg_word.specs.declared.psw.Mode.{Mode}
use Rattle.pg_word.specs.declared.psw.Mode.TheVariants.{S, U}
use Rattle.pg_ast.specs.declared.tree.Instr.{Instr}
use Rattle.pg_ast.specs.declared.tree.Desc.{Desc}
use Rattle.pg_lang_meaning.specs.Patterns.{matches}
use Rattle.pg_lang_meaning.specs.Bodies.{Course, MemTrapped, Trapped, Going, After}
use Rattle.pg_lang_meaning.specs.States.{State, IsState, window, in_user}
use Rattle.pg_type.specs.declared.kind.Kind.{Kind}
use Rattle.pg_type.specs.declared.kind.Kind.TheVariants.{Privileged, Control, ModeDep, Location, Bound, UControl, ULocation, UBound}
use Rattle.pg_type.specs.Kinds.{IsAt, course_at, SeenDone, observed, observation, IsDone, IsTrap, IsNoMemTrap, ChangesControl, IsModePair, BreaksPrivilege, ShowsControl, ShowsMode, ShowsLocation, ShowsBound, Shows}
use Rattle.pg_verify.specs.Judging.{is_state, same_mode, same_psw, same_state, word_matches, is_at, is_done, is_trap, is_no_mem_trap, changes_control, same_observed, mode_pair, breaks_privilege, shows_control, shows_mode, seen_apart, shows_location, shows_bound, shows}

-- ---- what holds, what does not

holds : {P : Type 0} → P → Decides true P
holds p = (λ _. p, λ _. refl)

fails : {P : Type 0} → ¬ P → Decides false P
fails n = (λ e. absurd (let f : false ≡ true = e in cc), λ p. absurd (n p))

at_most : (a b : ℕ) → Decides (nat_le a b) (a ≤ b)
at_most a b = (leb-true a b, le-leb a b)

-- ---- states

are_words : (d : Desc) (cells : List ℕ) →
    Decides (list_all (λ cell. nat_lt cell (2 ^ d.word)) cells) (All (λ cell. cell < 2 ^ d.word) cells)
are_words d cells = Decides-by_and (λ cell. nat_lt cell (2 ^ d.word)) (λ cell. cell < 2 ^ d.word)
    (λ xs. list_all (λ cell. nat_lt cell (2 ^ d.word)) xs) (λ cell. Decides-ltb cell (2 ^ d.word)) refl (λ _ _. refl)
    cells

state_decides : (d : Desc) (s : State) → Decides (is_state d s) (IsState d s)
state_decides d s =
    Decides-like (is_state d s)
    (λ h. record {
      size_least = h.0.0;
      size_most = h.0.1;
      words = h.1.0;
      fields =
          record { p = h.1.1.0; l = h.1.1.1.0; b = h.1.1.1.1 };
    })
    (λ (h : IsState d s). ((h.size_least, h.size_most), (h.words, (h.fields.p, (h.fields.l, h.fields.b)))))
    (Decides-and (nat_le 2 (length s.cells) && nat_le (length s.cells) d.size)
    (list_all (λ cell. nat_lt cell (2 ^ d.word))
    s.cells && (nat_lt s.psw.p (2 ^ d.address) && (nat_lt s.psw.l (2 ^ d.address) && nat_lt s.psw.b
    (2 ^ d.address))))
    (Decides-and (nat_le 2 (length s.cells)) (nat_le (length s.cells) d.size) (at_most 2 (length s.cells))
    (at_most (length s.cells) d.size))
    (Decides-and (list_all (λ cell. nat_lt cell (2 ^ d.word)) s.cells)
    (nat_lt s.psw.p (2 ^ d.address) && (nat_lt s.psw.l (2 ^ d.address) && nat_lt s.psw.b (2 ^ d.address)))
    (are_words d s.cells)
    (Decides-and (nat_lt s.psw.p (2 ^ d.address)) (nat_lt s.psw.l (2 ^ d.address) && nat_lt s.psw.b (2 ^ d.address))
    (Decides-ltb s.psw.p (2 ^ d.address))
    (Decides-and (nat_lt s.psw.l (2 ^ d.address)) (nat_lt s.psw.b (2 ^ d.address)) (Decides-ltb s.psw.l (2 ^ d.address))
    (Decides-ltb s.psw.b (2 ^ d.address))))))

mode_decides : (x y : Mode) → Decides (same_mode x y) (x ≡ y)
mode_decides S S = holds refl
mode_decides S U = fails (λ e. cc)
mode_decides U S = fails (λ e. cc)
mode_decides U U = holds refl

psw_decides : (x y : Psw) → Decides (same_psw x y) (x ≡ y)
psw_decides x y =
    Decides-like (same_psw x y)
    (λ h. λ k. record { mode = h.0 k; p = h.1.0 k; l = h.1.1.0 k; b = h.1.1.1 k })
    (λ (h : x ≡ y). (
      ap (λ (z : Psw). z.mode) h,
      (ap (λ (z : Psw). z.p) h, (ap (λ (z : Psw). z.l) h, ap (λ (z : Psw). z.b) h)),
    ))
    (Decides-and (same_mode x.mode y.mode) ((x.p == y.p) && ((x.l == y.l) && (x.b == y.b))) (mode_decides x.mode y.mode)
    (Decides-and (x.p == y.p) ((x.l == y.l) && (x.b == y.b)) (Decides-eqb x.p y.p)
    (Decides-and (x.l == y.l) (x.b == y.b) (Decides-eqb x.l y.l) (Decides-eqb x.b y.b))))

same_decides : (s t : State) → Decides (same_state s t) (s ≡ t)
same_decides s t =
    Decides-like (same_state s t)
    (λ h. λ k. record { cells = h.0 k; psw = h.1 k })
    (λ (h : s ≡ t). (ap (λ (z : State). z.cells) h, ap (λ (z : State). z.psw) h))
    (Decides-and (bytes_eq s.cells t.cells) (same_psw s.psw t.psw) (bytes_eq-Decides s.cells t.cells)
    (psw_decides s.psw t.psw))

at_decides : (i : Instr) (s : State) → Decides (is_at i s) (IsAt i s)
at_decides i s = by (slice_get (window s) s.psw.p)
  where
    by : (o : Option ℕ) → Decides (word_matches i o) (IsSomeAnd o (λ word. IsTrue (matches i.pattern.bytes word)))
    by None = fails (λ h. h)
    by (Some word) = (λ e. e, λ h. h)

-- ---- what becomes of a body

done_decides : (c : Course After) → Decides (is_done c) (IsDone c)
done_decides MemTrapped = fails (λ h. h)
done_decides Trapped = fails (λ h. h)
done_decides (Going after) = holds tt

trap_decides : (c : Course After) → Decides (is_trap c) (IsTrap c)
trap_decides MemTrapped = fails (λ h. h)
trap_decides Trapped = holds tt
trap_decides (Going after) = fails (λ h. h)

no_mem_trap_decides : (c : Course After) → Decides (is_no_mem_trap c) (IsNoMemTrap c)
no_mem_trap_decides MemTrapped = fails (λ h. h)
no_mem_trap_decides Trapped = holds tt
no_mem_trap_decides (Going after) = holds tt

control_decides : (old : Psw) (c : Course After) → Decides (changes_control old c) (ChangesControl old c)
control_decides old MemTrapped = fails (λ h. h)
control_decides old Trapped = fails (λ h. h)
control_decides old (Going after) =
    Decides-or (not (same_mode after.psw.mode old.mode)) (not (after.psw.l == old.l) || not (after.psw.b == old.b))
    (Decides-not (same_mode after.psw.mode old.mode) (mode_decides after.psw.mode old.mode))
    (Decides-or (not (after.psw.l == old.l)) (not (after.psw.b == old.b))
    (Decides-not (after.psw.l == old.l) (Decides-eqb after.psw.l old.l))
    (Decides-not (after.psw.b == old.b) (Decides-eqb after.psw.b old.b)))

observed_decides : (x y : Course After) → Decides (same_observed x y) (observed x ≡ observed y)
observed_decides MemTrapped MemTrapped = holds refl
observed_decides MemTrapped Trapped = fails (λ e. cc)
observed_decides MemTrapped (Going y) = fails (λ e. cc)
observed_decides Trapped MemTrapped = fails (λ e. cc)
observed_decides Trapped Trapped = holds refl
observed_decides Trapped (Going y) = fails (λ e. cc)
observed_decides (Going x) MemTrapped = fails (λ e. cc)
observed_decides (Going x) Trapped = fails (λ e. cc)
observed_decides (Going x) (Going y) =
    Decides-like (bytes_eq x.window y.window && (x.psw.p == y.psw.p))
    (λ h. λ k. SeenDone (h.0 k) (h.1 k))
    (λ (h : SeenDone x.window x.psw.p ≡ SeenDone y.window y.psw.p). let first : x.window ≡ y.window =
    cc in let second : x.psw.p ≡ y.psw.p = cc in (first, second))
    (Decides-and (bytes_eq x.window y.window) (x.psw.p == y.psw.p) (bytes_eq-Decides x.window y.window)
    (Decides-eqb x.psw.p y.psw.p))

module _ (d : Desc) (i : Instr) (s t : State) where
  differ_decides : Decides (not (same_observed (course_at d i s) (course_at d i t)))
      (observation d i s ≢ observation d i t)
  differ_decides = Decides-not (same_observed (course_at d i s) (course_at d i t))
      (observed_decides (course_at d i s) (course_at d i t))

  -- ---- kinds

  pair_decides : Decides (mode_pair d i s t) (IsModePair d i s t)
  pair_decides =
      Decides-like (mode_pair d i s t)
      (λ h. record {
        state = h.0;
        supervisor = h.1.0;
        same_in_user = h.1.1.0;
        at_first = h.1.1.1.0;
        at_second =
            h.1.1.1.1;
      })
      (λ (h : IsModePair d i s t). (h.state, (h.supervisor, (h.same_in_user, (h.at_first, h.at_second)))))
      (Decides-and (is_state d s) (same_mode s.psw.mode S && (same_state t (in_user s) && (is_at i s && is_at i t)))
      (state_decides d s)
      (Decides-and (same_mode s.psw.mode S) (same_state t (in_user s) && (is_at i s && is_at i t))
      (mode_decides s.psw.mode S)
      (Decides-and (same_state t (in_user s)) (is_at i s && is_at i t) (same_decides t (in_user s))
      (Decides-and (is_at i s) (is_at i t) (at_decides i s) (at_decides i t)))))

  privilege_decides : Decides (breaks_privilege d i s t) (BreaksPrivilege d i s t)
  privilege_decides =
      Decides-like (breaks_privilege d i s t)
      (λ h. record { pair = h.0; breaks = h.1 })
      (λ (h : BreaksPrivilege d i s t). (h.pair, h.breaks))
      (Decides-and (mode_pair d i s t)
      (is_done (course_at d i t) || (is_no_mem_trap (course_at d i t) && is_trap (course_at d i s))) pair_decides
      (Decides-or (is_done (course_at d i t)) (is_no_mem_trap (course_at d i t) && is_trap (course_at d i s))
      (done_decides (course_at d i t))
      (Decides-and (is_no_mem_trap (course_at d i t)) (is_trap (course_at d i s))
      (no_mem_trap_decides (course_at d i t)) (trap_decides (course_at d i s)))))

  control_shown_decides : Decides (shows_control d i s t) (ShowsControl d i s t)
  control_shown_decides =
      Decides-like (shows_control d i s t)
      (λ h. record { state = h.0; same = h.1.0; at = h.1.1.0; changes = h.1.1.1 })
      (λ (h : ShowsControl d i s t). (h.state, (h.same, (h.at, h.changes))))
      (Decides-and (is_state d s) (same_state t s && (is_at i s && changes_control s.psw (course_at d i s)))
      (state_decides d s)
      (Decides-and (same_state t s) (is_at i s && changes_control s.psw (course_at d i s)) (same_decides t s)
      (Decides-and (is_at i s) (changes_control s.psw (course_at d i s)) (at_decides i s)
      (control_decides s.psw (course_at d i s)))))

  mode_shown_decides : Decides (shows_mode d i s t) (ShowsMode d i s t)
  mode_shown_decides =
      Decides-like (shows_mode d i s t)
      (λ h. record { pair = h.0; done = h.1.0; differ = h.1.1 })
      (λ (h : ShowsMode d i s t). (h.pair, (h.done, h.differ)))
      (Decides-and (mode_pair d i s t)
      (is_done (course_at d i t) && not (same_observed (course_at d i s) (course_at d i t))) pair_decides
      (Decides-and (is_done (course_at d i t)) (not (same_observed (course_at d i s) (course_at d i t)))
      (done_decides (course_at d i t)) differ_decides))

  -- what two states seen apart are
  abbrev Apart : Type 0
  Apart =
      (IsState d s × IsState d t) × ((IsAt i s × IsAt i t)
      × (((s.psw.mode ≡ t.psw.mode) × ((s.psw.p ≡ t.psw.p) × (window s ≡ window t)))
      × ((IsDone (course_at d i s) ⊎ IsDone (course_at d i t)) × (observation d i s ≢ observation d i t))))

  apart_decides : Decides (seen_apart d i s t) Apart
  apart_decides =
      Decides-and (is_state d s && is_state d t) ((is_at i s && is_at i t)
      && ((same_mode s.psw.mode t.psw.mode && ((s.psw.p == t.psw.p) && bytes_eq (window s) (window t)))
      && ((is_done (course_at d i s) || is_done (course_at d i t)) && not
      (same_observed (course_at d i s) (course_at d i t)))))
      (Decides-and (is_state d s) (is_state d t) (state_decides d s) (state_decides d t))
      (Decides-and (is_at i s && is_at i t)
      ((same_mode s.psw.mode t.psw.mode && ((s.psw.p == t.psw.p) && bytes_eq (window s) (window t)))
      && ((is_done (course_at d i s) || is_done (course_at d i t)) && not
      (same_observed (course_at d i s) (course_at d i t))))
      (Decides-and (is_at i s) (is_at i t) (at_decides i s) (at_decides i t))
      (Decides-and (same_mode s.psw.mode t.psw.mode && ((s.psw.p == t.psw.p) && bytes_eq (window s) (window t)))
      ((is_done (course_at d i s) || is_done (course_at d i t)) && not
      (same_observed (course_at d i s) (course_at d i t)))
      (Decides-and (same_mode s.psw.mode t.psw.mode) ((s.psw.p == t.psw.p) && bytes_eq (window s) (window t))
      (mode_decides s.psw.mode t.psw.mode)
      (Decides-and (s.psw.p == t.psw.p) (bytes_eq (window s) (window t)) (Decides-eqb s.psw.p t.psw.p)
      (bytes_eq-Decides (window s) (window t))))
      (Decides-and (is_done (course_at d i s) || is_done (course_at d i t))
      (not (same_observed (course_at d i s) (course_at d i t)))
      (Decides-or (is_done (course_at d i s)) (is_done (course_at d i t)) (done_decides (course_at d i s))
      (done_decides (course_at d i t)))
      differ_decides)))

  location_decides : Decides (shows_location d i s t) (ShowsLocation d i s t)
  location_decides =
      Decides-like (shows_location d i s t)
      (λ h. record {
        first = h.1.1.1.0.0;
        second = h.1.1.1.0.1;
        at_first = h.1.1.1.1.0.0;
        at_second = h.1.1.1.1.0.1;
        same_size = h.0;
        same_bound = h.1.0;
        same_mode = h.1.1.1.1.1.0.0;
        same_p = h.1.1.1.1.1.0.1.0;
        same_window = h.1.1.1.1.1.0.1.1;
        moved = h.1.1.0;
        done = h.1.1.1.1.1.1.0;
        differ = h.1.1.1.1.1.1.1;
      })
      (λ (h : ShowsLocation d i s t). (
        h.same_size,
        (
          h.same_bound,
          (
            h.moved,
            (
              (h.first, h.second),
              (
                (h.at_first, h.at_second),
                ((h.same_mode, (h.same_p, h.same_window)), (h.done, h.differ)),
              ),
            ),
          ),
        ),
      ))
      (Decides-and (length s.cells == length t.cells)
      ((s.psw.b == t.psw.b) && (not (s.psw.l == t.psw.l) && seen_apart d i s t))
      (Decides-eqb (length s.cells) (length t.cells))
      (Decides-and (s.psw.b == t.psw.b) (not (s.psw.l == t.psw.l) && seen_apart d i s t) (Decides-eqb s.psw.b t.psw.b)
      (Decides-and (not (s.psw.l == t.psw.l)) (seen_apart d i s t)
      (Decides-not (s.psw.l == t.psw.l) (Decides-eqb s.psw.l t.psw.l)) apart_decides)))

  bound_decides : Decides (shows_bound d i s t) (ShowsBound d i s t)
  bound_decides =
      Decides-like (shows_bound d i s t)
      (λ h. record {
        first = h.1.1.0.0;
        second = h.1.1.0.1;
        at_first = h.1.1.1.0.0;
        at_second = h.1.1.1.0.1;
        same_l = h.0;
        same_mode = h.1.1.1.1.0.0;
        same_p = h.1.1.1.1.0.1.0;
        same_window = h.1.1.1.1.0.1.1;
        other_bound = h.1.0;
        done = h.1.1.1.1.1.0;
        differ = h.1.1.1.1.1.1;
      })
      (λ (h : ShowsBound d i s t). (
        h.same_l,
        (
          h.other_bound,
          (
            (h.first, h.second),
            (
              (h.at_first, h.at_second),
              ((h.same_mode, (h.same_p, h.same_window)), (h.done, h.differ)),
            ),
          ),
        ),
      ))
      (Decides-and (s.psw.l == t.psw.l) (not (s.psw.b == t.psw.b) && seen_apart d i s t) (Decides-eqb s.psw.l t.psw.l)
      (Decides-and (not (s.psw.b == t.psw.b)) (seen_apart d i s t)
      (Decides-not (s.psw.b == t.psw.b) (Decides-eqb s.psw.b t.psw.b)) apart_decides))

  user_decides : Decides (same_mode s.psw.mode U) (s.psw.mode ≡ U)
  user_decides = mode_decides s.psw.mode U

pub shows_decides : (d : Desc) (i : Instr) (kind : Kind) (s t : State) →
    Decides (shows d i kind s t) (Shows d i kind s t)
unfolding shows
shows_decides d i Privileged s t = privilege_decides d i s t
shows_decides d i Control s t = control_shown_decides d i s t
shows_decides d i ModeDep s t = mode_shown_decides d i s t
shows_decides d i Location s t = location_decides d i s t
shows_decides d i Bound s t = bound_decides d i s t
shows_decides d i UControl s t =
    Decides-and (shows_control d i s t) (same_mode s.psw.mode U) (control_shown_decides d i s t) (user_decides d i s t)
shows_decides d i ULocation s t =
    Decides-and (shows_location d i s t) (same_mode s.psw.mode U) (location_decides d i s t) (user_decides d i s t)
shows_decides d i UBound s t =
    Decides-and (shows_bound d i s t) (same_mode s.psw.mode U) (bound_decides d i s t) (user_decides d i s t)
