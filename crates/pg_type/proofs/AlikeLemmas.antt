-- An instruction that is not sensitive is done alike at all states that have the same window and the same P:
-- from one state to another lead pairs that differ in the bound alone, in the place alone, in the bound again, and in the
-- mode. All but the last are pairs of user states, so that between user states it is enough not to be user sensitive.
use Rattle.std.proofs.Common.{◌≡◌, ◌≢◌, ◌⊎◌, ℕ, ◌+◌, ◌-◌, ◌^◌, ◌<◌, ◌≤◌, Bool, true, false, ◌==◌, List, ◌++◌, length, take, replicate, slice_get, Option, None, Some, refl, sym, ◌∙◌, ap, subst, arith, inl, inr, length-append}
use Rattle.std.specs.Prelude.{IsSomeAnd, IsTrue, bytes_eq}
use Rattle.std.proofs.lemmas.Bool.Decides.{eqb_tells, not_from_Decides}
use Rattle.std.proofs.lemmas.Slice.Eq.{bytes_eq-Decides}
use Rattle.std.proofs.lemmas.List.{length-replicate, drop_at, take_at}
use Rattle.std.proofs.lemmas.List.Elements.{All-append, All-replicate}
use Rattle.std.proofs.lemmas.Nat.{pow_pos}
use Rattle.std.proofs.lemmas.Option.{slice_get_within}
use Rattle.pg_word.specs.declared.psw.Psw.{Psw}
use Rattle.pg_word.specs.Psw.{IsPsw}
use Rattle.pg_word.specs.declared.psw.Mode.{Mode}
use Rattle.pg_word.specs.declared.psw.Mode.TheVariants.{S, U}
use Rattle.pg_ast.specs.declared.tree.Instr.{Instr}
use Rattle.pg_ast.specs.declared.tree.Desc.{Desc}
use Rattle.pg_lang_meaning.specs.Patterns.{matches}
use Rattle.pg_lang_meaning.specs.Bodies.{Course, MemTrapped, Trapped, Going, After, body}
use Rattle.pg_lang_valid.specs.Typed.{AreWords}
use Rattle.pg_lang_meaning.specs.States.{State, IsState, window_length, window, in_user}
use Rattle.pg_type.specs.Kinds.{IsAt, fetched_word, course_at, Observation, SeenMemTrap, SeenTrap, SeenDone, observed, observation, IsDone, ChangesControl, ShowsLocation, ShowsBound}
use Rattle.pg_type.specs.Accepting.{IsPrivileged, IsInnocuous, IsUserInnocuous}
use Rattle.pg_type.specs.Alike.{LookAlike, DoneAlike, Places}
use Rattle.pg_lang_valid.proofs.StepSound.{window-length, window-words}
use Rattle.pg_type.proofs.KindLaws.{innocuous-user}

-- what is not different is the same: lists, modes, observations
list_same : (xs ys : List ℕ) → ¬ (xs ≢ ys) → xs ≡ ys
list_same xs ys h = by_test (bytes_eq xs ys) refl
  where
    by_test : (b : Bool) → bytes_eq xs ys ≡ b → xs ≡ ys
    by_test true e = (bytes_eq-Decides xs ys).0 e
    by_test false e = absurd (h (not_from_Decides (bytes_eq xs ys) (bytes_eq-Decides xs ys) e))

-- two numbers are equal or not
equal_or_not : (m n : ℕ) → (m ≡ n) ⊎ (m ≢ n)
equal_or_not m n = by_test (eqb_tells m n)
  where
    by_test : (((m == n) ≡ true) × (m ≡ n)) ⊎ (((m == n) ≡ false) × (m ≢ n)) → (m ≡ n) ⊎ (m ≢ n)
    by_test (inl e) = inl e.1
    by_test (inr e) = inr e.1

pub nat_same : (m n : ℕ) → ¬ (m ≢ n) → m ≡ n
nat_same m n h = by_test (equal_or_not m n)
  where
    by_test : (m ≡ n) ⊎ (m ≢ n) → m ≡ n
    by_test (inl e) = e
    by_test (inr e) = absurd (h e)

pub mode_same : (x y : Mode) → ¬ (x ≢ y) → x ≡ y
mode_same S S h = refl
mode_same U U h = refl
mode_same S U h = absurd (h (λ e. cc))
mode_same U S h = absurd (h (λ e. cc))

pub observation_same : (x y : Observation) → ¬ (x ≢ y) → x ≡ y
observation_same SeenMemTrap SeenMemTrap h = refl
observation_same SeenMemTrap SeenTrap h = absurd (h (λ e. cc))
observation_same SeenMemTrap (SeenDone ys q) h = absurd (h (λ e. cc))
observation_same SeenTrap SeenMemTrap h = absurd (h (λ e. cc))
observation_same SeenTrap SeenTrap h = refl
observation_same SeenTrap (SeenDone ys q) h = absurd (h (λ e. cc))
observation_same (SeenDone xs p) SeenMemTrap h = absurd (h (λ e. cc))
observation_same (SeenDone xs p) SeenTrap h = absurd (h (λ e. cc))
observation_same (SeenDone xs p) (SeenDone ys q) h =
    let cells : xs ≡ ys = list_same xs ys (λ other. h (λ e. other (cc))) in
    let next : p ≡ q = nat_same p q (λ other. h (λ e. other (cc))) in
    cc

-- PSWs of equal fields
pub psw_same : (x y : Psw) → x.mode ≡ y.mode → x.p ≡ y.p → x.l ≡ y.l → x.b ≡ y.b → x ≡ y
psw_same x y mode p l b =
    ap (λ m. record x { mode = m }) mode ∙ ap (λ n. record y { p = n; l = x.l; b = x.b }) p
    ∙ ap (λ n. record y { l = n; b = x.b }) l ∙ ap (λ n. record y { b = n }) b

-- an instruction takes a window and a PSW, and nothing else of a state
course_same : (d : Desc) (i : Instr) (s t : State) → window s ≡ window t → s.psw ≡ t.psw → course_at d i s ≡ course_at d i t
unfolding course_at
course_same d i s t cells psw =
    ap (λ w. body d i w s.psw (fetched_word (slice_get w s.psw.p))) cells
    ∙ ap (λ x. body d i (window t) x (fetched_word (slice_get (window t) x.p))) psw

-- an instruction is also at the states that look alike
pub at_alike : (i : Instr) (s t : State) → LookAlike s t → IsAt i s → IsAt i t
at_alike i s t same at =
    subst (λ p. IsSomeAnd (slice_get (window t) p) (λ word. IsTrue (matches i.pattern.bytes word))) same.same_p
    (subst (λ w. IsSomeAnd (slice_get w s.psw.p) (λ word. IsTrue (matches i.pattern.bytes word))) same.same_window at)

-- where an instruction is, the window has a cell
at_within : (i : Instr) (s : State) → IsAt i s → 0 < window_length s
at_within i s at = by_cell (slice_get (window s) s.psw.p) refl at
  where
    by_cell : (o : Option ℕ) → slice_get (window s) s.psw.p ≡ o → IsSomeAnd o (λ word. IsTrue (matches i.pattern.bytes word)) → 0 < window_length s
    by_cell None e h = absurd h
    by_cell (Some word) e h = let within = slice_get_within (window s) s.psw.p word e in omega (arith, window-length s)

-- done where the same is observed of what is done
pub done_same : (c e : Course After) → observed c ≡ observed e → IsDone c → IsDone e
done_same MemTrapped e same done = absurd done
done_same Trapped e same done = absurd done
done_same (Going after) MemTrapped same done = absurd (let wrong : ⊥ = cc in wrong)
done_same (Going after) Trapped same done = absurd (let wrong : ⊥ = cc in wrong)
done_same (Going after) (Going other) same done = tt

-- a window in the largest storage, at the place of a PSW, with zeros around it
abbrev pub placed : Desc → List ℕ → Psw → State
placed d cells psw = record {
  cells = replicate psw.l 0 ++ (cells ++ replicate (d.size - (psw.l + length cells)) 0);
  psw = psw;
}

pub placed-length : (d : Desc) (cells : List ℕ) (psw : Psw) → Places d cells psw → length (placed d cells psw).cells ≡ d.size
placed-length d cells psw h = let room : psw.l + length cells ≤ d.size = h.room in simp (length-append, length-replicate) (omega arith)

pub placed-window : (d : Desc) (cells : List ℕ) (psw : Psw) → Places d cells psw → window (placed d cells psw) ≡ cells
placed-window d cells psw h =
    let zeros : List ℕ = replicate (d.size - (psw.l + length cells)) 0 in
    let long = placed-length d cells psw h in
    ap (take (window_length (placed d cells psw))) (drop_at (replicate psw.l 0) (cells ++ zeros) psw.l (length-replicate psw.l 0))
    ∙ take_at cells zeros (window_length (placed d cells psw)) (omega (arith, long, h.bound, h.room))

pub placed-state : (d : Desc) (cells : List ℕ) (psw : Psw) → Places d cells psw → 2 ≤ d.size → AreWords d.word cells → IsPsw d.address psw → IsState d (placed d cells psw)
placed-state d cells psw h least words fields =
    let long = placed-length d cells psw h in
    let zeros : List ℕ = replicate (d.size - (psw.l + length cells)) 0 in
    record {
      size_least = omega (arith, long);
      size_most = omega (arith, long);
      words = All-append (λ c. c < 2 ^ d.word) (replicate psw.l 0) (cells ++ zeros) (All-replicate (λ c. c < 2 ^ d.word) psw.l 0 (pow_pos d.word))
          (All-append (λ c. c < 2 ^ d.word) cells zeros words (All-replicate (λ c. c < 2 ^ d.word) (d.size - (psw.l + length cells)) 0 (pow_pos d.word)));
      fields = fields;
    }

-- a window under another bound, at the same place: no such pair shows that the bound counts
bound_alike : (d : Desc) (i : Instr) (s t : State) → (¬ ShowsBound d i s t) → IsState d s → IsState d t → LookAlike s t → IsAt i s →
    s.psw.mode ≡ t.psw.mode → s.psw.l ≡ t.psw.l → IsDone (course_at d i s) → observation d i s ≡ observation d i t
bound_alike d i s t unshown first second same at mode l done = by_bound (equal_or_not s.psw.b t.psw.b)
  where
    by_bound : (s.psw.b ≡ t.psw.b) ⊎ (s.psw.b ≢ t.psw.b) → observation d i s ≡ observation d i t
    by_bound (inl e) = ap observed (course_same d i s t same.same_window (psw_same s.psw t.psw mode same.same_p l e))
    by_bound (inr e) = observation_same (observation d i s) (observation d i t) (λ other. unshown (record {
      first = first;
      second = second;
      at_first = at;
      at_second = at_alike i s t same at;
      same_l = l;
      same_mode = mode;
      same_p = same.same_p;
      same_window = same.same_window;
      other_bound = e;
      done = inl done;
      differ = other;
    }))

-- a window at another place, in a storage of the same size: no such pair shows that the place counts
pub place_alike : (d : Desc) (i : Instr) (s t : State) → (¬ ShowsLocation d i s t) → IsState d s → IsState d t → LookAlike s t → IsAt i s →
    length s.cells ≡ length t.cells → s.psw.mode ≡ t.psw.mode → s.psw.b ≡ t.psw.b → IsDone (course_at d i s) →
    observation d i s ≡ observation d i t
place_alike d i s t unshown first second same at size mode b done = by_place (equal_or_not s.psw.l t.psw.l)
  where
    by_place : (s.psw.l ≡ t.psw.l) ⊎ (s.psw.l ≢ t.psw.l) → observation d i s ≡ observation d i t
    by_place (inl e) = ap observed (course_same d i s t same.same_window (psw_same s.psw t.psw mode same.same_p e b))
    by_place (inr e) = observation_same (observation d i s) (observation d i t) (λ other. unshown (record {
      first = first;
      second = second;
      at_first = at;
      at_second = at_alike i s t same at;
      same_size = size;
      same_bound = b;
      same_mode = mode;
      same_p = same.same_p;
      same_window = same.same_window;
      moved = e;
      done = inl done;
      differ = other;
    }))

-- a state of either mode, against the same in user mode
pub mode_alike : (d : Desc) (i : Instr) (t : State) → IsInnocuous d i → IsState d t → IsAt i t → IsDone (course_at d i (in_user t)) →
    observation d i (in_user t) ≡ observation d i t
mode_alike d i t harmless state at done = by_mode t.psw.mode refl
  where
    by_mode : (m : Mode) → t.psw.mode ≡ m → observation d i (in_user t) ≡ observation d i t
    by_mode U e = ap observed (course_same d i (in_user t) t refl (ap (λ m. record t.psw { mode = m }) (sym e)))
    by_mode S e = sym (observation_same (observation d i t) (observation d i (in_user t)) (λ other. harmless.mode_and_location (inl (
      t,
      in_user t,
      record {
        pair = record { state = state; supervisor = e; same_in_user = refl; at_first = at; at_second = at };
        done = done;
        differ = other;
      },
    ))))

pub in_user-state : (d : Desc) (t : State) → IsState d t → IsState d (in_user t)
in_user-state d t h = record {
  size_least = h.size_least;
  size_most = h.size_most;
  words = h.words;
  fields = record { p = h.fields.p; l = h.fields.l; b = h.fields.b };
}

-- a PSW of user mode under which a window lies where a state has its own, and ends with it
abbrev narrowed : State → ℕ → State → Psw
narrowed s p at = record { mode = U; p = p; l = at.psw.l; b = length (window s) }

narrowed-places : (d : Desc) (s at : State) (p : ℕ) → IsState d at → length (window s) ≡ length (window at) → 0 < window_length at → Places d (window s) (narrowed s p at)
narrowed-places d s at p h long some = record { bound = refl; room = omega (arith, window-length at, h.size_most, long) }

narrowed-fields : (d : Desc) (s at : State) → IsState d s → IsState d at → IsPsw d.address (narrowed s s.psw.p at)
narrowed-fields d s at first second = record { p = first.fields.p; l = second.fields.l; b = omega (arith, window-length s, first.fields.b) }

-- an instruction that is not user sensitive, done in user mode: the same is observed of it at every user state that looks
-- alike
user_alike : (d : Desc) (i : Instr) (s t : State) → IsUserInnocuous d i → IsState d s → IsState d t → LookAlike s t → s.psw.mode ≡ U →
    t.psw.mode ≡ U → IsAt i s → IsDone (course_at d i s) → observation d i s ≡ observation d i t
user_alike d i s t harmless first second same user user' at done =
    let least : 2 ≤ d.size = omega (arith, first.size_least, first.size_most) in
    let long : length (window s) ≡ length (window t) = ap length same.same_window in
    let some : 0 < window_length s = at_within i s at in
    let some' : 0 < window_length t = at_within i t (at_alike i s t same at) in
    let words = window-words d s first in
    let here : State = placed d (window s) (narrowed s s.psw.p s) in
    let there : State = placed d (window s) (narrowed s s.psw.p t) in
    let here_places = narrowed-places d s s s.psw.p first refl some in
    let there_places = narrowed-places d s t s.psw.p second long some' in
    let here_state = placed-state d (window s) (narrowed s s.psw.p s) here_places least words (narrowed-fields d s s first first) in
    let there_state = placed-state d (window s) (narrowed s s.psw.p t) there_places least words (narrowed-fields d s t first second) in
    let here_window = placed-window d (window s) (narrowed s s.psw.p s) here_places in
    let there_window = placed-window d (window s) (narrowed s s.psw.p t) there_places in
    let size = placed-length d (window s) (narrowed s s.psw.p s) here_places ∙ sym (placed-length d (window s) (narrowed s s.psw.p t) there_places) in
    let to_here : LookAlike s here = record { same_window = sym here_window; same_p = refl } in
    let across : LookAlike here there = record { same_window = here_window ∙ sym there_window; same_p = refl } in
    let from_there : LookAlike there t = record { same_window = there_window ∙ same.same_window; same_p = same.same_p } in
    let at_here = at_alike i s here to_here at in
    let at_there = at_alike i here there across at_here in
    let narrow = bound_alike d i s here (λ shown. harmless.bound (s, here, shown, user)) first here_state to_here at user refl done in
    let done_here = done_same (course_at d i s) (course_at d i here) narrow done in
    let move = place_alike d i here there (λ shown. harmless.location (here, there, shown, refl)) here_state there_state across at_here size refl refl done_here in
    let done_there = done_same (course_at d i here) (course_at d i there) move done_here in
    let widen = bound_alike d i there t (λ shown. harmless.bound (there, t, shown, refl)) there_state second from_there at_there (sym user') refl done_there in
    narrow ∙ move ∙ widen

-- one that is not sensitive, done in user mode: the same is observed of it at every state that looks alike, first of the
-- same in user mode, and then of the state itself
innocuous_alike : (d : Desc) (i : Instr) (s t : State) → IsInnocuous d i → IsState d s → IsState d t → LookAlike s t → s.psw.mode ≡ U →
    IsAt i s → IsDone (course_at d i s) → observation d i s ≡ observation d i t
innocuous_alike d i s t harmless first second same user at done =
    let to_user : LookAlike s (in_user t) = record { same_window = same.same_window; same_p = same.same_p } in
    let across = user_alike d i s (in_user t) (innocuous-user d i harmless) first (in_user-state d t second) to_user user refl at done in
    across ∙ mode_alike d i t harmless second (at_alike i s t same at) (done_same (course_at d i s) (course_at d i (in_user t)) across done)

-- an instruction that is not sensitive changes neither mode nor R
innocuous_keeps : (d : Desc) (i : Instr) (s : State) → IsInnocuous d i → IsState d s → IsAt i s → ¬ ChangesControl s.psw (course_at d i s)
innocuous_keeps d i s harmless state at = λ changes. harmless.control (s, s, record { state = state; same = refl; at = at; changes = changes })

-- nor does one that is not user sensitive in user mode
user_keeps : (d : Desc) (i : Instr) (s : State) → IsUserInnocuous d i → IsState d s → s.psw.mode ≡ U → IsAt i s → ¬ ChangesControl s.psw (course_at d i s)
user_keeps d i s harmless state user at = λ changes. harmless.control (s, s, record { state = state; same = refl; at = at; changes = changes }, user)

-- a privileged instruction is not done in user mode
privileged_traps : (d : Desc) (i : Instr) (s : State) → IsPrivileged d i → IsState d s → s.psw.mode ≡ U → IsAt i s → ¬ IsDone (course_at d i s)
privileged_traps d i s privileged state user at =
    let above : State = record s { psw = record s.psw { mode = S } } in
    let above_state : IsState d above = record {
      size_least = state.size_least;
      size_most = state.size_most;
      words = state.words;
      fields = record { p = state.fields.p; l = state.fields.l; b = state.fields.b };
    } in
    let same : course_at d i (in_user above) ≡ course_at d i s = course_same d i (in_user above) s refl (ap (λ m. record s.psw { mode = m }) (sym user)) in
    subst (λ c. ¬ IsDone c) same (privileged.user_traps above above_state refl at)

-- an instruction that is privileged or not sensitive, done in user mode, is done alike at every state that looks alike
pub done_alike : (d : Desc) (i : Instr) (s t : State) → IsPrivileged d i ⊎ IsInnocuous d i → IsState d s → IsState d t → LookAlike s t →
    s.psw.mode ≡ U → IsAt i s → IsDone (course_at d i s) → DoneAlike d i s t
done_alike d i s t (inl privileged) first second same user at done = absurd (privileged_traps d i s privileged first user at done)
done_alike d i s t (inr harmless) first second same user at done = record {
  same_observed = sym (innocuous_alike d i s t harmless first second same user at done);
  kept_at_first = innocuous_keeps d i s harmless first at;
  kept_at_second = innocuous_keeps d i t harmless second (at_alike i s t same at);
}

-- one that is privileged or not user sensitive, done in user mode, is done alike at every user state that looks alike
pub user_done_alike : (d : Desc) (i : Instr) (s t : State) → IsPrivileged d i ⊎ IsUserInnocuous d i → IsState d s → IsState d t → LookAlike s t →
    s.psw.mode ≡ U → t.psw.mode ≡ U → IsAt i s → IsDone (course_at d i s) → DoneAlike d i s t
user_done_alike d i s t (inl privileged) first second same user user' at done = absurd (privileged_traps d i s privileged first user at done)
user_done_alike d i s t (inr harmless) first second same user user' at done = record {
  same_observed = sym (user_alike d i s t harmless first second same user user' at done);
  kept_at_first = user_keeps d i s harmless first user at;
  kept_at_second = user_keeps d i t harmless second user' (at_alike i s t same at);
}
