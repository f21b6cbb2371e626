-- Pairs and their states: two states are those of one pair alone, and show what it shows.
use Rattle.std.proofs.Common.{◌≡◌, length, slice_get, refl, sym, ap, subst, ◌∙◌}
use Rattle.std.specs.Prelude.{IsSomeAnd, IsTrue}
use Rattle.pg_ast.specs.declared.tree.Instr.{Instr}
use Rattle.pg_ast.specs.declared.tree.Desc.{Desc}
use Rattle.pg_lang_meaning.specs.Patterns.{matches}
use Rattle.pg_lang_meaning.specs.Bodies.{body}
use Rattle.pg_lang_meaning.specs.States.{State, IsState, window, in_user}
use Rattle.pg_lang_valid.proofs.StepSound.{window-length, window-words}
use Rattle.pg_type.specs.declared.kind.Kind.{Kind}
use Rattle.pg_type.specs.declared.kind.Kind.TheVariants.{Privileged, Control, ModeDep, Location, Bound, UControl, ULocation, UBound}
use Rattle.pg_type.specs.Kinds.{IsAt, fetched_word, course_at, IsModePair, ShowsControl, ShowsLocation, ShowsBound, Shows}
use Rattle.pg_type.specs.Pair.{Pair, IsPair, IsInBothModes, IsGivenTwice, IsMoved, IsRebounded, Relates, first_course, second_course, Ends, PairShows}
use Rattle.pg_type.specs.PairStates.{SharesStorage, IsOf, ShownAsPair}

-- the pair that two states of one window are
abbrev pair_of : State → State → Pair
pair_of s t = record {
  window = window s;
  first = s.psw;
  second = t.psw;
  first_size = length s.cells;
  second_size = length t.cells;
}

-- there is no other
pair_is : (d : Desc) (kind : Kind) (x : Pair) (s t : State) → IsOf d kind x s t → x ≡ pair_of s t
pair_is d kind x s t h = λ k. record {
  window = sym h.first_window k;
  first = sym h.first k;
  second = sym h.second k;
  first_size = sym h.first_size k;
  second_size = sym h.second_size k;
}

-- two states of one window and one P, the instruction at both
record Both (d : Desc) (i : Instr) (s t : State) : Type 0 where
  first : IsState d s
  second : IsState d t
  at_first : IsAt i s
  at_second : IsAt i t
  same_window : window s ≡ window t
  same_p : s.psw.p ≡ t.psw.p

module _ (d : Desc) (i : Instr) (s t : State) where
  at_same : window s ≡ window t → s.psw.p ≡ t.psw.p → IsAt i s → IsAt i t
  at_same w p at =
      subst (λ q. IsSomeAnd (slice_get (window t) q) (λ word. IsTrue (matches i.pattern.bytes word))) p
      (subst (λ xs. IsSomeAnd (slice_get xs s.psw.p) (λ word. IsTrue (matches i.pattern.bytes word))) w at)

  -- ---- what a pair takes of its states

  first-course : first_course d i (pair_of s t) ≡ course_at d i s
  unfolding first_course course_at
  first-course = refl

  second-course : window s ≡ window t → s.psw.p ≡ t.psw.p → second_course d i (pair_of s t) ≡ course_at d i t
  unfolding second_course course_at
  second-course w p =
      ap (λ xs. body d i xs t.psw (fetched_word (slice_get xs s.psw.p))) w
      ∙ ap (λ q. body d i (window t) t.psw (fetched_word (slice_get (window t) q))) p

  pair_from_both : Both d i s t → IsPair d i (pair_of s t)
  pair_from_both b = record {
    first_least = b.first.size_least;
    first_most = b.first.size_most;
    second_least = b.second.size_least;
    second_most = b.second.size_most;
    first_fields = b.first.fields;
    second_fields = b.second.fields;
    words = window-words d s b.first;
    first_usable = window-length s;
    second_usable = ap length b.same_window ∙ window-length t;
    same_p = b.same_p;
    at = b.at_first;
  }

  both_from_pair : (kind : Kind) → IsOf d kind (pair_of s t) s t → IsPair d i (pair_of s t) → Both d i s t
  both_from_pair kind h x = record {
    first = record { size_least = x.first_least; size_most = x.first_most; words = h.first_words; fields = x.first_fields };
    second = record { size_least = x.second_least; size_most = x.second_most; words = h.second_words; fields = x.second_fields };
    at_first = x.at;
    at_second = at_same (sym h.second_window) x.same_p x.at;
    same_window = sym h.second_window;
    same_p = x.same_p;
  }

  -- ---- from a pair to its states

  mode_pair : Both d i s t → s.cells ≡ t.cells → IsInBothModes (pair_of s t) → IsModePair d i s t
  mode_pair b cells r = record {
    state = b.first;
    supervisor = r.supervisor;
    same_in_user = λ k. record { cells = sym cells k; psw = r.same_in_user k };
    at_first = b.at_first;
    at_second = b.at_second;
  }

  shows_control : Both d i s t → s.cells ≡ t.cells → IsGivenTwice (pair_of s t) → Ends Control (pair_of s t) (course_at d i s) (course_at d i t) → ShowsControl d i s t
  shows_control b cells r e = record {
    state = b.first;
    same = λ k. record { cells = sym cells k; psw = r.same k };
    at = b.at_first;
    changes = e;
  }

  shows_location : Both d i s t → IsMoved (pair_of s t) → Ends Location (pair_of s t) (course_at d i s) (course_at d i t) → ShowsLocation d i s t
  shows_location b r e = record {
    first = b.first;
    second = b.second;
    at_first = b.at_first;
    at_second = b.at_second;
    same_size = r.same_size;
    same_bound = r.same_bound;
    same_mode = r.same_mode;
    same_p = b.same_p;
    same_window = b.same_window;
    moved = r.moved;
    done = e.0;
    differ = e.1;
  }

  shows_bound : Both d i s t → IsRebounded (pair_of s t) → Ends Bound (pair_of s t) (course_at d i s) (course_at d i t) → ShowsBound d i s t
  shows_bound b r e = record {
    first = b.first;
    second = b.second;
    at_first = b.at_first;
    at_second = b.at_second;
    same_l = r.same_l;
    same_mode = r.same_mode;
    same_p = b.same_p;
    same_window = b.same_window;
    other_bound = r.other_bound;
    done = e.0;
    differ = e.1;
  }

  shows : (kind : Kind) → Both d i s t → SharesStorage kind s.cells t.cells → Relates kind (pair_of s t) →
      Ends kind (pair_of s t) (course_at d i s) (course_at d i t) → Shows d i kind s t
  shows Privileged b cells r e = record { pair = mode_pair b cells r; breaks = e }
  shows Control b cells r e = shows_control b cells r e
  shows ModeDep b cells r e = record { pair = mode_pair b cells r; done = e.0; differ = e.1 }
  shows Location b cells r e = shows_location b r e
  shows Bound b cells r e = shows_bound b r e
  shows UControl b cells r e = (shows_control b cells r.0 e, r.1)
  shows ULocation b cells r e = (shows_location b r.0 e, r.1)
  shows UBound b cells r e = (shows_bound b r.0 e, r.1)

  ends_at_states : (kind : Kind) → Both d i s t → Ends kind (pair_of s t) (first_course d i (pair_of s t)) (second_course d i (pair_of s t)) →
      Ends kind (pair_of s t) (course_at d i s) (course_at d i t)
  ends_at_states kind b e =
      subst (λ c. Ends kind (pair_of s t) (course_at d i s) c) (second-course b.same_window b.same_p)
      (subst (λ c. Ends kind (pair_of s t) c (second_course d i (pair_of s t))) first-course e)

  shows_from_pair : (kind : Kind) → IsOf d kind (pair_of s t) s t → PairShows d i kind (pair_of s t) → Shows d i kind s t
  shows_from_pair kind h x =
      let b = both_from_pair kind h x.pair in
      shows kind b h.storage x.relates (ends_at_states kind b x.ends)

  -- ---- from states to their pair

  ends_at_pair : (kind : Kind) → Both d i s t → Ends kind (pair_of s t) (course_at d i s) (course_at d i t) →
      Ends kind (pair_of s t) (first_course d i (pair_of s t)) (second_course d i (pair_of s t))
  ends_at_pair kind b e =
      subst (λ c. Ends kind (pair_of s t) (first_course d i (pair_of s t)) c) (sym (second-course b.same_window b.same_p))
      (subst (λ c. Ends kind (pair_of s t) c (course_at d i t)) (sym first-course) e)

  shown : (kind : Kind) → Both d i s t → SharesStorage kind s.cells t.cells → Relates kind (pair_of s t) →
      Ends kind (pair_of s t) (course_at d i s) (course_at d i t) → ShownAsPair d i kind s t
  shown kind b cells r e = record {
    pair = pair_of s t;
    is_of = record {
      first = refl;
      second = refl;
      first_size = refl;
      second_size = refl;
      first_window = refl;
      second_window = sym b.same_window;
      first_words = b.first.words;
      second_words = b.second.words;
      storage = cells;
    };
    shows = record { pair = pair_from_both b; relates = r; ends = ends_at_pair kind b e };
  }

  -- the second state is the first one, or that in user mode
  both_from_equal : (u : State) → IsState d s → IsState d u → IsAt i s → window s ≡ window u → s.psw.p ≡ u.psw.p → t ≡ u → Both d i s t
  both_from_equal u first second at w p same =
      let w' : window s ≡ window t = w ∙ ap window (sym same) in
      let p' : s.psw.p ≡ t.psw.p = p ∙ ap (λ (v : State). v.psw.p) (sym same) in
      record {
        first = first;
        second = subst (IsState d) (sym same) second;
        at_first = at;
        at_second = at_same w' p' at;
        same_window = w';
        same_p = p';
      }

  both_modes : IsModePair d i s t → Both d i s t
  both_modes h =
      let state = h.state in
      both_from_equal (in_user s) state (record {
        size_least = state.size_least;
        size_most = state.size_most;
        words = state.words;
        fields = record { p = state.fields.p; l = state.fields.l; b = state.fields.b };
      }) h.at_first refl refl h.same_in_user

  both_twice : ShowsControl d i s t → Both d i s t
  both_twice h = both_from_equal s h.state h.state h.at refl refl h.same

  both_moved : ShowsLocation d i s t → Both d i s t
  both_moved h = record {
    first = h.first;
    second = h.second;
    at_first = h.at_first;
    at_second = h.at_second;
    same_window = h.same_window;
    same_p = h.same_p;
  }

  both_rebounded : ShowsBound d i s t → Both d i s t
  both_rebounded h = record {
    first = h.first;
    second = h.second;
    at_first = h.at_first;
    at_second = h.at_second;
    same_window = h.same_window;
    same_p = h.same_p;
  }

  in_both_modes : IsModePair d i s t → IsInBothModes (pair_of s t)
  in_both_modes h = record {
    supervisor = h.supervisor;
    same_in_user = ap (λ (v : State). v.psw) h.same_in_user;
    same_size = sym (ap (λ (v : State). length v.cells) h.same_in_user);
  }

  given_twice : ShowsControl d i s t → IsGivenTwice (pair_of s t)
  given_twice h = record {
    same = ap (λ (v : State). v.psw) h.same;
    same_size = sym (ap (λ (v : State). length v.cells) h.same);
  }

  moved : ShowsLocation d i s t → IsMoved (pair_of s t)
  moved h = record { same_size = h.same_size; same_bound = h.same_bound; same_mode = h.same_mode; moved = h.moved }

  rebounded : ShowsBound d i s t → IsRebounded (pair_of s t)
  rebounded h = record { same_l = h.same_l; same_mode = h.same_mode; other_bound = h.other_bound }

  shown_by_states : (kind : Kind) → Shows d i kind s t → ShownAsPair d i kind s t
  shown_by_states Privileged h =
      shown Privileged (both_modes h.pair) (sym (ap (λ (v : State). v.cells) h.pair.same_in_user)) (in_both_modes h.pair) h.breaks
  shown_by_states Control h =
      shown Control (both_twice h) (sym (ap (λ (v : State). v.cells) h.same)) (given_twice h) h.changes
  shown_by_states ModeDep h =
      shown ModeDep (both_modes h.pair) (sym (ap (λ (v : State). v.cells) h.pair.same_in_user)) (in_both_modes h.pair) (h.done, h.differ)
  shown_by_states Location h = shown Location (both_moved h) tt (moved h) (h.done, h.differ)
  shown_by_states Bound h = shown Bound (both_rebounded h) tt (rebounded h) (h.done, h.differ)
  shown_by_states UControl h =
      shown UControl (both_twice h.0) (sym (ap (λ (v : State). v.cells) h.0.same)) (given_twice h.0, h.1) h.0.changes
  shown_by_states ULocation h = shown ULocation (both_moved h.0) tt (moved h.0, h.1) (h.0.done, h.0.differ)
  shown_by_states UBound h = shown UBound (both_rebounded h.0) tt (rebounded h.0, h.1) (h.0.done, h.0.differ)

-- what a pair shows, its states show
pub pairs_show : (d : Desc) (i : Instr) (kind : Kind) (x : Pair) (s t : State) → IsOf d kind x s t → PairShows d i kind x → Shows d i kind s t
pairs_show d i kind x s t h shows =
    let e = pair_is d kind x s t h in
    shows_from_pair d i s t kind (subst (λ y. IsOf d kind y s t) e h) (subst (λ y. PairShows d i kind y) e shows)

-- two states that show a kind are those of a pair that shows it
pub states_shown : (d : Desc) (i : Instr) (kind : Kind) (s t : State) → Shows d i kind s t → ShownAsPair d i kind s t
states_shown d i kind s t h = shown_by_states d i s t kind h
