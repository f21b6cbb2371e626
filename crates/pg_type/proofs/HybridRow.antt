-- M1, the machine of rtu alone: what rtu does at every state, and what follows for both monitors.
use Rattle.std.proofs.Common.{◌≡◌, ◌≢◌, ◌⊎◌, ℕ, ◌/◌, ◌%◌, ◌^◌, List, [], ◌∷◌, slice_get, refl, sym, ◌∙◌, ap, inl, inr}
use Rattle.std.proofs.lemmas.List.Elements.{All-head, All-from_recursion}
use Rattle.pg_word.specs.declared.psw.Psw.{Psw}
use Rattle.pg_word.specs.declared.psw.Mode.TheVariants.{U}
use Rattle.pg_lang_meaning.specs.Patterns.{run_length, field_of_letter}
use Rattle.pg_lang_meaning.specs.Values.{let_value}
use Rattle.pg_lang_meaning.specs.Bodies.{Going, body, in_order}
use Rattle.pg_lang_meaning.specs.States.{State, window}
use Rattle.pg_type.specs.Kinds.{fetched_word, course_at, observed, observation, ChangesControl}
use Rattle.pg_type.specs.Accepting.{IsPrivileged, IsInnocuous, IsUserInnocuous}
use Rattle.pg_type.specs.Examples.{alone, rtu}
use Rattle.pg_type.specs.WorkedKinds.{M1ServesHybridAlone}
use Rattle.pg_lang_meaning.proofs.ValueEquations.{value_rules}
use Rattle.pg_lang_meaning.proofs.DeedEquations.{deed_rules}
use Rattle.pg_type.proofs.KindRows.{rtu_shows_control, rtu_breaks_privilege}
use Rattle.pg_type.proofs.KindLaws.{privileged-exactly}

-- rtu is done at every state: the window stays, and so does R; P is the word's last byte, and the mode user mode
rtu_leaves : (cells : List ℕ) (x : Psw) (word : ℕ) →
    body (alone rtu) rtu cells x word ≡ Going (record { window = cells; psw = record x { mode = U; p = word / 2 ^ 0 % 2 ^ 8 } })
unfolding body in_order run_length field_of_letter let_value
rtu_leaves cells x word = simp (deed_rules, value_rules)

-- what is seen of it is told by the window and P
rtu_seen : (s t : State) → window s ≡ window t → s.psw.p ≡ t.psw.p → observation (alone rtu) rtu s ≡ observation (alone rtu) rtu t
unfolding course_at
rtu_seen s t cells p =
    let word : fetched_word (slice_get (window s) s.psw.p) ≡ fetched_word (slice_get (window t) t.psw.p) =
    ap (λ w. fetched_word (slice_get w s.psw.p)) cells ∙ ap (λ n. fetched_word (slice_get (window t) n)) p in
    ap observed (rtu_leaves (window s) s.psw (fetched_word (slice_get (window s) s.psw.p)))
    ∙ ap (λ w. observed (Going (record { window = w; psw = record s.psw { mode = U; p = fetched_word (slice_get (window s) s.psw.p) / 2 ^ 0 % 2 ^ 8 } }))) cells
    ∙ ap (λ n. observed (Going (record { window = window t; psw = record t.psw { mode = U; p = n / 2 ^ 0 % 2 ^ 8 } }))) word
    ∙ sym (ap observed (rtu_leaves (window t) t.psw (fetched_word (slice_get (window t) t.psw.p))))

-- in user mode nothing of mode and R is another
same_control : (x : Psw) (n : ℕ) → x.mode ≡ U → (U ≢ x.mode) ⊎ (x.l ≢ x.l) ⊎ (x.b ≢ x.b) → ⊥
same_control x n user (inl m) = m (sym user)
same_control x n user (inr (inl l)) = l refl
same_control x n user (inr (inr b)) = b refl

rtu_keeps : (s : State) → s.psw.mode ≡ U → ¬ ChangesControl s.psw (course_at (alone rtu) rtu s)
unfolding course_at
rtu_keeps s user h =
    let changes = rw (rtu_leaves (window s) s.psw (fetched_word (slice_get (window s) s.psw.p))) at h in
    same_control s.psw 0 user changes

pub rtu_user_innocuous : IsUserInnocuous (alone rtu) rtu
rtu_user_innocuous = record {
  control = λ h. rtu_keeps h.0 h.3 h.2.changes;
  location = λ h. h.2.differ (rtu_seen h.0 h.1 h.2.same_window h.2.same_p);
  bound = λ h. h.2.differ (rtu_seen h.0 h.1 h.2.same_window h.2.same_p);
}

neither : IsPrivileged (alone rtu) rtu ⊎ IsInnocuous (alone rtu) rtu → ⊥
neither (inl p) = (privileged-exactly (alone rtu) rtu).0 p _ _ rtu_breaks_privilege
neither (inr n) = n.control (_, _, rtu_shows_control)

pub m1_serves_hybrid_alone : M1ServesHybridAlone
m1_serves_hybrid_alone = (
  All-from_recursion (λ i. IsPrivileged (alone rtu) i ⊎ IsUserInnocuous (alone rtu) i) (rtu ∷ []) (inr rtu_user_innocuous, tt),
  λ h. neither (All-head (λ i. IsPrivileged (alone rtu) i ⊎ IsInnocuous (alone rtu) i) rtu [] h),
)
