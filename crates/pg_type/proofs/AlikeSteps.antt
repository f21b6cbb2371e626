-- Steps from states that look alike: of an accepted description's machine, the first state in user mode, and of one that a
-- hybrid monitor may run, both states in user mode.
use Rattle.std.proofs.Common.{◌≡◌, ◌⊎◌, ℕ, Bool, true, false, if◌then◌else◌, ◌+◌, ◌^◌, ◌<◌, ◌≤◌, List, [], ◌∷◌, ◌++◌, length, take, drop, slice_get, Option, None, Some, refl, sym, ◌∙◌, ap, subst, arith, inl, inr, append_assoc}
use Rattle.std.specs.Prelude.{All, Contains, IsSomeAnd, IsTrue}
use Rattle.std.proofs.Math.Logic.{∥∥₁_elim, ∥∥₁_map}
use Rattle.std.proofs.lemmas.Bool.{cases_lt}
use Rattle.std.proofs.lemmas.List.{length-take, drop_at, take_at, nil_from_length}
use Rattle.std.proofs.lemmas.List.Elements.{All-head, All-tail, All-contains, All-contains_itself}
use Rattle.pg_word.specs.declared.psw.Psw.{Psw}
use Rattle.pg_word.specs.Psw.{IsPsw}
use Rattle.pg_word.specs.declared.psw.Mode.TheVariants.{U}
use Rattle.pg_ast.specs.declared.tree.Instr.{Instr}
use Rattle.pg_ast.specs.declared.tree.Desc.{Desc}
use Rattle.pg_lang_meaning.specs.Patterns.{matches, matching}
use Rattle.pg_lang_meaning.specs.Bodies.{Course, MemTrapped, Trapped, Going, After, body}
use Rattle.pg_lang_meaning.specs.States.{State, IsState, window_length, window, put_back}
use Rattle.pg_lang_valid.specs.Valid.{IsValid}
use Rattle.pg_lang_meaning.specs.Steps.{Ending, ByMemTrap, ByTrap, ByNoPattern, Done, ending_of, executed, fetched, ending, left_by, step, ends_in_trap}
use Rattle.pg_type.specs.Kinds.{IsAt, fetched_word, course_at, SeenDone, observed, observation, IsDone, ChangesControl}
use Rattle.pg_type.specs.Accepting.{IsPrivileged, IsInnocuous, IsUserInnocuous, IsAccepted, IsHybridAccepted}
use Rattle.pg_type.specs.Alike.{LookAlike, DoneAlike, StepsAlike, Places}
use Rattle.pg_lang_valid.proofs.StepSound.{AfterFits, OnDone, ending-sound, window-length, window-words, put_back-length}
use Rattle.pg_type.proofs.KindLaws.{accepted-hybrid}
use Rattle.pg_type.proofs.AlikeLemmas.{placed, placed-window, placed-state, nat_same, mode_same, observation_same, psw_same, done_same, done_alike, user_done_alike}

-- looking alike, the other way round
turned : (s t : State) → LookAlike s t → LookAlike t s
turned s t same = record { same_window = sym same.same_window; same_p = sym same.same_p }

-- what is done alike by a fact is done alike where the fact is only known to hold
known_alike : (P : Type 0) (d : Desc) (i : Instr) (s t : State) → ∥ P ∥₁ → (P → DoneAlike d i s t) → DoneAlike d i s t
known_alike P d i s t known by = record {
  same_observed = observation_same (observation d i t) (observation d i s) (λ other. ∥∥₁_elim {P = ⊥} known (hlevel) (λ h. other (by h).same_observed));
  kept_at_first = λ changes. ∥∥₁_elim {P = ⊥} known (hlevel) (λ h. (by h).kept_at_first changes);
  kept_at_second = λ changes. ∥∥₁_elim {P = ⊥} known (hlevel) (λ h. (by h).kept_at_second changes);
}

-- an instruction of a description that is known to be accepted, at any state that looks alike
pub accepted_alike : (d : Desc) (i : Instr) (s t : State) → ∥ IsAccepted d ∥₁ → Contains d.instrs i → IsState d s → IsState d t → LookAlike s t →
    s.psw.mode ≡ U → IsAt i s → IsDone (course_at d i s) → DoneAlike d i s t
accepted_alike d i s t accepted among first second same user at done = known_alike (IsAccepted d) d i s t accepted
    (λ a. done_alike d i s t (All-contains (λ j. IsPrivileged d j ⊎ IsInnocuous d j) d.instrs i a among) first second same user at done)

-- one of a description that a hybrid monitor may run, at any user state that looks alike
pub hybrid_alike : (d : Desc) (i : Instr) (s t : State) → ∥ IsHybridAccepted d ∥₁ → Contains d.instrs i → IsState d s → IsState d t → LookAlike s t →
    s.psw.mode ≡ U → t.psw.mode ≡ U → IsAt i s → IsDone (course_at d i s) → DoneAlike d i s t
hybrid_alike d i s t accepted among first second same user user' at done = known_alike (IsHybridAccepted d) d i s t accepted
    (λ a. user_done_alike d i s t (All-contains (λ j. IsPrivileged d j ⊎ IsUserInnocuous d j) d.instrs i a among) first second same user user' at done)

-- what is accepted a hybrid monitor may run
hybrid_known : (d : Desc) → ∥ IsAccepted d ∥₁ → ∥ IsHybridAccepted d ∥₁
hybrid_known d accepted = ∥∥₁_map accepted (accepted-hybrid d)

-- each instruction of a description that is done at a state is done alike at another
abbrev EachAlike : Desc → State → State → Type 0
EachAlike d s t = (i : Instr) → Contains d.instrs i → IsAt i s → IsDone (course_at d i s) → DoneAlike d i s t

-- the instruction that a word matches is one of the list, and the word matches it
matched_among : (P : Instr → Type 0) (is : List Instr) (word : ℕ) (i : Instr) → All P is → matching is word ≡ Some i → P i × IsTrue (matches i.pattern.bytes word)
unfolding matching
matched_among P [] word i all found = absurd (let wrong : ⊥ = cc in wrong)
matched_among P (j ∷ js) word i all found = by_match (matches j.pattern.bytes word) refl found (λ later. matched_among P js word i (All-tail P j js all) later)
  where
    by_match : (b : Bool) → matches j.pattern.bytes word ≡ b → (if b then Some j else matching js word) ≡ Some i →
        (matching js word ≡ Some i → P i × IsTrue (matches i.pattern.bytes word)) → P i × IsTrue (matches i.pattern.bytes word)
    by_match true e here later =
        let one : j ≡ i = cc in
        subst (λ k. P k × IsTrue (matches k.pattern.bytes word)) one (All-head P j js all, e)
    by_match false e here later = later here

-- the instruction that is found at a state
record Found (d : Desc) (i : Instr) (word : ℕ) (s : State) : Type 0 where
  usable : slice_get (window s) s.psw.p ≡ Some word
  matched : matching d.instrs word ≡ Some i

found_at : (d : Desc) (i : Instr) (word : ℕ) (s : State) → Found d i word s → IsAt i s
found_at d i word s found =
    subst (λ o. IsSomeAnd o (λ w. IsTrue (matches i.pattern.bytes w))) (sym found.usable)
    (matched_among (Contains d.instrs) d.instrs word i (All-contains_itself d.instrs) found.matched).1

found_among : (d : Desc) (i : Instr) (word : ℕ) (s : State) → Found d i word s → Contains d.instrs i
found_among d i word s found = (matched_among (Contains d.instrs) d.instrs word i (All-contains_itself d.instrs) found.matched).0

same_cell : (s t : State) → LookAlike s t → slice_get (window t) t.psw.p ≡ slice_get (window s) s.psw.p
same_cell s t same = sym (ap (λ w. slice_get w s.psw.p) same.same_window ∙ ap (slice_get (window t)) same.same_p)

found_alike : (d : Desc) (i : Instr) (word : ℕ) (s t : State) → LookAlike s t → Found d i word s → Found d i word t
found_alike d i word s t same found = record { usable = same_cell s t same ∙ found.usable; matched = found.matched }

-- a step ends as the instruction that is found
ending_found : (d : Desc) (i : Instr) (word : ℕ) (s : State) → Found d i word s → ending d (window s) s.psw ≡ ending_of (course_at d i s)
unfolding ending course_at
ending_found d i word s found =
    ap (fetched d (window s) s.psw) found.usable
    ∙ ap (executed d (window s) s.psw word) found.matched
    ∙ ap (λ o. ending_of (body d i (window s) s.psw (fetched_word o))) (sym found.usable)

-- what a step finds: no word, no pattern, or an instruction
data Fetch (d : Desc) (s : State) : Type 0 where
  NoWord : slice_get (window s) s.psw.p ≡ None → Fetch d s
  NoPattern : (word : ℕ) → slice_get (window s) s.psw.p ≡ Some word → matching d.instrs word ≡ None → Fetch d s
  AnInstr : (word : ℕ) (i : Instr) → Found d i word s → Fetch d s

fetch : (d : Desc) (s : State) → Fetch d s
fetch d s = by_cell (slice_get (window s) s.psw.p) refl
  where
    by_pattern : (word : ℕ) → slice_get (window s) s.psw.p ≡ Some word → (o : Option Instr) → matching d.instrs word ≡ o → Fetch d s
    by_pattern word usable None e = NoPattern word usable e
    by_pattern word usable (Some i) e = AnInstr word i (record { usable = usable; matched = e })

    by_cell : (o : Option ℕ) → slice_get (window s) s.psw.p ≡ o → Fetch d s
    by_cell None e = NoWord e
    by_cell (Some word) e = by_pattern word e (matching d.instrs word) refl

ending_no_word : (d : Desc) (s : State) → slice_get (window s) s.psw.p ≡ None → ending d (window s) s.psw ≡ ByMemTrap
unfolding ending
ending_no_word d s none = ap (fetched d (window s) s.psw) none

ending_no_pattern : (d : Desc) (s : State) (word : ℕ) → slice_get (window s) s.psw.p ≡ Some word → matching d.instrs word ≡ None → ending d (window s) s.psw ≡ ByNoPattern
unfolding ending
ending_no_pattern d s word usable none = ap (fetched d (window s) s.psw) usable ∙ ap (executed d (window s) s.psw word) none

-- an end that is observed as done, with mode and R as they were
course_kept : (c : Course After) (old : Psw) (cells : List ℕ) (p : ℕ) → observed c ≡ SeenDone cells p → ¬ ChangesControl old c →
    c ≡ Going (record { window = cells; psw = record old { p = p } })
course_kept MemTrapped old cells p seen kept = absurd (let wrong : ⊥ = cc in wrong)
course_kept Trapped old cells p seen kept = absurd (let wrong : ⊥ = cc in wrong)
course_kept (Going after) old cells p seen kept =
    let same_cells : after.window ≡ cells = cc in
    let same_p : after.psw.p ≡ p = cc in
    let psw : after.psw ≡ record old { p = p } =
    psw_same after.psw (record old { p = p }) (mode_same after.psw.mode old.mode (λ h. kept (inl h))) same_p
    (nat_same after.psw.l old.l (λ h. kept (inr (inl h)))) (nat_same after.psw.b old.b (λ h. kept (inr (inr h)))) in
    ap (λ w. Going (record { window = w; psw = after.psw })) same_cells ∙ ap (λ x. Going (record { window = cells; psw = x })) psw

done_course : (c : Course After) (after : After) → ending_of c ≡ Done after → c ≡ Going after
done_course MemTrapped after e = absurd (let wrong : ⊥ = cc in wrong)
done_course Trapped after e = absurd (let wrong : ⊥ = cc in wrong)
done_course (Going x) after e = let same : x ≡ after = cc in ap Going same

-- a step that is done does the same at a state that looks alike, where each instruction does
each_steps_alike : (d : Desc) (s t : State) (after : After) → EachAlike d s t → LookAlike s t → ending d (window s) s.psw ≡ Done after → StepsAlike d s t after
each_steps_alike d s t after each same ends = by_fetch (fetch d s)
  where
    by_fetch : Fetch d s → StepsAlike d s t after
    by_fetch (NoWord none) = let e = ending_no_word d s none in absurd (let wrong : ⊥ = cc in wrong)
    by_fetch (NoPattern word usable none) = let e = ending_no_pattern d s word usable none in absurd (let wrong : ⊥ = cc in wrong)
    by_fetch (AnInstr word i found) =
        let there = found_alike d i word s t same found in
        let going : course_at d i s ≡ Going after = done_course (course_at d i s) after (sym (ending_found d i word s found) ∙ ends) in
        let alike : DoneAlike d i s t = each i (found_among d i word s found) (found_at d i word s found) (subst IsDone (sym going) tt) in
        let here : course_at d i s ≡ Going (record { window = after.window; psw = record s.psw { p = after.psw.p } }) =
        course_kept (course_at d i s) s.psw after.window after.psw.p (ap observed going) alike.kept_at_first in
        let over : course_at d i t ≡ Going (record { window = after.window; psw = record t.psw { p = after.psw.p } }) =
        course_kept (course_at d i t) t.psw after.window after.psw.p (alike.same_observed ∙ ap observed going) alike.kept_at_second in
        let both : Going after ≡ Going (record { window = after.window; psw = record s.psw { p = after.psw.p } }) = sym going ∙ here in
        record {
          kept = cc;
          same_done = ending_found d i word t there ∙ ap ending_of over;
        }

-- from a user state a step that is done does the same at every state that looks alike
pub steps_alike : (d : Desc) (s t : State) (after : After) → ∥ IsAccepted d ∥₁ → IsState d s → IsState d t → LookAlike s t → s.psw.mode ≡ U →
    ending d (window s) s.psw ≡ Done after → StepsAlike d s t after
steps_alike d s t after accepted first second same user ends =
    each_steps_alike d s t after (λ i among at done. accepted_alike d i s t accepted among first second same user at done) same ends

-- where a hybrid monitor may run the description, at every user state that looks alike
pub user_steps_alike : (d : Desc) (s t : State) (after : After) → ∥ IsHybridAccepted d ∥₁ → IsState d s → IsState d t → LookAlike s t → s.psw.mode ≡ U →
    t.psw.mode ≡ U → ending d (window s) s.psw ≡ Done after → StepsAlike d s t after
user_steps_alike d s t after accepted first second same user user' ends =
    each_steps_alike d s t after (λ i among at done. hybrid_alike d i s t accepted among first second same user user' at done) same ends

traps_both : (c e : Course After) → (IsDone c → IsDone e) → (IsDone e → IsDone c) → ends_in_trap (ending_of c) ≡ ends_in_trap (ending_of e)
traps_both MemTrapped MemTrapped f g = refl
traps_both MemTrapped Trapped f g = refl
traps_both MemTrapped (Going e) f g = absurd (g tt)
traps_both Trapped MemTrapped f g = refl
traps_both Trapped Trapped f g = refl
traps_both Trapped (Going e) f g = absurd (g tt)
traps_both (Going c) MemTrapped f g = absurd (f tt)
traps_both (Going c) Trapped f g = absurd (f tt)
traps_both (Going c) (Going e) f g = refl

-- of two user states that look alike, the steps from both trap or neither does
pub user_traps_alike : (d : Desc) (s t : State) → ∥ IsHybridAccepted d ∥₁ → IsState d s → IsState d t → LookAlike s t → s.psw.mode ≡ U → t.psw.mode ≡ U →
    ends_in_trap (ending d (window s) s.psw) ≡ ends_in_trap (ending d (window t) t.psw)
user_traps_alike d s t accepted first second same user user' = by_fetch (fetch d s)
  where
    by_fetch : Fetch d s → ends_in_trap (ending d (window s) s.psw) ≡ ends_in_trap (ending d (window t) t.psw)
    by_fetch (NoWord none) = ap ends_in_trap (ending_no_word d s none ∙ sym (ending_no_word d t (same_cell s t same ∙ none)))
    by_fetch (NoPattern word usable none) =
        ap ends_in_trap (ending_no_pattern d s word usable none ∙ sym (ending_no_pattern d t word (same_cell s t same ∙ usable) none))
    by_fetch (AnInstr word i found) =
        let there = found_alike d i word s t same found in
        let among = found_among d i word s found in
        ap ends_in_trap (ending_found d i word s found)
        ∙ traps_both (course_at d i s) (course_at d i t)
        (λ done. done_same (course_at d i s) (course_at d i t)
        (sym (hybrid_alike d i s t accepted among first second same user user' (found_at d i word s found) done).same_observed) done)
        (λ done. done_same (course_at d i t) (course_at d i s)
        (sym (hybrid_alike d i t s accepted among second first (turned s t same) user' user (found_at d i word t there) done).same_observed) done)
        ∙ ap ends_in_trap (sym (ending_found d i word t there))

pub traps_alike : (d : Desc) (s t : State) → ∥ IsAccepted d ∥₁ → IsState d s → IsState d t → LookAlike s t → s.psw.mode ≡ U → t.psw.mode ≡ U →
    ends_in_trap (ending d (window s) s.psw) ≡ ends_in_trap (ending d (window t) t.psw)
traps_alike d s t accepted = user_traps_alike d s t (hybrid_known d accepted)

-- a step from a user state that does not trap leaves mode and R as they were
pub user_kept : (d : Desc) (s : State) → ∥ IsHybridAccepted d ∥₁ → IsState d s → s.psw.mode ≡ U → ends_in_trap (ending d (window s) s.psw) ≡ false →
    (step d s).psw ≡ record s.psw { p = (step d s).psw.p }
unfolding step
user_kept d s accepted state user calm = by_ending (ending d (window s) s.psw) refl calm
  where
    by_ending : (e : Ending) → ending d (window s) s.psw ≡ e → ends_in_trap e ≡ false →
        (left_by d s (ending d (window s) s.psw)).psw ≡ record s.psw { p = (left_by d s (ending d (window s) s.psw)).psw.p }
    by_ending ByMemTrap e traps = absurd (let wrong : ⊥ = cc in wrong)
    by_ending ByTrap e traps = absurd (let wrong : ⊥ = cc in wrong)
    by_ending ByNoPattern e traps = absurd (let wrong : ⊥ = cc in wrong)
    by_ending (Done after) e traps =
        let alike = user_steps_alike d s s after accepted state state (record { same_window = refl; same_p = refl }) user user e in
        subst (λ x. (left_by d s x).psw ≡ record s.psw { p = (left_by d s x).psw.p }) (sym e) alike.kept

pub control_kept : (d : Desc) (s : State) → ∥ IsAccepted d ∥₁ → IsState d s → s.psw.mode ≡ U → ends_in_trap (ending d (window s) s.psw) ≡ false →
    (step d s).psw ≡ record s.psw { p = (step d s).psw.p }
control_kept d s accepted = user_kept d s (hybrid_known d accepted)

-- a window put back is the window, under a PSW of the same R
window-put_back : (s : State) (cells : List ℕ) (psw : Psw) → length cells ≡ window_length s → psw.l ≡ s.psw.l → psw.b ≡ s.psw.b →
    window (record { cells = put_back s cells; psw = psw }) ≡ cells
window-put_back s cells psw long l b = by_place (cases_lt s.psw.l (length s.cells))
  where
    after : State
    after = record { cells = put_back s cells; psw = psw }

    same : length (put_back s cells) ≡ length s.cells
    same = put_back-length s cells long

    as_long : window_length after ≡ length cells
    as_long = omega (arith, same, long, l, b)

    by_place : (s.psw.l < length s.cells) ⊎ (length s.cells ≤ s.psw.l) → window after ≡ cells
    by_place (inl within) =
        let rest : List ℕ = drop (s.psw.l + window_length s) s.cells in
        ap (λ cs. take (window_length after) (drop psw.l cs)) (append_assoc (take s.psw.l s.cells) cells rest)
        ∙ ap (take (window_length after)) (drop_at (take s.psw.l s.cells) (cells ++ rest) psw.l (omega (arith, within, l, length-take s.psw.l s.cells)))
        ∙ take_at cells rest (window_length after) (sym as_long)
    by_place (inr past) =
        nil_from_length (window after) (omega (arith, past, long, as_long, window-length after)) ∙ sym (nil_from_length cells (omega (arith, past, long)))

-- states that look alike still do after a step that is done, where each instruction is done alike
each_still_alike : (d : Desc) (s t : State) → IsValid d → EachAlike d s t → IsState d s → LookAlike s t →
    ends_in_trap (ending d (window s) s.psw) ≡ false → LookAlike (step d s) (step d t)
unfolding step
each_still_alike d s t valid each first same calm = by_ending (ending d (window s) s.psw) refl calm
  where
    by_ending : (e : Ending) → ending d (window s) s.psw ≡ e → ends_in_trap e ≡ false →
        LookAlike (left_by d s (ending d (window s) s.psw)) (left_by d t (ending d (window t) t.psw))
    by_ending ByMemTrap e traps = absurd (let wrong : ⊥ = cc in wrong)
    by_ending ByTrap e traps = absurd (let wrong : ⊥ = cc in wrong)
    by_ending ByNoPattern e traps = absurd (let wrong : ⊥ = cc in wrong)
    by_ending (Done after) e traps =
        let alike = each_steps_alike d s t after each same e in
        let fits : OnDone (Done after) (AfterFits d (length (window s))) =
        subst (λ x. OnDone x (AfterFits d (length (window s)))) e (ending-sound d (window s) s.psw valid (window-words d s first) first.fields) in
        let there : Psw = record t.psw { p = after.psw.p } in
        subst (λ x. LookAlike (left_by d s x) (left_by d t (ending d (window t) t.psw))) (sym e)
        (subst (λ x. LookAlike (left_by d s (Done after)) (left_by d t x)) (sym alike.same_done)
        (record {
          same_window = window-put_back s after.window after.psw (fits.same_length ∙ window-length s) (ap (λ x. x.l) alike.kept) (ap (λ x. x.b) alike.kept)
              ∙ sym (window-put_back t after.window there (fits.same_length ∙ ap length same.same_window ∙ window-length t) refl refl);
          same_p = refl;
        }))

-- from a user state, to every state that looks alike
pub still_alike : (d : Desc) (s t : State) → IsValid d → ∥ IsAccepted d ∥₁ → IsState d s → IsState d t → LookAlike s t → s.psw.mode ≡ U →
    ends_in_trap (ending d (window s) s.psw) ≡ false → LookAlike (step d s) (step d t)
still_alike d s t valid accepted first second same user calm =
    each_still_alike d s t valid (λ i among at done. accepted_alike d i s t accepted among first second same user at done) first same calm

-- and where a hybrid monitor may run the description, to every user state
pub user_still_alike : (d : Desc) (s t : State) → IsValid d → ∥ IsHybridAccepted d ∥₁ → IsState d s → IsState d t → LookAlike s t → s.psw.mode ≡ U →
    t.psw.mode ≡ U → ends_in_trap (ending d (window s) s.psw) ≡ false → LookAlike (step d s) (step d t)
user_still_alike d s t valid accepted first second same user user' calm =
    each_still_alike d s t valid (λ i among at done. hybrid_alike d i s t accepted among first second same user user' at done) first same calm

-- a window traps alike at every place
pub user_traps_anywhere : (d : Desc) (cells : List ℕ) (x y : Psw) → ∥ IsHybridAccepted d ∥₁ → 2 ≤ d.size → All (λ cell. cell < 2 ^ d.word) cells →
    IsPsw d.address x → IsPsw d.address y → Places d cells x → Places d cells y → x.p ≡ y.p → x.mode ≡ U → y.mode ≡ U →
    ends_in_trap (ending d cells x) ≡ ends_in_trap (ending d cells y)
user_traps_anywhere d cells x y accepted least words first second here there p user user' =
    let here_window = placed-window d cells x here in
    let there_window = placed-window d cells y there in
    ap (λ w. ends_in_trap (ending d w x)) (sym here_window)
    ∙ user_traps_alike d (placed d cells x) (placed d cells y) accepted (placed-state d cells x here least words first) (placed-state d cells y there least words second)
    (record { same_window = here_window ∙ sym there_window; same_p = p }) user user'
    ∙ ap (λ w. ends_in_trap (ending d w y)) there_window

pub traps_anywhere : (d : Desc) (cells : List ℕ) (x y : Psw) → ∥ IsAccepted d ∥₁ → 2 ≤ d.size → All (λ cell. cell < 2 ^ d.word) cells →
    IsPsw d.address x → IsPsw d.address y → Places d cells x → Places d cells y → x.p ≡ y.p → x.mode ≡ U → y.mode ≡ U →
    ends_in_trap (ending d cells x) ≡ ends_in_trap (ending d cells y)
traps_anywhere d cells x y accepted = user_traps_anywhere d cells x y (hybrid_known d accepted)
