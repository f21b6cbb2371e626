-- What the marks of a certificate say, and what follows of the verdict of them.
use Rattle.std.proofs.Common.{◌≡◌, ℕ, zero, suc, ◌+◌, ◌*◌, ◌%◌, ◌<◌, ◌≤◌, Bool, true, false, not, cond, ◌||◌, List, [], ◌∷◌, All, length, map, get_or, drop, Option, None, Some, Ok, ◌⊎◌, inl, inr, refl, sym, ap, subst, ◌∙◌, arith, slice_get}
use Rattle.std.specs.Prelude.{◌==◌, nat_lt, position, unwrap_or, if◌then◌else◌}
use Rattle.std.proofs.lemmas.Bool.{eqb-true, eqb-false, and_parts, lt-ltb, ltb-true}
use Rattle.std.specs.List.{position_or_len}
use Rattle.std.specs.Option.{option_map}
use Rattle.std.specs.List.{list_any, list_all}
use Rattle.std.proofs.lemmas.List.{get_or-drop, get_or-take, length-drop, length-take, length-map}
use Rattle.std.proofs.lemmas.Option.{slice_get_within, get_or_from_slice_get, slice_get-get_or, slice_get-map, same_Some}
use Rattle.pg_ast.specs.declared.tree.Instr.{Instr}
use Rattle.pg_ast.specs.declared.tree.Desc.{Desc}
use Rattle.pg_lang_meaning.specs.States.{State}
use Rattle.pg_lang_valid.specs.Valid.{IsValid}
use Rattle.pg_type.specs.declared.kind.Kind.{Kind}
use Rattle.pg_type.specs.declared.kind.Kind.TheVariants.{Privileged}
use Rattle.pg_type.specs.Kinds.{Shows}
use Rattle.pg_type.specs.Listed.{state_of}
use Rattle.pg_type.specs.Accepting.{IsPrivileged, IsInnocuous, IsUserInnocuous}
use Rattle.pg_type.proofs.KindLaws.{privileged-exactly}
use Rattle.pg_symex.proofs.RunLaw.{all_run_right}
use Rattle.pg_ask.proofs.ExactLaw.{questions-exact}
use Rattle.pg_cert.specs.declared.cert.Family.{Family}
use Rattle.pg_cert.specs.declared.cert.Family.TheVariants.{Plain, Hybrid}
use Rattle.pg_cert.specs.declared.cert.Cert.{Cert}
use Rattle.pg_cert.specs.declared.cert.Finding.{Finding}
use Rattle.pg_cert.specs.declared.cert.Finding.TheVariants as finding
use Rattle.pg_cert.specs.declared.report.Mark.{Mark}
use Rattle.pg_cert.specs.declared.report.Mark.TheVariants.{Refuted, Shown, Spent}
use Rattle.pg_cert.specs.declared.report.Report.{Report}
use Rattle.pg_cert.specs.Verdicts.{kinds_of, kind_count, mark_of, marks_of, is_refuted, is_shown, is_spent, breaks, is_settled, first_spent, first_where, instr_count, first_breaking, first_unsettled, verdict_of}
use Rattle.pg_ask.specs.Question.{question}
use Rattle.pg_cert.specs.declared.line.Heading.{Heading}
use Rattle.pg_cert.specs.declared.report.Verdict.TheVariants.{Accepted, Refused, Unsettled}
use Rattle.pg_word.specs.declared.sparse.Sparse.{Sparse}
use Rattle.pg_word.specs.Sparse.{IsCellList}
use Rattle.pg_cert.proofs.Fits.{shown_fit}
use Rattle.pg_cert.specs.Texts.{instr_of, kind_of, cert_text, AreListed}
use Rattle.pg_cert.specs.Validity.{IsValidFinding, IsValidCert}
use Rattle.pg_cert_drawn.specs.Drawn.{Drawn, drawn_of}
use Rattle.pg_verify.specs.Reader.{Progress, Mark as KeptMark}
use Rattle.pg_verify.specs.Reader as reader
use Rattle.pg_verify.specs.Feeding.{verified, kept, IsReportOf}
use Rattle.pg_verify.specs.Verified.{Spells, AreTold, IsTaken}
use Rattle.pg_verify.proofs.SpellLemmas.{taken_texts_spell}
use Rattle.pg_verify.proofs.TellLemmas.{taken_texts_tell, closed_refutes}
use Rattle.pg_verify.proofs.TakeLemmas.{valid_texts_are_taken}
use Rattle.pg_verify.proofs.StepLemmas.{same_ok}
use Rattle.pg_report.specs.Verdicts.{DoMarkWordsFit, shown_place}
use Rattle.pg_cmd_certs.specs.Meaning.{kind_at, mark_at, HasShown, IsSpentOn, HasNoKind, IsAcceptedBy, MeansRefused, MeansOpen, AreShown, Means, VerdictMeans}

-- ---- the first number that passes a test

record IsFound (p : ℕ → Bool) (from n i : ℕ) : Type 0 where
  holds : p i ≡ true
  least : from ≤ i
  most : i < from + n

first_found : (p : ℕ → Bool) (from n i : ℕ) → first_where p from n ≡ Some i → IsFound p from n i
unfolding first_where
first_found p from zero i e = absurd (cc)
first_found p from (suc n) i e = by (p from) refl e (λ h. first_found p (suc from) n i h)
  where
    by : (b : Bool) → p from ≡ b → (if b then Some from else first_where p (suc from) n) ≡ Some i → (first_where p (suc from) n ≡ Some i → IsFound p (suc from) n i) → IsFound p from (suc n) i
    by true eb e rest =
        let same : from ≡ i = same_Some from i e in
        record { holds = ap p (sym same) ∙ eb; least = omega arith; most = omega arith }
    by false eb e rest =
        let h = rest e in
        let least = h.least in
        let most = h.most in
        record { holds = h.holds; least = omega (arith, least); most = omega (arith, most) }

none_found : (p : ℕ → Bool) (from n : ℕ) → first_where p from n ≡ None → (i : ℕ) → from ≤ i → i < from + n → p i ≡ false
unfolding first_where
none_found p from zero e i l m = absurd (omega arith)
none_found p from (suc n) e i l m = by (p from) refl e (λ h k. none_found p (suc from) n h i k (omega arith))
  where
    by : (b : Bool) → p from ≡ b → (if b then Some from else first_where p (suc from) n) ≡ None → (first_where p (suc from) n ≡ None → suc from ≤ i → p i ≡ false) → p i ≡ false
    by true eb e rest = absurd (cc)
    by false eb e rest = here (from == i) refl
      where
        here : (b : Bool) → (from == i) ≡ b → p i ≡ false
        here true h = ap p (sym (eqb-true from i h)) ∙ eb
        here false h = let ne = eqb-false from i h in rest e (omega (arith, ne))

-- ---- the marks of an instruction

at-marks_of : (count : ℕ) (ms : List Mark) (k j : ℕ) (m : Mark) → slice_get (marks_of count ms k) j ≡ Some m →
    (j < count) × (slice_get ms (k * count + j) ≡ Some m)
at-marks_of count ms k j m e =
    let within = slice_get_within (marks_of count ms k) j m e in
    let few : j < count = omega (arith, within, length-take count (drop (k * count) ms)) in
    let inside : k * count + j < length ms = omega (arith, within, length-take count (drop (k * count) ms), length-drop (k * count) ms) in
    let is : get_or ms (k * count + j) m ≡ m =
    sym (get_or-take count (drop (k * count) ms) j m few ∙ get_or-drop (k * count) ms j m) ∙ get_or_from_slice_get (marks_of count ms k) j m m e in
    (few, slice_get-get_or ms (k * count + j) m inside ∙ ap (λ x. Some x) is)

-- of each family, numbers of findings as instructions and places of kinds
length-marks_of : (family : Family) (ms : List Mark) (count k : ℕ) → length ms ≡ count * kind_count family → k < count →
    length (marks_of (kind_count family) ms k) ≡ kind_count family
length-marks_of Plain ms count k whole l = omega (arith, length-take 5 (drop (k * 5) ms), length-drop (k * 5) ms)
length-marks_of Hybrid ms count k whole l = omega (arith, length-take 4 (drop (k * 4) ms), length-drop (k * 4) ms)

instr_of_place : (family : Family) (k j : ℕ) → j < kind_count family → instr_of family (k * kind_count family + j) ≡ k
instr_of_place Plain k j l = omega arith
instr_of_place Hybrid k j l = omega arith

place_of_place : (family : Family) (k j : ℕ) → j < kind_count family → (k * kind_count family + j) % kind_count family ≡ j
place_of_place Plain k j l = omega arith
place_of_place Hybrid k j l = omega arith

instr_within : (family : Family) (count n : ℕ) → n < count * kind_count family → instr_of family n < count
instr_within Plain count n l = omega arith
instr_within Hybrid count n l = omega arith

instr_count_is : (family : Family) (ms : List Mark) (count : ℕ) → length ms ≡ count * kind_count family → instr_count family ms ≡ count
instr_count_is Plain ms count whole = omega arith
instr_count_is Hybrid ms count whole = omega arith

first_kind : (family : Family) → kind_at family 0 ≡ Privileged
first_kind Plain = refl
first_kind Hybrid = refl

some_kind : (family : Family) → 1 ≤ kind_count family
some_kind Plain = omega arith
some_kind Hybrid = omega arith

pub some_at : {X : Type 0} (xs : List X) (i : ℕ) → i < length xs → (x : X) × (slice_get xs i ≡ Some x)
some_at [] i l = absurd (omega arith)
some_at (x ∷ xs) zero l = (x, refl)
some_at (x ∷ xs) (suc i) l = some_at xs i (omega arith)

-- ---- what each mark says

abbrev Says : Desc → Instr → Kind → Mark → Type 0
Says d i kind Refuted = (s t : State) → Shows d i kind s t → ⊥
Says d i kind (Shown s t) = Shows d i kind (state_of s) (state_of t)
Says d i kind (Spent budget) = IsSpentOn d i kind budget

record AllSay (d : Desc) (family : Family) (report : Report) : Type 0 where
  of_family : report.family ≡ family
  whole : length report.marks ≡ length d.instrs * kind_count family
  each : (n : ℕ) (m : Mark) (i : Instr) → slice_get report.marks n ≡ Some m → slice_get d.instrs (instr_of family n) ≡ Some i →
      Says d i (kind_of family n) m

spent_says : (d : Desc) (heading : Heading) (i : Instr) (kind : Kind) (f : Finding) (budget : ℕ) → kept (mark_of f) ≡ reader.Spent budget → IsValidFinding (question d i kind) heading d i kind f → IsSpentOn d i kind budget
unfolding IsValidFinding
spent_says d heading i kind (finding.Refuted acts) budget e h = absurd (cc)
spent_says d heading i kind (finding.Shown s t) budget e h = absurd (cc)
spent_says d heading i kind (finding.Spent k steps) budget e h =
    let same : k ≡ budget = cc in
    subst (λ n. IsSpentOn d i kind n) same (record { some = h.0; steps = steps; spent = h.2 })

module _ (d : Desc) (family : Family) (bytes : List ℕ) (p : Progress) (report : Report) (valid : IsValid d)
    (taken : verified d family bytes ≡ Ok p) (is : IsReportOf p report) where
  spelled : Spells d family bytes p
  spelled = taken_texts_spell d family bytes p taken

  told : AreTold d family p.marks
  told = taken_texts_tell d (questions-exact d (all_run_right d)) valid family bytes p taken

  -- the text is that of a valid certificate, which is not refused, so that the family is that of the certificate
  family_kept : p.family ≡ family
  family_kept =
      let again : IsTaken d spelled.heading spelled.cert =
      valid_texts_are_taken d spelled.heading spelled.cert valid spelled.valid (subst (λ bs. length bs ≤ 268435456) spelled.text spelled.within) in
      let same : again.progress ≡ p =
      same_ok again.progress p (sym again.taken ∙ ap (λ f. verified d f (cert_text d spelled.heading spelled.cert)) spelled.of_family
      ∙ ap (λ bs. verified d family bs) (sym spelled.text) ∙ taken) in
      sym (ap (λ (x : Progress). x.family) same) ∙ again.family ∙ spelled.of_family

  mark_kept : (n : ℕ) (m : Mark) → slice_get report.marks n ≡ Some m → slice_get p.marks n ≡ Some (kept m)
  mark_kept n m e = ap (λ ms. slice_get ms n) (sym is.marks) ∙ slice_get-map kept report.marks n ∙ ap (option_map kept) e

  -- a mark that is spent is that of a finding whose log spends its budget
  spent_kept : (n budget : ℕ) (i : Instr) → slice_get p.marks n ≡ Some (reader.Spent budget) → slice_get d.instrs (instr_of family n) ≡ Some i → IsSpentOn d i (kind_of family n) budget
  spent_kept n budget i e at = by (slice_get spelled.cert.findings n) refl (sym (slice_get-map (λ f. kept (mark_of f)) spelled.cert.findings n) ∙ ap (λ ms. slice_get ms n) (sym spelled.marks) ∙ e)
    where
      by : (o : Option Finding) → slice_get spelled.cert.findings n ≡ o → option_map (λ f. kept (mark_of f)) o ≡ Some (reader.Spent budget) → IsSpentOn d i (kind_of family n) budget
      by None eo e = absurd (cc)
      by (Some f) eo e =
          let at : slice_get d.instrs (instr_of spelled.cert.family n) ≡ Some i = ap (λ x. slice_get d.instrs (instr_of x n)) spelled.of_family ∙ at in
          subst (λ x. IsSpentOn d i (kind_of x n) budget) spelled.of_family
          (spent_says d spelled.heading i (kind_of spelled.cert.family n) f budget (same_Some (kept (mark_of f)) (reader.Spent budget) e) (spelled.valid.valid.each n f i eo at))

  mark_says : (n : ℕ) (m : Mark) (i : Instr) → slice_get p.marks n ≡ Some (kept m) → slice_get d.instrs (instr_of family n) ≡ Some i → Says d i (kind_of family n) m
  mark_says n Refuted i e at = told.each n reader.Refuted i e at
  mark_says n (Shown s t) i e at = told.each n (kept (Shown s t)) i e at
  mark_says n (Spent budget) i e at = spent_kept n budget i e at

  all_say : AllSay d family report
  all_say = record {
    of_family = is.family ∙ family_kept;
    whole = sym (length-map report.marks kept) ∙ ap length is.marks ∙ told.whole;
    each = λ n m i e at. mark_says n m i (mark_kept n m e) at;
  }

-- ---- what the marks of one instruction say

record AllSayOf (d : Desc) (family : Family) (i : Instr) (xs : List Mark) : Type 0 where
  whole : length xs ≡ kind_count family
  each : (j : ℕ) (m : Mark) → slice_get xs j ≡ Some m → Says d i (kind_at family j) m

say_of : (d : Desc) (family : Family) (report : Report) (k : ℕ) (i : Instr) → AllSay d family report → slice_get d.instrs k ≡ Some i →
    AllSayOf d family i (marks_of (kind_count family) report.marks k)
say_of d family report k i h at = record {
  whole = length-marks_of family report.marks (length d.instrs) k h.whole (slice_get_within d.instrs k i at);
  each = λ j m e. by j m (at-marks_of (kind_count family) report.marks k j m e);
}
  where
    by : (j : ℕ) (m : Mark) → (j < kind_count family) × (slice_get report.marks (k * kind_count family + j) ≡ Some m) → Says d i (kind_at family j) m
    by j m e =
        subst (λ n. Says d i (get_or (kinds_of family) n Privileged) m) (place_of_place family k j e.0)
        (h.each (k * kind_count family + j) m i e.1 (ap (λ n. slice_get d.instrs n) (instr_of_place family k j e.0) ∙ at))

-- that of privileged, which comes first
first_says : (d : Desc) (family : Family) (i : Instr) (x : Mark) (xs : List Mark) → AllSayOf d family i (x ∷ xs) → Says d i Privileged x
first_says d family i x xs h = subst (λ kind. Says d i kind x) (first_kind family) (h.each 0 x refl)

-- ---- settled

refuted_at : (xs : List Mark) (j : ℕ) (m : Mark) → list_all is_refuted xs ≡ true → slice_get xs j ≡ Some m → is_refuted m ≡ true
refuted_at [] j m all e = absurd (cc)
refuted_at (x ∷ xs) zero m all e = ap is_refuted (sym (same_Some x m e)) ∙ (and_parts (is_refuted x) (list_all is_refuted xs) all).0
refuted_at (x ∷ xs) (suc j) m all e = refuted_at xs j m (and_parts (is_refuted x) (list_all is_refuted xs) all).1 e

refuted_says : (d : Desc) (i : Instr) (kind : Kind) (m : Mark) → is_refuted m ≡ true → Says d i kind m → (s t : State) → Shows d i kind s t → ⊥
refuted_says d i kind Refuted e h = h
refuted_says d i kind (Shown s t) e h = absurd (cc)
refuted_says d i kind (Spent budget) e h = absurd (cc)

-- no states show a kind of a place behind privileged
never_shown : (d : Desc) (family : Family) (i : Instr) (x : Mark) (xs : List Mark) → AllSayOf d family i (x ∷ xs) → list_all is_refuted xs ≡ true →
    (j : ℕ) → suc j < kind_count family → (s t : State) → Shows d i (kind_at family (suc j)) s t → ⊥
never_shown d family i x xs h all j l =
    let whole = h.whole in
    let m = some_at xs j (omega (arith, whole)) in
    refuted_says d i (kind_at family (suc j)) m.0 (refuted_at xs j m.0 all m.1) (h.each (suc j) m.0 m.1)

-- so it has no sensitive kind of the family
none_kept : (d : Desc) (family : Family) (i : Instr) →
    ((j : ℕ) → suc j < kind_count family → (s t : State) → Shows d i (kind_at family (suc j)) s t → ⊥) → HasNoKind family d i
none_kept d Plain i never = record {
  control = λ y. never 0 (omega arith) y.0 y.1 y.2;
  mode_and_location = λ y. elim y [ inl a ↦ never 1 (omega arith) a.0 a.1 a.2 | inr b ↦ never 2 (omega arith) b.0 b.1 b.2 ];
  bound = λ y. never 3 (omega arith) y.0 y.1 y.2;
}
none_kept d Hybrid i never = record {
  control = λ y. never 0 (omega arith) y.0 y.1 (y.2, y.3);
  location = λ y. never 1 (omega arith) y.0 y.1 (y.2, y.3);
  bound = λ y. never 2 (omega arith) y.0 y.1 (y.2, y.3);
}

settled : (d : Desc) (family : Family) (i : Instr) (xs : List Mark) → AllSayOf d family i xs → is_settled xs ≡ true → IsPrivileged d i ⊎ HasNoKind family d i
settled d family i [] h e = absurd (let whole = h.whole in omega (arith, whole, some_kind family))
settled d family i (x ∷ xs) h e = by (is_refuted x) refl e
  where
    by : (b : Bool) → is_refuted x ≡ b → (b || list_all is_refuted xs) ≡ true → IsPrivileged d i ⊎ HasNoKind family d i
    by true eb e = inl ((privileged-exactly d i).1 (λ s t shows. refuted_says d i Privileged x eb (first_says d family i x xs h) s t shows))
    by false eb e = inr (none_kept d family i (never_shown d family i x xs h e))

-- ---- refused

position_here : (test : Mark → Bool) (x : Mark) (xs : List Mark) → test x ≡ true → position test (x ∷ xs) ≡ Some 0
position_here test x xs e =
    let at : position_or_len test (x ∷ xs) ≡ 0 = ap (λ b. cond (not b) (1 + position_or_len test xs) 0) e in
    ap (λ n. cond (nat_lt n (suc (length xs))) (Some n) None) at ∙ ap (λ b. cond b (Some 0) None) (lt-ltb 0 (suc (length xs)) (omega arith))

position_there : (test : Mark → Bool) (x : Mark) (xs : List Mark) (place : ℕ) → test x ≡ false → position test xs ≡ Some place → position test (x ∷ xs) ≡ Some (suc place)
position_there test x xs place e h = by (nat_lt (position_or_len test xs) (length xs)) refl h
  where
    by : (b : Bool) → nat_lt (position_or_len test xs) (length xs) ≡ b → cond b (Some (position_or_len test xs)) None ≡ Some place → position test (x ∷ xs) ≡ Some (suc place)
    by false eb h = absurd (cc)
    by true eb h =
        let same : position_or_len test xs ≡ place = same_Some (position_or_len test xs) place h in
        let at : position_or_len test (x ∷ xs) ≡ suc place = ap (λ b. cond (not b) (1 + position_or_len test xs) 0) e ∙ omega (arith, same) in
        let within : suc place < suc (length xs) = omega (arith, ltb-true (position_or_len test xs) (length xs) eb, same) in
        ap (λ n. cond (nat_lt n (suc (length xs))) (Some n) None) at ∙ ap (λ b. cond b (Some (suc place)) None) (lt-ltb (suc place) (suc (length xs)) within)

-- the first mark that passes a test
record IsFirst (test : Mark → Bool) (xs : List Mark) : Type 0 where
  place : ℕ
  mark : Mark
  position_is : position test xs ≡ Some place
  at : slice_get xs place ≡ Some mark
  passes : test mark ≡ true

first_passing : (test : Mark → Bool) (xs : List Mark) → list_any test xs ≡ true → IsFirst test xs
first_passing test [] e = absurd (cc)
first_passing test (x ∷ xs) e = by (test x) refl e (λ h. first_passing test xs h)
  where
    by : (b : Bool) → test x ≡ b → (b || list_any test xs) ≡ true → (list_any test xs ≡ true → IsFirst test xs) → IsFirst test (x ∷ xs)
    by true eb e rest = record { place = 0; mark = x; position_is = position_here test x xs eb; at = refl; passes = eb }
    by false eb e rest =
        let h = rest e in
        record { place = suc h.place; mark = h.mark; position_is = position_there test x xs h.place eb h.position_is; at = h.at; passes = h.passes }

shown_says : (d : Desc) (i : Instr) (kind : Kind) (m : Mark) → is_shown m ≡ true → Says d i kind m → HasShown d i kind m
shown_says d i kind Refuted e h = absurd (cc)
shown_says d i kind (Shown s t) e h = h
shown_says d i kind (Spent budget) e h = absurd (cc)

privileged_broken : (d : Desc) (i : Instr) (m : Mark) → HasShown d i Privileged m → ¬ IsPrivileged d i
privileged_broken d i Refuted h k = h
privileged_broken d i (Shown s t) h k = (privileged-exactly d i).0 k (state_of s) (state_of t) h
privileged_broken d i (Spent budget) h k = h

innocuous_shown : (d : Desc) (i : Instr) (j : ℕ) (s t : State) → suc j < 5 → Shows d i (kind_at Plain (suc j)) s t → ¬ IsInnocuous d i
innocuous_shown d i zero s t l h k = k.control (s, t, h)
innocuous_shown d i (suc zero) s t l h k = k.mode_and_location (inl (s, t, h))
innocuous_shown d i (suc (suc zero)) s t l h k = k.mode_and_location (inr (s, t, h))
innocuous_shown d i (suc (suc (suc zero))) s t l h k = k.bound (s, t, h)
innocuous_shown d i (suc (suc (suc (suc j)))) s t l h k = omega arith

user_innocuous_shown : (d : Desc) (i : Instr) (j : ℕ) (s t : State) → suc j < 4 → Shows d i (kind_at Hybrid (suc j)) s t → ¬ IsUserInnocuous d i
user_innocuous_shown d i zero s t l h k = k.control (s, t, h.0, h.1)
user_innocuous_shown d i (suc zero) s t l h k = k.location (s, t, h.0, h.1)
user_innocuous_shown d i (suc (suc zero)) s t l h k = k.bound (s, t, h.0, h.1)
user_innocuous_shown d i (suc (suc (suc j))) s t l h k = omega arith

-- states that show a sensitive kind of a family
kind_shown : (d : Desc) (family : Family) (i : Instr) (j : ℕ) (s t : State) → suc j < kind_count family → Shows d i (kind_at family (suc j)) s t →
    ¬ HasNoKind family d i
kind_shown d Plain i j s t l h = innocuous_shown d i j s t l h
kind_shown d Hybrid i j s t l h = user_innocuous_shown d i j s t l h

kind_broken : (d : Desc) (family : Family) (i : Instr) (j : ℕ) (m : Mark) → suc j < kind_count family → HasShown d i (kind_at family (suc j)) m →
    ¬ HasNoKind family d i
kind_broken d family i j Refuted l h k = h
kind_broken d family i j (Shown s t) l h k = kind_shown d family i j (state_of s) (state_of t) l h k
kind_broken d family i j (Spent budget) l h k = h

record IsBroken (d : Desc) (family : Family) (i : Instr) (xs : List Mark) : Type 0 where
  not_privileged : HasShown d i Privileged (mark_at xs 0)
  sensitive : HasShown d i (kind_at family (shown_place xs)) (mark_at xs (shown_place xs))
  neither : ¬ (IsPrivileged d i ⊎ HasNoKind family d i)

broken : (d : Desc) (family : Family) (i : Instr) (xs : List Mark) → AllSayOf d family i xs → breaks xs ≡ true → IsBroken d family i xs
broken d family i [] h e = absurd (cc)
broken d family i (x ∷ xs) h e =
    let parts = and_parts (is_shown x) (list_any is_shown xs) e in
    let first : IsFirst is_shown xs = first_passing is_shown xs parts.1 in
    let len = h.whole in
    let few : suc first.place < kind_count family = omega (arith, len, slice_get_within xs first.place first.mark first.at) in
    let privileged : HasShown d i Privileged x = shown_says d i Privileged x parts.0 (first_says d family i x xs h) in
    let shown : HasShown d i (kind_at family (suc first.place)) first.mark =
    shown_says d i (kind_at family (suc first.place)) first.mark first.passes (h.each (suc first.place) first.mark first.at) in
    let place : shown_place (x ∷ xs) ≡ suc first.place = ap (λ o. suc (unwrap_or o 0)) first.position_is in
    let mark : mark_at (x ∷ xs) (suc first.place) ≡ first.mark = get_or_from_slice_get xs first.place first.mark Refuted first.at in
    let sensitive : HasShown d i (kind_at family (suc first.place)) (mark_at (x ∷ xs) (suc first.place)) =
    subst (λ m. HasShown d i (kind_at family (suc first.place)) m) (sym mark) shown in
    record {
      not_privileged = privileged;
      sensitive = subst (λ n. HasShown d i (kind_at family n) (mark_at (x ∷ xs) n)) (sym place) sensitive;
      neither = λ y. elim y [ inl a ↦ privileged_broken d i x privileged a | inr b ↦ kind_broken d family i first.place first.mark few shown b ];
    }

-- ---- open

record IsOpen (d : Desc) (family : Family) (i : Instr) (xs : List Mark) : Type 0 where
  place : ℕ
  budget : ℕ
  kind_is : first_spent family xs ≡ kind_at family place
  few : place < kind_count family
  at : slice_get xs place ≡ Some (Spent budget)
  spent : IsSpentOn d i (kind_at family place) budget

-- one that is neither refuted nor shown is spent
spent_left : (xs : List Mark) → list_all is_refuted xs ≡ false → list_any is_shown xs ≡ false → list_any is_spent xs ≡ true
spent_left [] e h = absurd (cc)
spent_left (Refuted ∷ xs) e h = spent_left xs e h
spent_left (Shown s t ∷ xs) e h = absurd (cc)
spent_left (Spent budget ∷ xs) e h = refl

some_spent : (xs : List Mark) → is_settled xs ≡ false → breaks xs ≡ false → list_any is_spent xs ≡ true
some_spent [] e h = absurd (cc)
some_spent (Refuted ∷ xs) e h = absurd (cc)
some_spent (Shown s t ∷ xs) e h = spent_left xs e h
some_spent (Spent budget ∷ xs) e h = refl

budget_of : (m : Mark) → is_spent m ≡ true → (budget : ℕ) × (m ≡ Spent budget)
budget_of Refuted e = absurd (cc)
budget_of (Shown s t) e = absurd (cc)
budget_of (Spent budget) e = (budget, refl)

opened : (d : Desc) (family : Family) (i : Instr) (xs : List Mark) → AllSayOf d family i xs → is_settled xs ≡ false → breaks xs ≡ false →
    IsOpen d family i xs
opened d family i xs h e k =
    let first : IsFirst is_spent xs = first_passing is_spent xs (some_spent xs e k) in
    let budget = budget_of first.mark first.passes in
    let at : slice_get xs first.place ≡ Some (Spent budget.0) = first.at ∙ ap (λ m. Some m) budget.1 in
    let len = h.whole in
    record {
      place = first.place;
      budget = budget.0;
      kind_is = ap (λ o. get_or (kinds_of family) (unwrap_or o 0) Privileged) first.position_is;
      few = omega (arith, len, slice_get_within xs first.place first.mark first.at);
      at = at;
      spent = h.each first.place (Spent budget.0) at;
    }

-- ---- the verdict

abbrev report_with : Family → List Mark → Report
report_with family ms = record { family = family; marks = ms }

open_means : (d : Desc) (family : Family) (ms : List Mark) (k : ℕ) (i : Instr) → slice_get d.instrs k ≡ Some i →
    IsOpen d family i (marks_of (kind_count family) ms k) → MeansOpen d (report_with family ms) k (first_spent family (marks_of (kind_count family) ms k))
open_means d family ms k i at h = record {
  instr = i;
  at = at;
  place = h.place;
  is_kind = slice_get-get_or (kinds_of family) h.place Privileged h.few ∙ ap (λ kind. Some kind) (sym h.kind_is);
  budget = h.budget;
  mark = h.at;
  spent = subst (λ kind. IsSpentOn d i kind h.budget) (sym h.kind_is) h.spent;
}

not_false : (b : Bool) → not b ≡ true → b ≡ false
not_false true e = absurd (cc)
not_false false e = refl

not_true : (b : Bool) → not b ≡ false → b ≡ true
not_true true e = refl
not_true false e = absurd (cc)

all_accepted : (d : Desc) (family : Family) → All (λ i. IsPrivileged d i ⊎ HasNoKind family d i) d.instrs → IsAcceptedBy family d
all_accepted d Plain h = h
all_accepted d Hybrid h = h

module _ (d : Desc) (family : Family) (ms : List Mark) (h : AllSay d family (report_with family ms)) where
  counted : instr_count family ms ≡ length d.instrs
  counted = instr_count_is family ms (length d.instrs) h.whole

  instr_at : (k : ℕ) → k < 0 + instr_count family ms → (i : Instr) × (slice_get d.instrs k ≡ Some i)
  instr_at k l = some_at d.instrs k (omega (arith, l, counted))

  within_count : (k : ℕ) → k < length d.instrs → k < 0 + instr_count family ms
  within_count k l = omega (arith, l, counted)

  refused_means : (k : ℕ) → first_breaking family ms ≡ Some k → MeansRefused d (report_with family ms) k
  refused_means k e =
      let f = first_found (λ j. breaks (marks_of (kind_count family) ms j)) 0 (instr_count family ms) k e in
      let i = instr_at k f.most in
      let b = broken d family i.0 (marks_of (kind_count family) ms k) (say_of d family (report_with family ms) k i.0 h i.1) f.holds in
      record { instr = i.0; at = i.1; not_privileged = b.not_privileged; sensitive = b.sensitive; neither = b.neither }

  unsettled_means : (k : ℕ) → first_breaking family ms ≡ None → first_unsettled family ms ≡ Some k →
      MeansOpen d (report_with family ms) k (first_spent family (marks_of (kind_count family) ms k))
  unsettled_means k none e =
      let f = first_found (λ j. not (is_settled (marks_of (kind_count family) ms j))) 0 (instr_count family ms) k e in
      let i = instr_at k f.most in
      let whole = none_found (λ j. breaks (marks_of (kind_count family) ms j)) 0 (instr_count family ms) none k f.least f.most in
      open_means d family ms k i.0 i.1
      (opened d family i.0 (marks_of (kind_count family) ms k) (say_of d family (report_with family ms) k i.0 h i.1)
      (not_false (is_settled (marks_of (kind_count family) ms k)) f.holds) whole)

  accepted_means : first_unsettled family ms ≡ None → IsAcceptedBy family d
  accepted_means none = all_accepted d family (λ k i l.
      let at : slice_get d.instrs k ≡ Some (get_or d.instrs k i) = slice_get-get_or d.instrs k i l in
      let test = none_found (λ j. not (is_settled (marks_of (kind_count family) ms j))) 0 (instr_count family ms) none k (omega arith) (within_count k l) in
      settled d family (get_or d.instrs k i) (marks_of (kind_count family) ms k) (say_of d family (report_with family ms) k (get_or d.instrs k i) h at)
      (not_true (is_settled (marks_of (kind_count family) ms k)) test))

  family_means : Means d (report_with family ms) (verdict_of family ms)
  unfolding verdict_of
  family_means = by (first_breaking family ms) refl (first_unsettled family ms) refl
    where
      by : (a : Option ℕ) → first_breaking family ms ≡ a → (b : Option ℕ) → first_unsettled family ms ≡ b →
          Means d (report_with family ms)
          (elim a [ Some k ↦ Refused k | None ↦ elim b [ Some k ↦ Unsettled k (first_spent family (marks_of (kind_count family) ms k)) | None ↦ Accepted ] ])
      by (Some k) ea b eb = refused_means k ea
      by None ea (Some k) eb = unsettled_means k ea eb
      by None ea None eb = accepted_means eb

means_of : (d : Desc) (family : Family) (report : Report) → AllSay d family report → VerdictMeans d report
means_of d family report h =
    let said : AllSay d family (report_with family report.marks) = record { of_family = refl; whole = h.whole; each = h.each } in
    let means : VerdictMeans d (report_with family report.marks) = record { means = family_means d family report.marks said } in
    subst (λ f. VerdictMeans d (record { family = f; marks = report.marks })) (sym h.of_family) means

-- what the verdict of a text that is not refused means
pub verdict_means : (d : Desc) (family : Family) (bytes : List ℕ) (p : Progress) (report : Report) → IsValid d → verified d family bytes ≡ Ok p →
    IsReportOf p report → VerdictMeans d report
verdict_means d family bytes p report valid taken is = means_of d family report (all_say d family bytes p report valid taken is)

-- the states that its marks keep show what they are kept for
shown_there : (d : Desc) (family : Family) (report : Report) → AllSay d family report → AreShown d report
shown_there d family report h =
    subst (λ f. AreShown d (record { family = f; marks = report.marks })) (sym h.of_family) (λ n s t i e at. h.each n (Shown s t) i e at)

pub marks_shown : (d : Desc) (family : Family) (bytes : List ℕ) (p : Progress) (report : Report) → IsValid d → verified d family bytes ≡ Ok p →
    IsReportOf p report → AreShown d report
marks_shown d family bytes p report valid taken is = shown_there d family report (all_say d family bytes p report valid taken is)

-- the family of a text that is not refused
pub marks_family : (d : Desc) (family : Family) (bytes : List ℕ) (p : Progress) (report : Report) → IsValid d → verified d family bytes ≡ Ok p →
    IsReportOf p report → report.family ≡ family
marks_family d family bytes p report valid taken is =
    let h : AllSay d family report = all_say d family bytes p report valid taken is in
    h.of_family

-- ---- what can be put

pub marks_whole : (d : Desc) (family : Family) (bytes : List ℕ) (p : Progress) (report : Report) → IsValid d → verified d family bytes ≡ Ok p → IsReportOf p report →
    length report.marks ≡ length d.instrs * kind_count report.family
marks_whole d family bytes p report valid taken is =
    let h : AllSay d family report = all_say d family bytes p report valid taken is in
    h.whole ∙ ap (λ f. length d.instrs * kind_count f) (sym h.of_family)

drawn_listed : (f : Finding) (s t : Sparse) → kept (mark_of f) ≡ kept (Shown s t) → AreListed f → IsCellList s.cells × IsCellList t.cells
drawn_listed (finding.Refuted acts) s t e h = absurd (cc)
drawn_listed (finding.Shown x y) s t e h =
    let first : drawn_of x ≡ drawn_of s = cc in
    let second : drawn_of y ≡ drawn_of t = cc in
    (subst IsCellList (ap (λ (z : Drawn). z.cells) first) h.0, subst IsCellList (ap (λ (z : Drawn). z.cells) second) h.1)
drawn_listed (finding.Spent k steps) s t e h = absurd (cc)

module _ (d : Desc) (family : Family) (bytes : List ℕ) (p : Progress) (report : Report) (valid : IsValid d)
    (taken : verified d family bytes ≡ Ok p) (is : IsReportOf p report) where
  listed_at : (n : ℕ) (s t : Sparse) → slice_get report.marks n ≡ Some (Shown s t) → IsCellList s.cells × IsCellList t.cells
  listed_at n s t e = by (slice_get sp.cert.findings n) refl (sym (slice_get-map (λ f. kept (mark_of f)) sp.cert.findings n) ∙ ap (λ ms. slice_get ms n) (sym sp.marks) ∙ mark_kept d family bytes p report valid taken is n (Shown s t) e)
    where
      sp : Spells d family bytes p
      sp = spelled d family bytes p report valid taken is

      by : (o : Option Finding) → slice_get sp.cert.findings n ≡ o → option_map (λ f. kept (mark_of f)) o ≡ Some (kept (Shown s t)) → IsCellList s.cells × IsCellList t.cells
      by None eo e = absurd (cc)
      by (Some f) eo e = drawn_listed f s t (same_Some (kept (mark_of f)) (kept (Shown s t)) e) (subst AreListed (get_or_from_slice_get sp.cert.findings n f f eo) (sp.valid.listed n f (slice_get_within sp.cert.findings n f eo)))

  mark_fits : (n : ℕ) (m : Mark) → slice_get report.marks n ≡ Some m → DoMarkWordsFit d.word m
  mark_fits n Refuted e = tt
  mark_fits n (Shown s t) e =
      let h : AllSay d family report = all_say d family bytes p report valid taken is in
      let i = some_at d.instrs (instr_of family n)
      (instr_within family (length d.instrs) n (subst (λ k. n < k) h.whole (slice_get_within report.marks n (Shown s t) e))) in
      let listed = listed_at n s t e in
      shown_fit d i.0 (kind_of family n) s t listed.0 listed.1 (h.each n (Shown s t) i.0 e i.1)
  mark_fits n (Spent budget) e = tt

  pub marks_fit : All (DoMarkWordsFit d.word) report.marks
  marks_fit = λ n m l. mark_fits n (get_or report.marks n m) (slice_get-get_or report.marks n m l)

-- ---- a valid certificate at hand

finding_says : (d : Desc) → IsValid d → (heading : Heading) (k : ℕ) (i : Instr) (kind : Kind) (f : Finding) →
    slice_get d.instrs k ≡ Some i → IsValidFinding (question d i kind) heading d i kind f → Says d i kind (mark_of f)
unfolding IsValidFinding
finding_says d valid heading k i kind (finding.Refuted acts) at h = λ s t shows.
    let there = (questions-exact d (all_run_right d) k i kind valid at).1 (s, t, shows) in
    closed_refutes (question d i kind) acts h.0 there.0 there.1
finding_says d valid heading k i kind (finding.Shown s t) at h = h
finding_says d valid heading k i kind (finding.Spent n steps) at h = record { some = h.0; steps = steps; spent = h.2 }

module _ (d : Desc) (valid : IsValid d) (family : Family) (heading : Heading) (cert : Cert) (report : Report)
    (certified : IsValidCert (question d) heading d cert) (of_family : cert.family ≡ family) (kept_family : report.family ≡ family)
    (marks : report.marks ≡ map mark_of cert.findings) where
  finding_at : (n : ℕ) (m : Mark) (i : Instr) (o : Option Finding) → slice_get cert.findings n ≡ o →
      option_map mark_of o ≡ Some m → slice_get d.instrs (instr_of family n) ≡ Some i → Says d i (kind_of family n) m
  finding_at n m i None eo e at = absurd (cc)
  finding_at n m i (Some f) eo e at =
      let at_own : slice_get d.instrs (instr_of cert.family n) ≡ Some i = ap (λ x. slice_get d.instrs (instr_of x n)) of_family ∙ at in
      subst (λ x. Says d i (kind_of x n) m) of_family
      (subst (λ x. Says d i (kind_of cert.family n) x) (same_Some (mark_of f) m e)
      (finding_says d valid heading (instr_of cert.family n) i (kind_of cert.family n) f at_own (certified.each n f i eo at_own)))

  certificate_says : AllSay d family report
  certificate_says = record {
    of_family = kept_family;
    whole = ap length marks ∙ length-map cert.findings mark_of ∙ certified.whole ∙ ap (λ x. length d.instrs * kind_count x) of_family;
    each = λ n m i e at. finding_at n m i (slice_get cert.findings n) refl
        (sym (slice_get-map mark_of cert.findings n) ∙ ap (λ ms. slice_get ms n) (sym marks) ∙ e) at;
  }

  -- what its verdict means
  pub certificate_means : VerdictMeans d report
  certificate_means = means_of d family report certificate_says

  pub certificate_whole : length report.marks ≡ length d.instrs * kind_count report.family
  certificate_whole = certificate_says.whole ∙ ap (λ x. length d.instrs * kind_count x) (sym kept_family)
