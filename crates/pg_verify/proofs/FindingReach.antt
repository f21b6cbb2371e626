-- The lines of a finding that is due are taken, and it closes with its mark.
use Rattle.std.proofs.Common.{◌≡◌, ℕ, zero, suc, ◌+◌, ◌*◌, ◌%◌, ◌<◌, Bool, true, false, cond, if◌then◌else◌, List, [], ◌∷◌, ◌++◌, length, map, get_or, Option, None, Some, Ok, Err, refl, sym, ap, subst, ◌∙◌, arith, IsTrue, slice_get, ℤ}
use Rattle.std.specs.Prelude.{nat_lt, bytes_eq, slice_index_or, IsSomeAnd}
use Rattle.std.specs.List.{list_any, position_or_len}
use Rattle.std.proofs.lemmas.Bool.{lt-ltb, le-ltb, eq-eqb, or_parts}
use Rattle.std.proofs.lemmas.List.{length-map}
use Rattle.std.proofs.lemmas.List.Folds.{list_any-append}
use Rattle.std.proofs.lemmas.List.Sums.{position_or_len_is}
use Rattle.std.proofs.lemmas.Slice.Eq.{bytes_eq-Decides}
use Rattle.pg_word.specs.Shape.{IsShape}
use Rattle.pg_ast.specs.declared.tree.Instr.{Instr}
use Rattle.pg_ast.specs.declared.tree.Desc.{Desc}
use Rattle.pg_lang_meaning.specs.States.{shape_of}
use Rattle.pg_lang_valid.specs.Twice.{is_among, first_twice, instr_names, let_twice_among, first_of_two}
use Rattle.pg_lang_valid.specs.Valid.{as_twice, IsValid}
use Rattle.pg_type.specs.declared.kind.Kind.{Kind}
use Rattle.pg_type.specs.declared.kind.Kind.TheVariants as kind
use Rattle.pg_type.specs.Listed.{state_of as listed_state}
use Rattle.pg_proof.specs.declared.step.Act.{Act}
use Rattle.pg_proof.specs.State.{State as Log, begun}
use Rattle.pg_proof.specs.Log.{after_acts, IsClosedLog}
use Rattle.pg_ask.specs.Question.{question}
use Rattle.pg_cert.specs.declared.cert.Family.{Family}
use Rattle.pg_cert.specs.declared.cert.Family.TheVariants.{Plain, Hybrid}
use Rattle.pg_cert.specs.declared.cert.Finding.{Finding}
use Rattle.pg_cert.specs.declared.cert.Finding.TheVariants as finding
use Rattle.pg_cert.specs.declared.line.Heading.{Heading}
use Rattle.pg_cert.specs.declared.line.Found.{Found}
use Rattle.pg_cert.specs.declared.line.Found.TheVariants as found
use Rattle.pg_cert.specs.declared.line.Line.{Line}
use Rattle.pg_cert.specs.declared.line.Line.TheVariants as line
use Rattle.pg_cert.specs.Verdicts.{kinds_of, kind_count, mark_of}
use Rattle.pg_cert.specs.Texts.{act_line, state_lines, instr_of, kind_of, name_of, finding_lines, lines_text, AreListed}
use Rattle.pg_cert.specs.Validity.{may_remove, IsValidFinding}
use Rattle.pg_cert_drawn.specs.Drawn.{Drawn, drawn_of}
use Rattle.pg_verify.specs.declared.fault.VerifyFault.TheVariants as fault
use Rattle.pg_verify.specs.Reader.{NoState, FirstSize, FirstState, SecondSize, BothStates, Open, Between, Refuting, Showing, Spending, Mark, Refuted, Shown, Spent, Progress}
use Rattle.pg_verify.specs.Taking.{then_take, misplaced, missing, with_open, may_close, marked, shows_at, closed, clauses_at, opening, placed, named, instr_named, kind_place, with_header, after_header, after_form}
use Rattle.pg_verify.specs.Feeding.{kept}
use Rattle.pg_verify.proofs.JudgingLemmas.{shows_decides}
use Rattle.pg_verify.proofs.ReachLemmas.{spot, Fits, fits_front, fits_back, Reaches, reaches_then, reaches_cons}
use Rattle.pg_verify.proofs.LogReach.{IsRefuted, reaches_acts, IsAllSpent, reaches_steps}
use Rattle.pg_verify.proofs.StateReach.{IsShowing, from_showing, as_first_place, as_second_place, state_reaches}

-- ---- names stand once

if_none : {X : Type 0} (b : Bool) (x : X) (o : Option X) → (if b then Some x else o) ≡ None → (b ≡ false) × (o ≡ None)
if_none true x o e = absurd (cc)
if_none false x o e = (refl, e)

among_fewer : (seen : List (List ℕ)) (m x : List ℕ) → is_among (seen ++ m ∷ []) x ≡ false →
    (is_among seen x ≡ false) × (bytes_eq m x ≡ false)
among_fewer seen m x e =
    let h = or_parts (is_among seen x) (list_any (λ n. bytes_eq n x) (m ∷ []))
    (sym (list_any-append (λ n. bytes_eq n x) seen (m ∷ [])) ∙ e) in
    (h.0, (or_parts (bytes_eq m x) false h.1).0)

not_seen : (seen names : List (List ℕ)) (k : ℕ) → first_twice seen names ≡ None → k < length names →
    is_among seen (get_or names k []) ≡ false
unfolding first_twice
not_seen seen [] k e l = absurd (omega arith)
not_seen seen (n ∷ names) zero e l = (if_none (is_among seen n) n (first_twice (seen ++ n ∷ []) names) e).0
not_seen seen (n ∷ names) (suc k) e l =
    let h = if_none (is_among seen n) n (first_twice (seen ++ n ∷ []) names) e in
    (among_fewer seen n (get_or names k []) (not_seen (seen ++ n ∷ []) names k h.1 (omega arith))).0

names_apart : (seen names : List (List ℕ)) (j k : ℕ) → first_twice seen names ≡ None → j < k → k < length names →
    bytes_eq (get_or names j []) (get_or names k []) ≡ false
unfolding first_twice
names_apart seen [] j k e l m = absurd (omega arith)
names_apart seen (n ∷ names) j zero e l m = absurd (omega arith)
names_apart seen (n ∷ names) zero (suc k) e l m =
    let h = if_none (is_among seen n) n (first_twice (seen ++ n ∷ []) names) e in
    (among_fewer seen n (get_or names k []) (not_seen (seen ++ n ∷ []) names k h.1 (omega arith))).1
names_apart seen (n ∷ names) (suc j) (suc k) e l m =
    let h = if_none (is_among seen n) n (first_twice (seen ++ n ∷ []) names) e in
    names_apart (seen ++ n ∷ []) names j k h.1 (omega arith) (omega arith)

first_none : (a b : Option (List ℕ)) → as_twice (first_of_two a b) ≡ None → a ≡ None
first_none None b e = refl
first_none (Some n) b e = absurd (cc)

named_again : (d : Desc) (instr : ℕ) → IsValid d → instr < length d.instrs →
    instr_named d (name_of d instr) ≡ Some instr
named_again d instr valid l =
    let names : List (List ℕ) = instr_names d.instrs in
    let test : List ℕ → Bool = λ n. bytes_eq n (name_of d instr) in
    let len : length names ≡ length d.instrs = length-map d.instrs (λ (i : Instr). i.name.bytes) in
    let once : first_twice [] names ≡ None =
    first_none (first_twice [] names) (let_twice_among d.instrs) valid.names_once in
    let in_range : instr < length names = omega arith in
    let at : position_or_len test names ≡ instr =
    position_or_len_is test names instr [] (omega arith) (λ k m. names_apart [] names k instr once m in_range)
    (λ m. (bytes_eq-Decides (get_or names instr []) (name_of d instr)).1 refl) in
    ap (λ k. cond (nat_lt k (length names)) (Some k) None) at
    ∙ ap (λ b. cond b (Some instr) None) (lt-ltb instr (length names) in_range)

-- ---- the number of a finding

kind_again : (family : Family) (r : ℕ) → r < kind_count family →
    kind_place family (slice_index_or (kinds_of family) r kind.Privileged) ≡ Some r
kind_again Plain zero l = refl
kind_again Plain (suc zero) l = refl
kind_again Plain (suc (suc zero)) l = refl
kind_again Plain (suc (suc (suc zero))) l = refl
kind_again Plain (suc (suc (suc (suc zero)))) l = refl
kind_again Plain (suc (suc (suc (suc (suc r))))) l = absurd (omega arith)
kind_again Hybrid zero l = refl
kind_again Hybrid (suc zero) l = refl
kind_again Hybrid (suc (suc zero)) l = refl
kind_again Hybrid (suc (suc (suc zero))) l = refl
kind_again Hybrid (suc (suc (suc (suc r)))) l = absurd (omega arith)

pub place_small : (family : Family) (n : ℕ) → n % kind_count family < kind_count family
place_small Plain n = omega arith
place_small Hybrid n = omega arith

number_again : (family : Family) (n : ℕ) → instr_of family n * kind_count family + n % kind_count family ≡ n
number_again Plain n = omega arith
number_again Hybrid n = omega arith

pub instr_small : (family : Family) (n count : ℕ) → n < count * kind_count family → instr_of family n < count
instr_small Plain n count l = omega arith
instr_small Hybrid n count l = omega arith

-- ---- headers

-- what is open closes, and the marks are these then
pub record IsReady (d : Desc) (family : Family) (removes : Bool) (to from : List Mark) (o : Open) : Type 0 where
  pub may : may_close o ≡ true
  pub closes : (n j : ℕ) → closed (spot d family removes from o n j) ≡ Ok (spot d family removes to Between n j)

placed_again : (p : Progress) (instr : ℕ) (k : Kind) (place : ℕ) (f : Found) (i : Instr) →
    instr * kind_count p.family + place ≡ length p.marks → slice_get p.desc.instrs instr ≡ Some i →
    placed p instr k place f ≡ Ok (with_open p (opening p.lines (question p.desc i k) f))
placed_again p instr k place f i e at =
    let low : nat_lt (instr * kind_count p.family + place) (length p.marks) ≡ false =
    le-ltb (instr * kind_count p.family + place) (length p.marks) (omega arith) in
    let high : nat_lt (length p.marks) (instr * kind_count p.family + place) ≡ false =
    le-ltb (length p.marks) (instr * kind_count p.family + place) (omega arith) in
    ap (λ (b : Bool). if b then Err (fault.Extra p.lines)
    else (if nat_lt (length p.marks) (instr * kind_count p.family + place) then missing p else Ok
    (with_open p (opening p.lines (clauses_at p.desc k (slice_get p.desc.instrs instr)) f)))) low
    ∙ ap (λ (b : Bool). if b then missing p else Ok
    (with_open p (opening p.lines (clauses_at p.desc k (slice_get p.desc.instrs instr)) f))) high
    ∙ ap (λ o. Ok (with_open p (opening p.lines (clauses_at p.desc k o) f))) at

module _ (d : Desc) (valid : IsValid d) (numbers : IsShape (shape_of d)) (family : Family) (heading : Heading) where
  abbrev removes : Bool
  removes = may_remove heading

  header_taken : (to from : List Mark) (o : Open) (n j : ℕ) (i : Instr) (f : Found) →
      IsReady d family removes to from o → instr_of family (length to) < length d.instrs →
      slice_get d.instrs (instr_of family (length to)) ≡ Some i →
      after_form (spot d family removes from o n j)
      (line.Header (name_of d (instr_of family (length to))) (kind_of family (length to)) f)
      ≡ Ok (spot d family removes to (opening n (question d i (kind_of family (length to))) f) n j)
  unfolding after_form after_header
  header_taken to from o n j i f ready l at =
      let p : Progress = spot d family removes from o n j in
      let q : Progress = spot d family removes to Between n j in
      let instr : ℕ = instr_of family (length to) in
      let k : Kind = kind_of family (length to) in
      let place : ℕ = length to % kind_count family in
      let name : List ℕ = name_of d instr in
      ap (λ (b : Bool). if b then with_header p name k (kind_place family k) f else misplaced n) ready.may
      ∙ ap (λ x. with_header p name k x f) (kind_again family place (place_small family (length to)))
      ∙ ap (λ r. then_take r (λ (after : Progress). named after (instr_named after.desc name) k place f))
      (ready.closes n j)
      ∙ ap (λ x. named q x k place f) (named_again d instr valid l)
      ∙ placed_again q instr k place f i (number_again family (length to)) at

  -- ---- what closes

  module _ (marks : List Mark) where
    refuted_ready : (final : Log) (ms : List Mark) (o : Open) → final.closed ≡ true →
        IsRefuted d numbers family heading marks final ms o → IsReady d family removes (marks ++ Refuted ∷ []) ms o
    unfolding closed
    refuted_ready final ms o c h =
        subst (λ x. IsReady d family removes (marks ++ Refuted ∷ []) x o) (sym h.marks_are)
        (subst (λ x. IsReady d family removes (marks ++ Refuted ∷ []) marks x) (sym h.is)
        (record {
          may = refl;
          closes =
              λ n j. ap (λ (b : Bool). if b then Ok
              (marked (spot d family removes marks (Refuting h.header final) n j) Refuted) else Err
              (fault.NotClosed h.header)) c;
        }))

    spent_ready : (budget : ℕ) (ms : List Mark) (o : Open) → IsAllSpent d numbers family heading marks budget ms o →
        IsReady d family removes (marks ++ Spent budget ∷ []) ms o
    unfolding closed
    spent_ready budget ms o h =
        subst (λ x. IsReady d family removes (marks ++ Spent budget ∷ []) x o) (sym h.marks_are)
        (subst (λ x. IsReady d family removes (marks ++ Spent budget ∷ []) marks x) (sym h.is)
        (record {
          may = refl;
          closes =
              λ n j. ap (λ (b : Bool). if b then Ok
              (marked (spot d family removes marks (Spending h.header budget budget h.log) n j) (Spent budget)) else Err
              (fault.BadSpent h.header)) (eq-eqb budget budget refl);
        }))

    shown_ready : (header : ℕ) (i : Instr) (s t : Drawn) (ms : List Mark) (o : Open) →
        slice_get d.instrs (instr_of family (length marks)) ≡ Some i →
        shows_at d (kind_of family (length marks)) (Some i) s t ≡ true →
        IsShowing d numbers family removes marks header (BothStates s t) ms o →
        IsReady d family removes (marks ++ Shown s t ∷ []) ms o
    unfolding closed
    shown_ready header i s t ms o at test h =
        subst (λ x. IsReady d family removes (marks ++ Shown s t ∷ []) x o) (sym h.marks_are)
        (subst (λ x. IsReady d family removes (marks ++ Shown s t ∷ []) marks x) (sym h.is)
        (record {
          may = refl;
          closes = λ n j. ap (λ (b : Bool). if b then Ok
              (marked (spot d family removes marks (Showing header (BothStates s t)) n j) (Shown s t)) else Err
              (fault.BadPair header)) (ap (λ x. shows_at d (kind_of family (length marks)) x s t) at ∙ test);
        }))

  weaker : (p : Progress) (ls : List Line) (P Q : List Mark → Open → Type 0) → Reaches d family removes p ls P →
      ((ms : List Mark) (o : Open) → P ms o → Q ms o) → Reaches d family removes p ls Q
  weaker p ls P Q h go = record {
    marks = h.marks;
    opened = h.opened;
    lines = h.lines;
    was = h.was;
    is =
        go h.marks h.opened h.is;
  }

  record IsClosedAt (clauses : List (List ℤ)) (acts : List Act) : Type 0 where
    final : Log
    reached : after_acts clauses acts ≡ Some final
    closed_is : final.closed ≡ true

  closed_at : (clauses : List (List ℤ)) (acts : List Act) → IsClosedLog clauses acts → IsClosedAt clauses acts
  closed_at clauses acts h = by (after_acts clauses acts) refl h
    where
      by : (o : Option Log) → after_acts clauses acts ≡ o → IsSomeAnd o (λ after. IsTrue after.closed) →
          IsClosedAt clauses acts
      by None e h = absurd h
      by (Some final) e h = record { final = final; reached = e; closed_is = h }

  module _ (to from : List Mark) (o : Open) (n k : ℕ) (i : Instr) (ready : IsReady d family removes to from o)
      (small : instr_of family (length to) < length d.instrs)
      (at : slice_get d.instrs (instr_of family (length to)) ≡ Some i) where
    abbrev clauses : List (List ℤ)
    clauses = question d i (kind_of family (length to))

    -- the header, and what stands below it
    headed : (f : Found) (body : List Line) (P : List Mark → Open → Type 0) →
        Fits d k (line.Header (name_of d (instr_of family (length to))) (kind_of family (length to)) f ∷ body) →
        ((j : ℕ) → Fits d j body → Reaches d family removes
        (spot d family removes to (opening (suc n) clauses f) (suc n) j) body P) →
        Reaches d family removes (spot d family removes from o n k)
        (line.Header (name_of d (instr_of family (length to))) (kind_of family (length to)) f ∷ body) P
    headed f body P fits go =
        reaches_cons d numbers family removes removes removes from to o (opening (suc n) clauses f) n k
        (line.Header (name_of d (instr_of family (length to))) (kind_of family (length to)) f) body P fits
        (λ j. header_taken to from o (suc n) j i f ready small at)
        (λ g. go _ g)

    pub finding_reaches : (f : Finding) → IsValidFinding clauses heading d i (kind_of family (length to)) f →
        AreListed f → Fits d k (finding_lines d family (length to) f) →
        Reaches d family removes (spot d family removes from o n k) (finding_lines d family (length to) f)
        (IsReady d family removes (to ++ kept (mark_of f) ∷ []))
    unfolding IsValidFinding
    finding_reaches (finding.Refuted acts) h listed fits =
        let c = closed_at clauses acts h.0 in
        headed found.Refuted (map act_line acts) (IsReady d family removes (to ++ Refuted ∷ [])) fits (λ j g.
        weaker (spot d family removes to (Refuting (suc n) (begun clauses)) (suc n) j) (map act_line acts)
        (IsRefuted d numbers family heading to c.final) (IsReady d family removes (to ++ Refuted ∷ []))
        (reaches_acts d numbers family heading to (suc n) (suc n) j (begun clauses) c.final acts c.reached h.1 g)
        (λ ms x r. refuted_ready to c.final ms x c.closed_is r))
    finding_reaches (finding.Spent budget steps) h listed fits =
        headed (found.Spent budget) (map line.Step steps) (IsReady d family removes (to ++ Spent budget ∷ [])) fits
        (λ j g.
        weaker (spot d family removes to (Spending (suc n) budget 0 (begun clauses)) (suc n) j) (map line.Step steps)
        (IsAllSpent d numbers family heading to budget) (IsReady d family removes (to ++ Spent budget ∷ []))
        (reaches_steps d numbers family heading to (suc n) (suc n) j budget 0 budget (begun clauses) steps h.2
        (omega arith) g)
        (λ ms x r. spent_ready to budget ms x r))
    finding_reaches (finding.Shown s t) h listed fits =
        let test : shows_at d (kind_of family (length to)) (Some i) (drawn_of s) (drawn_of t) ≡ true =
        (shows_decides d i (kind_of family (length to)) (listed_state s) (listed_state t)).1 h in
        headed found.Shown (state_lines s ++ state_lines t)
        (IsReady d family removes (to ++ Shown (drawn_of s) (drawn_of t) ∷ [])) fits (λ j g.
        weaker (spot d family removes to (Showing (suc n) NoState) (suc n) j) (state_lines s ++ state_lines t)
        (IsShowing d numbers family removes to (suc n) (BothStates (drawn_of s) (drawn_of t)))
        (IsReady d family removes (to ++ Shown (drawn_of s) (drawn_of t) ∷ []))
        (reaches_then d numbers family removes removes (spot d family removes to (Showing (suc n) NoState) (suc n) j)
        (state_lines s) (state_lines t)
        (IsShowing d numbers family removes to (suc n) (FirstState (drawn_of s)))
        (IsShowing d numbers family removes to (suc n) (BothStates (drawn_of s) (drawn_of t)))
        (state_reaches d numbers family removes to (suc n) FirstState as_first_place NoState (FirstSize s.size) s
        (suc n) j listed.0 refl refl (fits_front d j (state_lines s) (state_lines t) g))
        (λ ms x m r. from_showing d numbers family removes to (suc n) (FirstState (drawn_of s)) ms x m
        (j + length (lines_text (shape_of d) (state_lines s))) (state_lines t)
        (IsShowing d numbers family removes to (suc n) (BothStates (drawn_of s) (drawn_of t))) r
        (state_reaches d numbers family removes to (suc n) (BothStates (drawn_of s)) (as_second_place (drawn_of s))
        (FirstState (drawn_of s)) (SecondSize (drawn_of s) t.size) t m
        (j + length (lines_text (shape_of d) (state_lines s))) listed.1 refl refl
        (fits_back d j (state_lines s) (state_lines t) g))))
        (λ ms x r. shown_ready to (suc n) i (drawn_of s) (drawn_of t) ms x at test r))
