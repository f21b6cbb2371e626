-- A finding that is open is closed.
use Rattle.std.proofs.Common.{◌≡◌, ◌⊎◌, inl, inr, ℕ, zero, suc, ◌+◌, Bool, true, false, List, [], ◌∷◌, ◌++◌, length, map, Option, Some, Ok, refl, sym, ap, subst, ◌∙◌, arith, ℤ, append_assoc, append-nil, IsTrue, slice_get}
use Rattle.std.specs.Prelude.{◌==◌, IsSomeAnd}
use Rattle.std.proofs.lemmas.Bool.{eqb-true}
use Rattle.std.proofs.lemmas.List.{map-append, length-map}
use Rattle.std.proofs.lemmas.List.Elements.{All-push}
use Rattle.std.proofs.lemmas.Option.{same_Some}
use Rattle.pg_ast.specs.declared.tree.Instr.{Instr}
use Rattle.pg_ast.specs.declared.tree.Desc.{Desc}
use Rattle.pg_type.specs.Listed.{state_of as listed_state}
use Rattle.pg_proof.specs.declared.step.Act.TheVariants as act
use Rattle.pg_proof.specs.State.{State as Log, begun}
use Rattle.pg_proof.specs.Log.{after_acts, IsSpentFrom}
use Rattle.pg_ask.specs.Question.{question}
use Rattle.pg_cert.specs.declared.cert.Family.{Family}
use Rattle.pg_cert.specs.declared.cert.Finding.{Finding}
use Rattle.pg_cert.specs.declared.cert.Finding.TheVariants as finding
use Rattle.pg_cert.specs.declared.line.Heading.{Heading}
use Rattle.pg_cert.specs.declared.line.Line.{Line}
use Rattle.pg_cert.specs.declared.line.Line.TheVariants as line
use Rattle.pg_cert.specs.Verdicts.{mark_of}
use Rattle.pg_cert.specs.Texts.{found_of, body_lines, instr_of, kind_of, name_of, finding_lines, findings_lines, AreListed}
use Rattle.pg_cert.specs.Validity.{IsValidFinding}
use Rattle.pg_cert_drawn.specs.Drawn.{Drawn}
use Rattle.pg_cert_drawn.proofs.DrawnLines.{sparse_of}
use Rattle.pg_verify.specs.Reader.{Pair, NoState, FirstSize, FirstState, SecondSize, BothStates, Open, Fresh, Between, Refuting, Showing, Spending, Ended, Mark, Refuted, Shown, Spent, Progress}
use Rattle.pg_verify.specs.Taking.{is_whole, may_close, marked, due_kind, shows_at, shows_due, closed_pair, closed_open}
use Rattle.pg_verify.specs.Feeding.{kept}
use Rattle.pg_verify.proofs.JudgingLemmas.{shows_decides}
use Rattle.pg_verify.proofs.Standing.{IsFront, IsBetween, IsOpenAt, IsAt, Keeps}
use Rattle.pg_verify.proofs.StepLemmas.{same_ok, if_taken}

-- ---- lists

record IsLast {X : Type 0} (xs : List X) (x : X) (n : ℕ) (y : X) : Type 0 where
  at : n ≡ length xs
  is : x ≡ y

pushed_get : {X : Type 0} (xs : List X) (x : X) (n : ℕ) (y : X) → slice_get (xs ++ x ∷ []) n ≡ Some y →
    (slice_get xs n ≡ Some y) ⊎ (IsLast xs x n y)
pushed_get [] x zero y e = inr (record { at = refl; is = same_Some x y e })
pushed_get [] x (suc n) y e = absurd (cc)
pushed_get (z ∷ xs) x zero y e = inl e
pushed_get (z ∷ xs) x (suc n) y e = by (pushed_get xs x n y e)
  where
    by : (slice_get xs n ≡ Some y) ⊎ (IsLast xs x n y) → (slice_get xs n ≡ Some y) ⊎ (IsLast (z ∷ xs) x (suc n) y)
    by (inl h) = inl h
    by (inr h) = inr (record { at = ap suc h.at; is = h.is })

pub findings_more : (d : Desc) (family : Family) (n k : ℕ) (fs : List Finding) (f : Finding) → k ≡ n + length fs →
    findings_lines d family n (fs ++ f ∷ []) ≡ findings_lines d family n fs ++ finding_lines d family k f
unfolding findings_lines
findings_more d family n k [] f e = let same : k ≡ n = omega arith in append-nil (finding_lines d family n f)
    ∙ ap (λ j. finding_lines d family j f) (sym same)
findings_more d family n k (g ∷ fs) f e =
    ap (λ ls. finding_lines d family n g ++ ls) (findings_more d family (suc n) k fs f (omega arith))
    ∙ sym (append_assoc (finding_lines d family n g) (findings_lines d family (suc n) fs) (finding_lines d family k f))

-- ---- one finding more

module _ (d : Desc) (family : Family) (removes : Bool) (marks : List Mark) (before : List Line) where
  pub length-marks : (heading : Heading) (fs : List Finding) → IsFront d family removes marks heading fs before →
      length marks ≡ length fs
  length-marks heading fs h = ap length h.marks_are ∙ length-map fs (λ f. kept (mark_of f))

  pub front_more : (heading : Heading) (fs : List Finding) (i : Instr) (f : Finding) →
      IsFront d family removes marks heading fs before → slice_get d.instrs (instr_of family (length marks)) ≡ Some i →
      IsValidFinding (question d i (kind_of family (length marks))) heading d i (kind_of family (length marks)) f →
      AreListed f →
      IsBetween d family removes (marks ++ kept (mark_of f) ∷ []) (before ++ finding_lines d family (length marks) f)
  front_more heading fs i f h is valid listed =
      let len : length marks ≡ length fs = length-marks heading fs h in
      record {
        heading = heading;
        findings = fs ++ f ∷ [];
        front = record {
          family_is = h.family_is;
          removes_is = h.removes_is;
          marks_are = ap (λ ms. ms ++ kept (mark_of f) ∷ []) h.marks_are
              ∙ sym (map-append (λ g. kept (mark_of g)) fs (f ∷ []));
          each = λ n g j get at. by n g j at (pushed_get fs f n g get) len;
          listed = All-push AreListed fs f h.listed listed;
          lines_are = ap (λ ls. ls ++ finding_lines d family (length marks) f) h.lines_are
              ∙ ap (λ ls. line.First heading ∷ ls) (sym (findings_more d family 0 (length marks) fs f (omega arith)));
        };
      }
    where
      last : (n : ℕ) (g : Finding) (j : Instr) → n ≡ length marks → f ≡ g →
          slice_get d.instrs (instr_of family n) ≡ Some j →
          IsValidFinding (question d j (kind_of family n)) heading d j (kind_of family n) g
      last n g j en ef at =
          let same : i ≡ j = same_Some i j (sym is ∙ ap (λ k. slice_get d.instrs (instr_of family k)) (sym en) ∙ at) in
          subst (λ x. IsValidFinding (question d j (kind_of family n)) heading d j (kind_of family n) x) ef
          (subst (λ x. IsValidFinding (question d x (kind_of family n)) heading d x (kind_of family n) f) same
          (subst (λ k. IsValidFinding (question d i (kind_of family k)) heading d i (kind_of family k) f) (sym en)
          valid))

      by : (n : ℕ) (g : Finding) (j : Instr) → slice_get d.instrs (instr_of family n) ≡ Some j →
          (slice_get fs n ≡ Some g) ⊎ (IsLast fs f n g) → length marks ≡ length fs →
          IsValidFinding (question d j (kind_of family n)) heading d j (kind_of family n) g
      by n g j at (inl get) len = h.each n g j get at
      by n g j at (inr l) len = last n g j (l.at ∙ sym len) l.is at

  -- what is open is the finding f
  finding_is : (lines : List Line) (o : Open) (h : IsOpenAt d family removes marks lines o) (f : Finding) →
      h.found ≡ found_of f → h.body ≡ body_lines f → lines ≡ h.before ++ finding_lines d family (length marks) f
  finding_is lines o h f ef eb =
      h.lines_are
      ∙ ap (λ x. h.before ++ line.Header (name_of d (instr_of family (length marks))) (kind_of family (length marks))
      x ∷ h.body) ef
      ∙ ap (λ ls. h.before ++ line.Header (name_of d (instr_of family (length marks))) (kind_of family (length marks))
      (found_of f) ∷ ls) eb

pub record Closed (p q : Progress) (lines : List Line) : Type 0 where
  pub keeps : Keeps p q
  pub between : IsBetween q.desc q.family q.removes q.marks lines

-- the finding f closes with its mark
closing_with : (p q : Progress) (lines : List Line) (o : Open) (h : IsOpenAt p.desc p.family p.removes p.marks lines o)
    (f : Finding) (m : Mark) → marked p m ≡ q → m ≡ kept (mark_of f) →
    h.found ≡ found_of f → h.body ≡ body_lines f →
    IsValidFinding (question p.desc h.instr (kind_of p.family (length p.marks))) h.heading p.desc h.instr
    (kind_of p.family (length p.marks)) f → AreListed f → Closed p q lines
closing_with p q lines o h f m e em ef eb valid listed =
    subst (λ x. Closed p x lines) e
    (record {
      keeps = record { desc = refl; family = refl; lines = refl; fed = refl; rest = refl };
      between =
          subst (λ x. IsBetween p.desc p.family p.removes (p.marks ++ x ∷ []) lines) (sym em)
          (subst (λ ls. IsBetween p.desc p.family p.removes (p.marks ++ kept (mark_of f) ∷ []) ls)
          (sym (finding_is p.desc p.family p.removes p.marks h.before lines o h f ef eb))
          (front_more p.desc p.family p.removes p.marks h.before h.heading h.findings h.instr f h.front h.instr_is valid
          listed));
    })

closed_log : (clauses : List (List ℤ)) (log : Log) (r : Option Log) → r ≡ Some log → log.closed ≡ true →
    IsSomeAnd r (λ after. IsTrue after.closed)
closed_log clauses log r e c = subst (λ o. IsSomeAnd o (λ after. IsTrue after.closed)) (sym e) c

module _ (p q : Progress) (lines : List Line) where
  refuting_closed : (header : ℕ) (log : Log) → log.closed ≡ true → marked p Refuted ≡ q →
      IsOpenAt p.desc p.family p.removes p.marks lines (Refuting header log) → Closed p q lines
  unfolding IsValidFinding
  refuting_closed header log c e h =
      closing_with p q lines (Refuting header log) h (finding.Refuted h.body_is.acts) Refuted e refl h.body_is.found_is
      h.body_is.lines_are (
        closed_log (question p.desc h.instr (kind_of p.family (length p.marks))) log
            (after_acts (question p.desc h.instr (kind_of p.family (length p.marks))) h.body_is.acts) h.body_is.reached c,
        h.body_is.under,
      ) tt

  spending_closed : (header budget count : ℕ) (log : Log) → count ≡ budget → marked p (Spent budget) ≡ q →
      IsOpenAt p.desc p.family p.removes p.marks lines (Spending header budget count log) → Closed p q lines
  unfolding IsValidFinding
  spending_closed header budget count log c e h =
      closing_with p q lines (Spending header budget count log) h (finding.Spent budget h.body_is.steps) (Spent budget)
      e refl h.body_is.found_is h.body_is.lines_are (
        h.body_is.least,
        h.body_is.most,
        subst
            (λ k. IsSpentFrom (begun (question p.desc h.instr (kind_of p.family (length p.marks)))) k
            (map act.Add h.body_is.steps)) c h.body_is.spent,
      ) tt

  showing_closed : (header : ℕ) (s t : Drawn) → shows_due p s t ≡ true → marked p (Shown s t) ≡ q →
      IsOpenAt p.desc p.family p.removes p.marks lines (Showing header (BothStates s t)) → Closed p q lines
  unfolding IsValidFinding
  showing_closed header s t c e h =
      let a = h.body_is.drawn.0 in
      let b = h.body_is.drawn.1 in
      let test : shows_at p.desc (due_kind p) (Some h.instr) s t ≡ true =
      ap (λ o. shows_at p.desc (due_kind p) o s t) (sym h.instr_is) ∙ c in
      closing_with p q lines (Showing header (BothStates s t)) h
      (finding.Shown (sparse_of s a.within) (sparse_of t b.within)) (Shown s t) e refl h.body_is.found_is
      h.body_is.lines_are
      ((shows_decides p.desc h.instr (due_kind p) (listed_state (sparse_of s a.within))
      (listed_state (sparse_of t b.within))).0 test) (a.cells, b.cells)

  pair_closed : (header : ℕ) (pair : Pair) → is_whole pair ≡ true → closed_pair p header pair ≡ Ok q →
      IsOpenAt p.desc p.family p.removes p.marks lines (Showing header pair) → Closed p q lines
  pair_closed header NoState w e h = absurd (let f : false ≡ true = w in cc)
  pair_closed header (FirstSize n) w e h = absurd (let f : false ≡ true = w in cc)
  pair_closed header (FirstState s) w e h = absurd (let f : false ≡ true = w in cc)
  pair_closed header (SecondSize s n) w e h = absurd (let f : false ≡ true = w in cc)
  pair_closed header (BothStates s t) w e h =
      let g = if_taken (shows_due p s t) (marked p (Shown s t)) q _ e in showing_closed header s t g.0 g.1 h

  pub open_closed : (o : Open) → may_close o ≡ true → closed_open p o ≡ Ok q →
      IsAt p.desc p.family p.removes p.marks lines o → Closed p q lines
  open_closed Fresh m e h = absurd (let f : false ≡ true = m in cc)
  open_closed Between m e h = subst (λ x. Closed p x lines) (same_ok p q e)
      (record { keeps = record { desc = refl; family = refl; lines = refl; fed = refl; rest = refl }; between = h })
  open_closed (Refuting header log) m e h = let g =
      if_taken log.closed (marked p Refuted) q _ e in refuting_closed header log g.0 g.1 h
  open_closed (Showing header pair) m e h = pair_closed header pair m e h
  open_closed (Spending header budget count log) m e h =
      let g = if_taken (count == budget) (marked p (Spent budget)) q _ e in spending_closed header budget count log
      (eqb-true count budget g.0) g.1 h
  open_closed Ended m e h = absurd (let f : false ≡ true = m in cc)
