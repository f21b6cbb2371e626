-- What one finding becomes.
use Rattle.std.proofs.Common.{◌≡◌, ℕ, zero, suc, ◌+◌, ◌^◌, ◌<◌, ◌≤◌, ℤ, true, List, [], ◌∷◌, ◌++◌, length, map, All, Some, refl, sym, ap, subst, ◌∙◌, arith, ◌⊎◌, inl, inr, get_or, reverse, append_assoc, append-nil, length-append}
use Rattle.std.proofs.lemmas.List.{reverse-append}
use Rattle.std.specs.Prelude.{slice_get, None}
use Rattle.std.proofs.lemmas.Option.{same_Some, slice_get_read, slice_get_cases}
use Rattle.pg_ast.specs.declared.tree.Instr.{Instr}
use Rattle.pg_ast.specs.declared.tree.Desc.{Desc}
use Rattle.pg_word.specs.Shape.{IsShape}
use Rattle.pg_word.specs.declared.sparse.Sparse.{Sparse}
use Rattle.pg_lang_meaning.specs.States.{shape_of}
use Rattle.pg_type.specs.declared.kind.Kind.{Kind}
use Rattle.pg_cnf.specs.Literals.{AreLiterals, AreClauses}
use Rattle.pg_proof.specs.declared.step.Step.{Step}
use Rattle.pg_proof.specs.declared.step.Act.{Act}
use Rattle.pg_proof.specs.declared.step.Act.TheVariants as act
use Rattle.pg_proof.specs.State.{variables_of_clause, variables_of}
use Rattle.pg_proof.specs.Log.{IsClosedLog}
use Rattle.pg_proof.specs.Trimmed.{step_count, IsTrimmed}
use Rattle.pg_ask.specs.Question.{question}
use Rattle.pg_cert.specs.declared.cert.Family.{Family}
use Rattle.pg_cert.specs.declared.cert.Finding.{Finding}
use Rattle.pg_cert.specs.declared.cert.Finding.TheVariants as finding
use Rattle.pg_cert.specs.declared.report.Mark.{Mark}
use Rattle.pg_cert.specs.declared.report.Mark.TheVariants.{Refuted}
use Rattle.pg_cert.specs.declared.line.Heading.{Heading}
use Rattle.pg_cert.specs.declared.line.Heading.TheVariants.{PlainTwo}
use Rattle.pg_cert.specs.Verdicts.{mark_of}
use Rattle.pg_cert.specs.Lines.{IsLine}
use Rattle.pg_cert.specs.Texts.{instr_of, kind_of, found_of, body_lines, AreListed}
use Rattle.pg_cert.specs.Validity.{may_remove, IsValidFinding}
use Rattle.pg_cert.specs.InRange.{IsNumbered}
use Rattle.pg_cert.proofs.InRange.{trimmed_may_stand}
use Rattle.pg_verify.specs.Feeding.{most_bytes}
use Rattle.pg_cert_migrate.specs.Made.{steps_of, IsMade, IsMadeAt, AreReady, AreMadeFrom}
use Rattle.pg_cert_migrate.specs.Migrated.{Keeps}
use Rattle.pg_cert_migrate.proofs.LogLemmas.{acts_of}
use Rattle.pg_cert_migrate.proofs.RangeLemmas.{log_in_range}

-- ---- numbers

greatest_in : (n : ℕ) (c : List ℤ) → AreLiterals n c → variables_of_clause c ≤ n
greatest_in n [] h = omega arith
greatest_in n (z ∷ zs) h = omega (arith, h.0.1, greatest_in n zs h.1)

greatest : (n : ℕ) (cs : List (List ℤ)) → AreClauses n cs → variables_of cs ≤ n
greatest n [] h = omega arith
greatest n (c ∷ cs) h = omega (arith, greatest_in n c h.0.within, greatest n cs h.1)

steps_few : (acts : List Act) → step_count acts ≤ length acts
steps_few [] = omega arith
steps_few (act.Add step ∷ acts) = let rest = steps_few acts in omega (arith, rest)
steps_few (act.Remove numbers ∷ acts) = let rest = steps_few acts in omega (arith, rest)

pub numbered : (clauses : List (List ℤ)) (variables : ℕ) (log : List Act) → AreClauses variables clauses →
    variables < 2 ^ 31 → length clauses < 2 ^ 31 → length log ≤ most_bytes → IsNumbered clauses log
numbered clauses variables log are few_variables few_clauses few = record {
  variables = (let v = greatest variables clauses are in omega (arith, v, few_variables));
  numbers = (let s = steps_few log in omega (arith, s, few_clauses, few));
}

-- ---- a log that refutes

-- an instruction of a number below the count is there
pub there : (d : Desc) (n : ℕ) {P : Type 0} → n < length d.instrs → ((i : Instr) → slice_get d.instrs n ≡ Some i → P) → P
there d n {P} l f = by (slice_get_cases d.instrs n).1
  where
    by : ((i : Instr) × (n < length d.instrs) × (slice_get d.instrs n ≡ Some i) × (get_or d.instrs n i ≡ i)) ⊎
        ((length d.instrs ≤ n) × (slice_get d.instrs n ≡ None)) → P
    by (inl h) = f h.0 h.2
    by (inr past) = let beyond = past.0 in absurd (omega arith)

pub refuted_made : (d : Desc) (n : ℕ) (kind : Kind) (clauses : List (List ℤ)) (log kept : List Act) →
    ((i : Instr) → slice_get d.instrs n ≡ Some i → clauses ≡ question d i kind) → IsTrimmed clauses log kept → IsNumbered clauses log →
    (i : Instr) → slice_get d.instrs n ≡ Some i → IsMade (question d i kind) Refuted log (finding.Refuted kept)
refuted_made d n kind clauses log kept same trimmed numbers = λ i at.
    subst (λ cs. IsMade cs Refuted log (finding.Refuted kept)) (same i at) (trimmed, numbers)

-- ---- what is made of a finding's mark and log

pub steps_back : (steps : List Step) → steps_of (map act.Add steps) ≡ steps
steps_back [] = refl
steps_back (step ∷ steps) = ap (λ xs. step ∷ xs) (steps_back steps)

steps_joined : (xs ys : List Act) → steps_of (xs ++ ys) ≡ steps_of xs ++ steps_of ys
steps_joined [] ys = refl
steps_joined (act.Add step ∷ xs) ys = ap (λ ss. step ∷ ss) (steps_joined xs ys)
steps_joined (act.Remove numbers ∷ xs) ys = steps_joined xs ys

-- the last act of what is left of a log
pub step_taken : (before after : List Act) (step : Step) (made next : List Step) (all : List Act) →
    before ≡ after ++ act.Add step ∷ [] → next ≡ made ++ step ∷ [] → steps_of before ++ reverse made ≡ steps_of all →
    steps_of after ++ reverse next ≡ steps_of all
step_taken before after step made next all e n h =
    ap (λ xs. steps_of after ++ reverse xs) n ∙ ap (λ xs. steps_of after ++ xs) (reverse-append made (step ∷ []))
    ∙ sym (append_assoc (steps_of after) (step ∷ []) (reverse made))
    ∙ ap (λ xs. xs ++ reverse made) (sym (ap steps_of e ∙ steps_joined after (act.Add step ∷ []))) ∙ h

pub removal_taken : (before after : List Act) (numbers : List ℕ) (made : List Step) (all : List Act) →
    before ≡ after ++ act.Remove numbers ∷ [] → steps_of before ++ reverse made ≡ steps_of all →
    steps_of after ++ reverse made ≡ steps_of all
removal_taken before after numbers made all e h =
    ap (λ xs. xs ++ reverse made) (sym (append-nil (steps_of after)) ∙ sym (ap steps_of e ∙ steps_joined after (act.Remove numbers ∷ []))) ∙ h

-- of the mark and the log of a finding
abbrev pub Becomes : List (List ℤ) → Finding → Finding → Type 0
Becomes clauses f g = IsMade clauses (mark_of f) (acts_of f) g

-- all that follows of one finding
pub record IsBecome (clauses : List (List ℤ)) (heading : Heading) (d : Desc) (i : Instr) (kind : Kind) (f g : Finding) : Type 0 where
  pub keeps : Keeps clauses f g
  pub mark : mark_of g ≡ mark_of f
  pub found : found_of g ≡ found_of f
  pub valid : IsValidFinding clauses heading d i kind g
  pub listed : AreListed f → AreListed g
  pub in_range : All (IsLine (shape_of d)) (body_lines f) → All (IsLine (shape_of d)) (body_lines g)

module _ (clauses : List (List ℤ)) (was heading : Heading) (may : may_remove heading ≡ true) (d : Desc) (shape : IsShape (shape_of d))
    (i : Instr) (kind : Kind) where
  shown_stays : (s t : Sparse) (g : Finding) → g ≡ finding.Shown s t → IsValidFinding clauses was d i kind (finding.Shown s t) →
      IsBecome clauses heading d i kind (finding.Shown s t) g
  unfolding IsValidFinding
  shown_stays s t g e valid = subst (λ x. IsBecome clauses heading d i kind (finding.Shown s t) x) (sym e) (record {
    keeps = (refl, refl);
    mark = refl;
    found = refl;
    valid = valid;
    listed = λ h. h;
    in_range = λ h. h;
  })

  spent_stays : (k : ℕ) (steps : List Step) (g : Finding) → g ≡ finding.Spent k (steps_of (map act.Add steps)) →
      IsValidFinding clauses was d i kind (finding.Spent k steps) → IsBecome clauses heading d i kind (finding.Spent k steps) g
  unfolding IsValidFinding
  spent_stays k steps g e valid =
      subst (λ x. IsBecome clauses heading d i kind (finding.Spent k steps) x)
      (sym (e ∙ ap (λ xs. finding.Spent k xs) (steps_back steps))) (record {
        keeps = (refl, refl);
        mark = refl;
        found = refl;
        valid = valid;
        listed = λ h. h;
        in_range = λ h. h;
      })

  log_trimmed : (acts kept : List Act) → IsTrimmed clauses acts kept → IsNumbered clauses acts →
      IsBecome clauses heading d i kind (finding.Refuted acts) (finding.Refuted kept)
  unfolding IsValidFinding
  log_trimmed acts kept trimmed numbers =
      let two = trimmed_may_stand clauses PlainTwo acts kept trimmed numbers refl in
      record {
        keeps = trimmed;
        mark = refl;
        found = refl;
        valid = (trimmed.closed, (trimmed_may_stand clauses heading acts kept trimmed numbers may).1);
        listed = λ h. h;
        in_range = λ h. log_in_range d shape clauses i kept trimmed.closed two.1 two.0;
      }

  log_made : (acts : List Act) (g : Finding) → IsMade clauses Refuted acts g →
      IsBecome clauses heading d i kind (finding.Refuted acts) g
  log_made acts (finding.Refuted kept) h = log_trimmed acts kept h.0 h.1
  log_made acts (finding.Shown s t) h = absurd h
  log_made acts (finding.Spent k steps) h = absurd h

  pub become : (f g : Finding) → IsValidFinding clauses was d i kind f → Becomes clauses f g → IsBecome clauses heading d i kind f g
  become (finding.Refuted acts) g valid h = log_made acts g h
  become (finding.Shown s t) g valid h = shown_stays s t g h valid
  become (finding.Spent k steps) g valid h = spent_stays k steps g h valid

-- a mark of a finding that refutes is that of a closed log
pub closed_log : (clauses : List (List ℤ)) (heading : Heading) (d : Desc) (i : Instr) (kind : Kind) (f : Finding) →
    mark_of f ≡ Refuted → IsValidFinding clauses heading d i kind f → IsClosedLog clauses (acts_of f)
unfolding IsValidFinding
closed_log clauses heading d i kind (finding.Refuted acts) e h = h.0
closed_log clauses heading d i kind (finding.Shown s t) e h = absurd (cc)
closed_log clauses heading d i kind (finding.Spent k steps) e h = absurd (cc)

-- ---- what a call asks for, and what it gives

pub log_closed : (d : Desc) (family : Family) (marks : List Mark) (logs : List (List Act)) (log : List Act) (at number instr : ℕ)
    (kind : Kind) (mark : Mark) → AreReady d family marks logs → number ≡ at → instr ≡ instr_of family number →
    kind ≡ kind_of family number → at < length marks → mark ≡ get_or marks number mark → slice_get logs at ≡ Some log →
    mark ≡ Refuted → (i : Instr) → slice_get d.instrs instr ≡ Some i → IsClosedLog (question d i kind) log
log_closed d family marks logs log at number instr kind mark ready same instr_is kind_is below read at_log refuted i there_is =
    let at_mark : slice_get marks at ≡ Some mark =
    slice_get_read marks (length marks) at mark refl below (read ∙ ap (λ n. get_or marks n mark) same) in
    subst (λ k. IsClosedLog (question d i k) log) (sym (kind_is ∙ ap (kind_of family) same))
    (ready.closed at log i (at_mark ∙ ap (λ m. Some m) refuted) at_log
    (ap (slice_get d.instrs) (sym (instr_is ∙ ap (instr_of family) same)) ∙ there_is))

pub made_at : (d : Desc) (family : Family) (number instr : ℕ) (kind : Kind) (mark : Mark) (log : List Act) (f : Finding) →
    instr ≡ instr_of family number → kind ≡ kind_of family number →
    ((i : Instr) → slice_get d.instrs instr ≡ Some i → IsMade (question d i kind) mark log f) → IsMadeAt d family number mark log f
made_at d family number instr kind mark log f instr_is kind_is h = λ i at.
    subst (λ k. IsMade (question d i k) mark log f) kind_is (h i (ap (slice_get d.instrs) instr_is ∙ at))

-- ---- one finding more, before those that are there

-- one list is a front of another, place by place
abbrev pub IsFront : {X : Type 0} → List X → List X → Type 0
IsFront {X} xs ys = (n : ℕ) (x : X) → slice_get xs n ≡ Some x → slice_get ys n ≡ Some x

kept_place : {X : Type 0} (xs : List X) (last : X) → IsFront xs (xs ++ last ∷ [])
kept_place [] last n x e = absurd (cc)
kept_place (y ∷ xs) last zero x e = e
kept_place (y ∷ xs) last (suc n) x e = kept_place xs last n x e

last_place : {X : Type 0} (xs : List X) (last : X) → slice_get (xs ++ last ∷ []) (length xs) ≡ Some last
last_place [] last = refl
last_place (y ∷ xs) last = last_place xs last

pub shorter : {X : Type 0} (whole before after : List X) (last : X) → before ≡ after ++ last ∷ [] → IsFront before whole → IsFront after whole
shorter whole before after last e h = λ n x at. h n x (ap (λ xs. slice_get xs n) e ∙ kept_place after last n x at)

pub at_last : {X : Type 0} (whole before after : List X) (last : X) → before ≡ after ++ last ∷ [] → IsFront before whole →
    slice_get whole (length after) ≡ Some last
at_last whole before after last e h = h (length after) last (ap (λ xs. slice_get xs (length after)) e ∙ last_place after last)

pub none_made : (d : Desc) (family : Family) (marks : List Mark) (logs : List (List Act)) (k : ℕ) → AreMadeFrom d family marks logs k []
none_made d family marks logs k = λ n mark log f em el e. absurd (cc)

pub one_more_made : (d : Desc) (family : Family) (marks : List Mark) (logs : List (List Act)) (k : ℕ) (findings : List Finding)
    (mark : Mark) (log : List Act) (f : Finding) → slice_get marks k ≡ Some mark → slice_get logs k ≡ Some log →
    IsMadeAt d family k mark log f → AreMadeFrom d family marks logs (k + 1) findings → AreMadeFrom d family marks logs k (f ∷ findings)
one_more_made d family marks logs k findings mark log f at_mark at_log one rest = by
  where
    by : AreMadeFrom d family marks logs k (f ∷ findings)
    by zero m l g em el e =
        let same : k ≡ k + 0 = omega arith in
        let same_mark = same_Some mark m (sym at_mark ∙ ap (slice_get marks) same ∙ em) in
        let same_log = same_Some log l (sym at_log ∙ ap (slice_get logs) same ∙ el) in
        subst (λ j. IsMadeAt d family j m l g) same
        (subst (λ x. IsMadeAt d family k m l x) (same_Some f g e)
        (subst (λ x. IsMadeAt d family k m x f) same_log
        (subst (λ x. IsMadeAt d family k x log f) same_mark one)))
    by (suc n) m l g em el e =
        let same : (k + 1) + n ≡ k + suc n = omega arith in
        subst (λ j. IsMadeAt d family j m l g) same
        (rest n m l g (ap (slice_get marks) same ∙ em) (ap (slice_get logs) same ∙ el) e)

-- the last log that is left, and what it makes, before what was made
pub next_made : (d : Desc) (family : Family) (marks : List Mark) (logs before after : List (List Act)) (log : List Act)
    (made next : List Finding) (number : ℕ) (mark : Mark) (f : Finding) → before ≡ after ++ log ∷ [] → next ≡ made ++ f ∷ [] →
    number ≡ length after → length after < length marks → mark ≡ get_or marks number mark →
    slice_get logs (length after) ≡ Some log → IsMadeAt d family number mark log f →
    AreMadeFrom d family marks logs (length before) (reverse made) → AreMadeFrom d family marks logs (length after) (reverse next)
next_made d family marks logs before after log made next number mark f e n same below read at_log one rest =
    let count : length before ≡ length after + 1 = ap length e ∙ length-append after (log ∷ []) in
    let turned : reverse next ≡ f ∷ reverse made = ap reverse n ∙ reverse-append made (f ∷ []) in
    subst (λ fs. AreMadeFrom d family marks logs (length after) fs) (sym turned)
    (one_more_made d family marks logs (length after) (reverse made) mark log f
    (slice_get_read marks (length marks) (length after) mark refl below (read ∙ ap (λ k. get_or marks k mark) same)) at_log
    (subst (λ k. IsMadeAt d family k mark log f) same one)
    (subst (λ k. AreMadeFrom d family marks logs k (reverse made)) count rest))

-- from the first one on
pub from_start : (d : Desc) (family : Family) (marks : List Mark) (logs : List (List Act)) (findings : List Finding) →
    AreMadeFrom d family marks logs 0 findings → (n : ℕ) (mark : Mark) (log : List Act) (f : Finding) → slice_get marks n ≡ Some mark →
    slice_get logs n ≡ Some log → slice_get findings n ≡ Some f → IsMadeAt d family n mark log f
from_start d family marks logs findings made n mark log f em el ef =
    let same : 0 + n ≡ n = omega arith in
    subst (λ k. IsMadeAt d family k mark log f) same
    (made n mark log f (ap (slice_get marks) same ∙ em) (ap (slice_get logs) same ∙ el) ef)
