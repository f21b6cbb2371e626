-- The logs that stand in the lines of a certificate are those of its findings, and no log has more acts than the text has bytes.
use Rattle.std.proofs.Common.{◌≡◌, ℕ, zero, suc, ◌*◌, ◌≤◌, Bool, true, false, if◌then◌else◌, List, [], ◌∷◌, ◌++◌, length, map, Some, refl, sym, ap, ◌∙◌, arith, append_assoc, append-nil, length-append}
use Rattle.std.specs.Prelude.{slice_get, ◌==◌, Result, Ok, Err, OnOk}
use Rattle.std.specs.List.{list_all}
use Rattle.std.proofs.lemmas.List.{length-map}
use Rattle.std.proofs.lemmas.Option.{same_Some}
use Rattle.pg_word.specs.declared.shape.Shape.{Shape}
use Rattle.pg_word.specs.declared.sparse.Sparse.{Sparse}
use Rattle.pg_word.specs.Sparse.{storage_of}
use Rattle.pg_ast.specs.declared.tree.Desc.{Desc}
use Rattle.pg_lang_meaning.specs.States.{shape_of}
use Rattle.pg_image.specs.Lines.{line_cells, line_words, line_count}
use Rattle.pg_proof.specs.declared.step.Step.{Step as Steps}
use Rattle.pg_proof.specs.declared.step.Act.{Act}
use Rattle.pg_proof.specs.declared.step.Act.TheVariants as act
use Rattle.pg_cert.specs.declared.cert.Family.{Family}
use Rattle.pg_cert.specs.declared.cert.Finding.{Finding}
use Rattle.pg_cert.specs.declared.cert.Finding.TheVariants as finding
use Rattle.pg_cert.specs.declared.cert.Cert.{Cert}
use Rattle.pg_cert.specs.declared.line.Heading.{Heading}
use Rattle.pg_cert.specs.declared.line.Line.{Line}
use Rattle.pg_cert.specs.declared.line.Line.TheVariants.{Step, Cells, End}
use Rattle.pg_cert.specs.Lines.{line_text}
use Rattle.pg_cert.specs.Reading.{but_last}
use Rattle.pg_cert.specs.Texts.{row_lines, rows_before, state_lines, act_line, body_lines, finding_lines, findings_lines, cert_lines, lines_text, cert_text}
use Rattle.pg_cert.proofs.Said.{text_ends}
use Rattle.pg_cert_migrate.specs.Logs.{with_act, with_line, with_lines, logs_of}

-- ---- lines, one after another

pub act_added : (logs : List (List Act)) (log : List Act) (a : Act) → with_act (logs ++ log ∷ []) a ≡ logs ++ (log ++ a ∷ []) ∷ []
act_added [] log a = refl
act_added (x ∷ []) log a = refl
act_added (x ∷ y ∷ logs) log a = ap (λ ls. x ∷ ls) (act_added (y ∷ logs) log a)

pub OnOk_then : {A E P Q : Type 0} (r : Result A E) → (P → Q) → OnOk r P → OnOk r Q
OnOk_then (Ok a) f h = f h
OnOk_then (Err e) f h = h

lines_joined : (xs ys : List Line) (logs : List (List Act)) → with_lines logs (xs ++ ys) ≡ with_lines (with_lines logs xs) ys
lines_joined [] ys logs = refl
lines_joined (x ∷ xs) ys logs = lines_joined xs ys (with_line logs x)

-- ---- what stands below a header

act_line_added : (logs : List (List Act)) (log : List Act) (a : Act) →
    with_line (logs ++ log ∷ []) (act_line a) ≡ logs ++ (log ++ a ∷ []) ∷ []
act_line_added logs log (act.Add step) = act_added logs log (act.Add step)
act_line_added logs log (act.Remove numbers) = act_added logs log (act.Remove numbers)

acts_added : (acts : List Act) (logs : List (List Act)) (log : List Act) →
    with_lines (logs ++ log ∷ []) (map act_line acts) ≡ logs ++ (log ++ acts) ∷ []
acts_added [] logs log = ap (λ l. logs ++ l ∷ []) (sym (append-nil log))
acts_added (a ∷ acts) logs log =
    ap (λ ls. with_lines ls (map act_line acts)) (act_line_added logs log a)
    ∙ acts_added acts logs (log ++ a ∷ [])
    ∙ ap (λ l. logs ++ l ∷ []) (append_assoc log (a ∷ []) acts)

step_lines : (steps : List Steps) → map Step steps ≡ map act_line (map act.Add steps)
step_lines [] = refl
step_lines (step ∷ steps) = ap (λ ls. Step step ∷ ls) (step_lines steps)

row_over : (logs : List (List Act)) (first : ℕ) (words : List ℕ) → with_lines logs (row_lines first words) ≡ logs
row_over logs first words = by (list_all (λ word. word == 0) words)
  where
    by : (b : Bool) → with_lines logs (if b then [] else Cells first words ∷ []) ≡ logs
    by true = refl
    by false = refl

rows_over : (k : ℕ) (cells : List ℕ) (logs : List (List Act)) → with_lines logs (rows_before k cells) ≡ logs
unfolding rows_before
rows_over zero cells logs = refl
rows_over (suc k) cells logs =
    lines_joined (rows_before k cells) (row_lines (line_cells * k) (line_words k cells)) logs
    ∙ row_over (with_lines logs (rows_before k cells)) (line_cells * k) (line_words k cells)
    ∙ rows_over k cells logs

state_over : (s : Sparse) (logs : List (List Act)) → with_lines logs (state_lines s) ≡ logs
state_over s logs = rows_over (line_count s.size) (storage_of s.size s.cells) logs

-- the log of a finding. Two states have none
abbrev pub acts_of : Finding → List Act
acts_of (finding.Refuted acts) = acts
acts_of (finding.Shown s t) = []
acts_of (finding.Spent k steps) = map act.Add steps

body_added : (f : Finding) (logs : List (List Act)) → with_lines (logs ++ [] ∷ []) (body_lines f) ≡ logs ++ acts_of f ∷ []
body_added (finding.Refuted acts) logs = acts_added acts logs []
body_added (finding.Shown s t) logs =
    lines_joined (state_lines s) (state_lines t) (logs ++ [] ∷ [])
    ∙ state_over t (with_lines (logs ++ [] ∷ []) (state_lines s))
    ∙ state_over s (logs ++ [] ∷ [])
body_added (finding.Spent k steps) logs =
    ap (with_lines (logs ++ [] ∷ [])) (step_lines steps) ∙ acts_added (map act.Add steps) logs []

-- ---- findings

findings_added : (d : Desc) (family : Family) (n : ℕ) (fs : List Finding) (logs : List (List Act)) →
    with_lines logs (findings_lines d family n fs) ≡ logs ++ map acts_of fs
unfolding findings_lines
findings_added d family n [] logs = sym (append-nil logs)
findings_added d family n (f ∷ fs) logs =
    lines_joined (finding_lines d family n f) (findings_lines d family (suc n) fs) logs
    ∙ ap (λ ls. with_lines ls (findings_lines d family (suc n) fs)) (body_added f logs)
    ∙ findings_added d family (suc n) fs (logs ++ acts_of f ∷ [])
    ∙ append_assoc logs (acts_of f ∷ []) (map acts_of fs)

pub cert_logs : (d : Desc) (heading : Heading) (cert : Cert) → logs_of (cert_lines d heading cert) ≡ map acts_of cert.findings
unfolding cert_lines
cert_logs d heading cert =
    lines_joined (findings_lines d cert.family 0 cert.findings) (End ∷ []) []
    ∙ findings_added d cert.family 0 cert.findings []

-- ---- how many acts a log has

line_some : (shape : Shape) (line : Line) → 1 ≤ length (line_text shape line)
line_some shape line =
    let ends = ap length (text_ends shape line) in
    let count = length-append (but_last (line_text shape line)) (10 ∷ []) in
    omega (arith, ends, count)

lines_few : (shape : Shape) (lines : List Line) → length lines ≤ length (lines_text shape lines)
unfolding lines_text
lines_few shape [] = omega arith
lines_few shape (line ∷ lines) =
    let some = line_some shape line in
    let rest = lines_few shape lines in
    let count = length-append (line_text shape line) (lines_text shape lines) in
    omega (arith, some, rest, count)

acts_few : (f : Finding) → length (acts_of f) ≤ length (body_lines f)
acts_few (finding.Refuted acts) = let count = length-map acts act_line in omega (arith, count)
acts_few (finding.Shown s t) = omega arith
acts_few (finding.Spent k steps) =
    let count = length-map steps (λ (step : Steps). act.Add step) in
    let lines = length-map steps (λ (step : Steps). Step step) in
    omega (arith, count, lines)

log_within : (d : Desc) (family : Family) (fs : List Finding) (n k : ℕ) (f : Finding) → slice_get fs k ≡ Some f →
    length (acts_of f) ≤ length (findings_lines d family n fs)
unfolding findings_lines
log_within d family [] n k f e = absurd (cc)
log_within d family (g ∷ fs) n zero f e =
    let few = acts_few g in
    let same = ap (λ x. length (acts_of x)) (same_Some g f e) in
    let count = length-append (finding_lines d family n g) (findings_lines d family (suc n) fs) in
    omega (arith, few, same, count)
log_within d family (g ∷ fs) n (suc k) f e =
    let few = log_within d family fs (suc n) k f e in
    let count = length-append (finding_lines d family n g) (findings_lines d family (suc n) fs) in
    omega (arith, few, count)

pub log_few : (d : Desc) (heading : Heading) (cert : Cert) (n : ℕ) (f : Finding) → slice_get cert.findings n ≡ Some f →
    length (acts_of f) ≤ length (cert_text d heading cert)
unfolding cert_lines
log_few d heading cert n f e =
    let few = log_within d cert.family cert.findings 0 n f e in
    let lines = lines_few (shape_of d) (cert_lines d heading cert) in
    let count = length-append (findings_lines d cert.family 0 cert.findings) (End ∷ []) in
    omega (arith, few, lines, count)
