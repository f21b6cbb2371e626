-- All findings of a text that was taken, made anew, are a valid certificate.
use Rattle.std.proofs.Common.{◌≡◌, ℕ, zero, suc, ◌<◌, ◌≤◌, Bool, true, false, if◌then◌else◌, List, [], ◌∷◌, ◌++◌, length, map, get_or, All, Some, Ok, Err, refl, sym, ap, subst, ◌∙◌, arith}
use Rattle.std.specs.Prelude.{slice_get, nat_lt}
use Rattle.std.specs.Option.{option_map}
use Rattle.std.proofs.lemmas.List.{length-map}
use Rattle.std.proofs.lemmas.List.Elements.{All-nil, All-cons, All-head, All-tail, All-append}
use Rattle.std.proofs.lemmas.Option.{same_Some, slice_get-map, slice_get-get_or, slice_get_within}
use mathlib.Core.HLevel.{is_prop→PathP}
use Rattle.pg_word.specs.declared.shape.Shape.{Shape}
use Rattle.pg_word.specs.Sparse.{AreWithin, AreWithin-prop}
use Rattle.pg_word.specs.declared.sparse.Sparse.{Sparse}
use Rattle.pg_ast.specs.declared.tree.Instr.{Instr}
use Rattle.pg_ast.specs.declared.tree.Desc.{Desc}
use Rattle.pg_lang_meaning.specs.States.{shape_of}
use Rattle.pg_lang_valid.specs.Valid.{IsValid}
use Rattle.pg_lang_valid.proofs.ValidFacts.{IsShape-of_valid}
use Rattle.pg_proof.specs.declared.step.Act.{Act}
use Rattle.pg_proof.specs.Log.{IsClosedLog}
use Rattle.pg_ask.specs.Question.{question}
use Rattle.pg_cert.specs.declared.cert.Family.{Family}
use Rattle.pg_cert.specs.declared.cert.Family.TheVariants.{Plain, Hybrid}
use Rattle.pg_cert.specs.declared.cert.Finding.{Finding}
use Rattle.pg_cert.specs.declared.cert.Cert.{Cert}
use Rattle.pg_cert.specs.declared.line.Heading.{Heading}
use Rattle.pg_cert.specs.declared.line.Line.TheVariants.{First, Header, End}
use Rattle.pg_cert.specs.declared.report.Mark.{Mark}
use Rattle.pg_cert.specs.declared.report.Mark.TheVariants.{Refuted, Shown, Spent}
use Rattle.pg_cert.specs.declared.report.Report.{Report}
use Rattle.pg_cert.specs.Verdicts.{mark_of}
use Rattle.pg_cert.specs.Lines.{is_line, IsLine}
use Rattle.pg_cert.specs.Texts.{AreListed, instr_of, kind_of, name_of, found_of, body_lines, finding_lines, findings_lines, cert_lines, cert_text, family_of, heading_of}
use Rattle.pg_cert.specs.Validity.{may_remove, IsValidCert}
use Rattle.pg_cert.proofs.Fits.{instr_within}
use Rattle.pg_cert_drawn.specs.Drawn.{Drawn, drawn_of}
use Rattle.pg_verify.specs.declared.fault.VerifyFault.TheVariants as fault
use Rattle.pg_verify.specs.Reader.{Progress, Reader}
use Rattle.pg_verify.specs.Feeding.{most_bytes, kept, verified, verified_whole, IsReportOf, IsReported}
use Rattle.pg_verify.specs.Verified.{IsValidOf, Spells}
use Rattle.pg_verify.proofs.StepLemmas.{same_ok}
use Rattle.pg_verify.proofs.SpellLemmas.{taken_texts_spell}
use Rattle.pg_verify.proofs.TakeLemmas.{valid_texts_are_taken}
use Rattle.pg_cert_migrate.specs.Logs.{AreLogsOf}
use Rattle.pg_cert_migrate.specs.Made.{AreReady, AreMade}
use Rattle.pg_cert_migrate.specs.Migrated.{IsMigrated}
use Rattle.pg_cert_migrate.proofs.LogLemmas.{acts_of, cert_logs, log_few}
use Rattle.pg_cert_migrate.proofs.RangeLemmas.{All-front, All-back}
use Rattle.pg_cert_migrate.proofs.MadeLemmas.{IsBecome, become, closed_log, there, from_start}

-- ---- marks

same_sparse : (x y : Sparse) → drawn_of x ≡ drawn_of y → x ≡ y
same_sparse x y e =
    let s = ap (λ (d : Drawn). d.size) e in
    let p = ap (λ (d : Drawn). d.psw) e in
    let c = ap (λ (d : Drawn). d.cells) e in
    λ i. record { size = s i; psw = p i; cells = c i; within = is_prop→PathP (λ j. AreWithin (s j) (c j)) (λ j. AreWithin-prop (s j) (c j)) x.within y.within i }

same_mark : (m n : Mark) → kept m ≡ kept n → m ≡ n
same_mark Refuted Refuted e = cc
same_mark Refuted (Shown s t) e = absurd (cc)
same_mark Refuted (Spent k) e = absurd (cc)
same_mark (Shown s t) Refuted e = absurd (cc)
same_mark (Shown s t) (Shown x y) e =
    let first : drawn_of s ≡ drawn_of x = cc in
    let second : drawn_of t ≡ drawn_of y = cc in
    let a = same_sparse s x first in
    let b = same_sparse t y second in
    λ i. Shown (a i) (b i)
same_mark (Shown s t) (Spent k) e = absurd (cc)
same_mark (Spent k) Refuted e = absurd (cc)
same_mark (Spent k) (Shown s t) e = absurd (cc)
same_mark (Spent k) (Spent n) e = let same : k ≡ n = cc in ap (λ b. Spent b) same

same_marks : (ms : List Mark) (fs : List Finding) → map kept ms ≡ map (λ f. kept (mark_of f)) fs → ms ≡ map mark_of fs
same_marks [] [] e = refl
same_marks [] (f ∷ fs) e = absurd (cc)
same_marks (m ∷ ms) [] e = absurd (cc)
same_marks (m ∷ ms) (f ∷ fs) e =
    let first : kept m ≡ kept (mark_of f) = cc in
    let rest : map kept ms ≡ map (λ g. kept (mark_of g)) fs = cc in
    let a = same_mark m (mark_of f) first in
    let b = same_marks ms fs rest in
    λ i. a i ∷ b i

-- ---- a text that was taken

pub record IsTold (d : Desc) (family : Family) (bytes : List ℕ) (report : Report) : Type 0 where
  pub progress : Progress
  pub taken : verified d family bytes ≡ Ok progress
  pub is : IsReportOf progress report

pub told : (d : Desc) (family : Family) (bytes : List ℕ) (report : Report) → IsReported (verified_whole d family bytes) report →
    IsTold d family bytes report
told d family bytes report h = at (nat_lt most_bytes (length bytes)) (verified d family bytes) refl h
  where
    at : (b : Bool) (r : Reader) → verified d family bytes ≡ r → IsReported (if b then Err fault.Long else r) report →
        IsTold d family bytes report
    at true r e h = absurd h
    at false (Ok p) e h = record { progress = p; taken = e; is = h }
    at false (Err f) e h = absurd h

-- what is at a place of a mapped list
record IsImage {A B : Type 0} (v : A → B) (xs : List A) (n : ℕ) (y : B) : Type 0 where
  from : A
  at : slice_get xs n ≡ Some from
  is : v from ≡ y

image : {A B : Type 0} (v : A → B) (xs : List A) (n : ℕ) (y : B) → slice_get (map v xs) n ≡ Some y → IsImage v xs n y
image v [] n y e = absurd (cc)
image v (x ∷ xs) zero y e = record { from = x; at = refl; is = same_Some (v x) y e }
image v (x ∷ xs) (suc n) y e = let h = image v xs n y e in record { from = h.from; at = h.at; is = h.is }

mapped : {A B : Type 0} (v : A → B) (xs : List A) (n : ℕ) (x : A) → slice_get xs n ≡ Some x → slice_get (map v xs) n ≡ Some (v x)
mapped v xs n x e = slice_get-map v xs n ∙ ap (option_map v) e

-- two lists of one length, place by place
module _ {A B : Type 0} where
  pairs_mapped : {C : Type 0} (v : A → C) (w : B → C) (xs : List A) (ys : List B) → length ys ≡ length xs →
      ((n : ℕ) (x : A) (y : B) → slice_get xs n ≡ Some x → slice_get ys n ≡ Some y → w y ≡ v x) → map w ys ≡ map v xs
  pairs_mapped v w [] [] l h = refl
  pairs_mapped v w [] (y ∷ ys) l h = absurd (omega arith)
  pairs_mapped v w (x ∷ xs) [] l h = absurd (omega arith)
  pairs_mapped v w (x ∷ xs) (y ∷ ys) l h =
      let first = h 0 x y refl refl in
      let rest = pairs_mapped v w xs ys (omega arith) (λ n a b e f. h (suc n) a b e f) in
      λ i. first i ∷ rest i

heading_family : (family : Family) → family_of (heading_of family) ≡ family
heading_family Plain = refl
heading_family Hybrid = refl

heading_removes : (family : Family) → may_remove (heading_of family) ≡ true
heading_removes Plain = refl
heading_removes Hybrid = refl

-- ---- lines

-- what is asked of two findings at one place
record IsLined (d : Desc) (f g : Finding) : Type 0 where
  found : found_of g ≡ found_of f
  body : All (IsLine (shape_of d)) (body_lines f) → All (IsLine (shape_of d)) (body_lines g)

first_line : (d : Desc) (heading : Heading) → IsLine (shape_of d) (First heading)
unfolding is_line
first_line d heading = refl

module _ (d : Desc) (family : Family) where
  findings_in_range : (n : ℕ) (xs ys : List Finding) → length ys ≡ length xs →
      ((k : ℕ) (x y : Finding) → slice_get xs k ≡ Some x → slice_get ys k ≡ Some y → IsLined d x y) →
      All (IsLine (shape_of d)) (findings_lines d family n xs) → All (IsLine (shape_of d)) (findings_lines d family n ys)
  unfolding findings_lines
  findings_in_range n [] [] l h all = All-nil (IsLine (shape_of d))
  findings_in_range n [] (y ∷ ys) l h all = absurd (omega arith)
  findings_in_range n (x ∷ xs) [] l h all = absurd (omega arith)
  findings_in_range n (x ∷ xs) (y ∷ ys) l h all =
      let name : List ℕ = name_of d (instr_of family n) in
      let one = h 0 x y refl refl in
      let front = All-front (IsLine (shape_of d)) (finding_lines d family n x) (findings_lines d family (suc n) xs) all in
      let back = All-back (IsLine (shape_of d)) (finding_lines d family n x) (findings_lines d family (suc n) xs) all in
      All-append (IsLine (shape_of d)) (finding_lines d family n y) (findings_lines d family (suc n) ys)
      (All-cons (IsLine (shape_of d)) (Header name (kind_of family n) (found_of y)) (body_lines y)
      (subst (λ o. IsLine (shape_of d) (Header name (kind_of family n) o)) (sym one.found)
      (All-head (IsLine (shape_of d)) (Header name (kind_of family n) (found_of x)) (body_lines x) front))
      (one.body (All-tail (IsLine (shape_of d)) (Header name (kind_of family n) (found_of x)) (body_lines x) front)))
      (findings_in_range (suc n) xs ys (omega arith) (λ k a b e f. h (suc k) a b e f) back)

-- ---- all findings

module _ (d : Desc) (valid : IsValid d) (old : Cert) (heading : Heading) (was : IsValidOf heading d old) where
  ready : (marks : List Mark) (logs : List (List Act)) → marks ≡ map mark_of old.findings → logs ≡ map acts_of old.findings →
      length (cert_text d heading old) ≤ most_bytes → AreReady d old.family marks logs
  ready marks logs em el room = record {
    whole = ap length em ∙ length-map old.findings mark_of ∙ was.valid.whole;
    one_each = ap length el ∙ length-map old.findings acts_of ∙ sym (length-map old.findings mark_of) ∙ sym (ap length em);
    few = λ n log e.
        let h = image acts_of old.findings n log (sym (ap (λ ls. slice_get ls n) el) ∙ e) in
        let within = log_few d heading old n h.from h.at in
        let same = ap length h.is in
        omega (arith, within, same, room);
    closed = λ n log i me le at.
        let h = image acts_of old.findings n log (sym (ap (λ ls. slice_get ls n) el) ∙ le) in
        let mark : Some (mark_of h.from) ≡ Some Refuted =
        sym (mapped mark_of old.findings n h.from h.at) ∙ sym (ap (λ ms. slice_get ms n) em) ∙ me in
        subst (λ l. IsClosedLog (question d i (kind_of old.family n)) l) h.is
        (closed_log (question d i (kind_of old.family n)) heading d i (kind_of old.family n) h.from
        (same_Some (mark_of h.from) Refuted mark) (was.valid.each n h.from i h.at at));
  }

  -- the instruction of a finding is there
  instr_at : {P : Type 0} (n : ℕ) → n < length old.findings → ((i : Instr) → slice_get d.instrs (instr_of old.family n) ≡ Some i → P) → P
  instr_at {P} n l go =
      there d (instr_of old.family n) (instr_within old.family n (length old.findings) (length d.instrs) was.valid.whole l) go

  module _ (gs : List Finding) (made : AreMade d old.family (map mark_of old.findings) (map acts_of old.findings) gs) where
    abbrev cert : Cert
    cert = record { family = old.family; findings = gs }

    many : length gs ≡ length old.findings
    many = made.whole ∙ length-map old.findings mark_of

    at : (n : ℕ) (f g : Finding) (i : Instr) → slice_get old.findings n ≡ Some f → slice_get gs n ≡ Some g →
        slice_get d.instrs (instr_of old.family n) ≡ Some i →
        IsBecome (question d i (kind_of old.family n)) (heading_of old.family) d i (kind_of old.family n) f g
    at n f g i ef eg ei =
        become (question d i (kind_of old.family n)) heading (heading_of old.family) (heading_removes old.family) d
        (IsShape-of_valid d valid) i (kind_of old.family n) f g (was.valid.each n f i ef ei)
        (from_start d old.family (map mark_of old.findings) (map acts_of old.findings) gs made.made n (mark_of f) (acts_of f) g
        (mapped mark_of old.findings n f ef) (mapped acts_of old.findings n f ef) eg i ei)

    same_mark_at : (n : ℕ) (f g : Finding) → slice_get old.findings n ≡ Some f → slice_get gs n ≡ Some g → mark_of g ≡ mark_of f
    same_mark_at n f g ef eg = instr_at n (slice_get_within old.findings n f ef) (λ i ei. (at n f g i ef eg ei).mark)

    marks_stay : map mark_of gs ≡ map mark_of old.findings
    marks_stay = pairs_mapped mark_of mark_of old.findings gs many same_mark_at

    -- the finding that one was made of
    behind : (n : ℕ) (g : Finding) → n < length gs → slice_get old.findings n ≡ Some (get_or old.findings n g)
    behind n g l = slice_get-get_or old.findings n g (let m = many in omega (arith, m, l))

    new_valid : IsValidCert (question d) (heading_of old.family) d cert
    new_valid = record {
      family = heading_family old.family;
      whole = many ∙ was.valid.whole;
      each = λ n g i eg ei. (at n (get_or old.findings n g) g i (behind n g (slice_get_within gs n g eg)) eg ei).valid;
    }

    new_listed : All AreListed gs
    new_listed = λ n g l.
        let m : n < length old.findings = (let same = many in omega (arith, same, l)) in
        instr_at n m (λ i ei.
        (at n (get_or old.findings n g) (get_or gs n g) i (behind n g l) (slice_get-get_or gs n g l) ei).listed (was.listed n g m))

    lined_at : (n : ℕ) (f g : Finding) → slice_get old.findings n ≡ Some f → slice_get gs n ≡ Some g → IsLined d f g
    lined_at n f g ef eg = instr_at n (slice_get_within old.findings n f ef) (λ i ei.
        let h = at n f g i ef eg ei in
        record { found = h.found; body = h.in_range })

    new_in_range : All (IsLine (shape_of d)) (cert_lines d (heading_of old.family) cert)
    unfolding cert_lines
    new_in_range =
        let tail = All-tail (IsLine (shape_of d)) (First heading) (findings_lines d old.family 0 old.findings ++ End ∷ []) was.in_range in
        All-cons (IsLine (shape_of d)) (First (heading_of old.family)) (findings_lines d old.family 0 gs ++ End ∷ [])
        (first_line d (heading_of old.family))
        (All-append (IsLine (shape_of d)) (findings_lines d old.family 0 gs) (End ∷ [])
        (findings_in_range d old.family 0 old.findings gs many lined_at
        (All-front (IsLine (shape_of d)) (findings_lines d old.family 0 old.findings) (End ∷ []) tail))
        (All-back (IsLine (shape_of d)) (findings_lines d old.family 0 old.findings) (End ∷ []) tail))

    migrated : (bytes : List ℕ) → bytes ≡ cert_text d heading old → IsMigrated d old.family bytes cert
    migrated bytes text = record {
      old = old;
      heading = heading;
      text = text;
      was = was;
      old_family = refl;
      new_family = refl;
      now = record { valid = new_valid; in_range = new_in_range; listed = new_listed };
      keeps = λ n f g i ef eg ei. (at n f g i ef eg ei).keeps;
      marks = marks_stay;
    }

-- ---- a text that was taken, made anew

pub record IsAnew (d : Desc) (family : Family) (bytes : List ℕ) (report : Report) (gs : List Finding) : Type 0 where
  pub migrated : IsMigrated d family bytes (record { family = family; findings = gs })
  pub marks : report.marks ≡ map mark_of gs
  pub of_family : report.family ≡ family

module _ (d : Desc) (valid : IsValid d) (family : Family) (bytes : List ℕ) (report : Report) (logs : List (List Act))
    (reported : IsReported (verified_whole d family bytes) report) (read : AreLogsOf (shape_of d) bytes logs) where
  abbrev is_told : IsTold d family bytes report
  is_told = told d family bytes report reported

  abbrev spelled : Spells d family bytes is_told.progress
  spelled = taken_texts_spell d family bytes is_told.progress is_told.taken

  report_marks : report.marks ≡ map mark_of spelled.cert.findings
  report_marks = same_marks report.marks spelled.cert.findings (is_told.is.marks ∙ spelled.marks)

  read_logs : logs ≡ map acts_of spelled.cert.findings
  read_logs = read (cert_lines d spelled.heading spelled.cert) spelled.valid.in_range spelled.text ∙ cert_logs d spelled.heading spelled.cert

  room : length (cert_text d spelled.heading spelled.cert) ≤ most_bytes
  room = subst (λ bs. length bs ≤ most_bytes) spelled.text spelled.within

  are_ready : AreReady d family report.marks logs
  are_ready = subst (λ fam. AreReady d fam report.marks logs) spelled.of_family
      (ready d valid spelled.cert spelled.heading spelled.valid report.marks logs report_marks read_logs room)

  report_family : report.family ≡ family
  report_family =
      let t = valid_texts_are_taken d spelled.heading spelled.cert valid spelled.valid room in
      let same = same_ok t.progress is_told.progress
      (sym t.taken ∙ ap (verified d spelled.cert.family) (sym spelled.text) ∙ ap (λ fam. verified d fam bytes) spelled.of_family ∙ is_told.taken) in
      is_told.is.family ∙ sym (ap (λ (p : Progress). p.family) same) ∙ t.family ∙ spelled.of_family

  are_anew : (gs : List Finding) → AreMade d family report.marks logs gs → IsAnew d family bytes report gs
  are_anew gs made =
      let a = subst (λ fam. AreMade d fam report.marks logs gs) (sym spelled.of_family) made in
      let b = subst (λ ms. AreMade d spelled.cert.family ms logs gs) report_marks a in
      let c = subst (λ ls. AreMade d spelled.cert.family (map mark_of spelled.cert.findings) ls gs) read_logs b in
      record {
        migrated = subst (λ fam. IsMigrated d fam bytes (record { family = fam; findings = gs })) spelled.of_family
            (migrated d valid spelled.cert spelled.heading spelled.valid gs c bytes spelled.text);
        marks = report_marks ∙ sym (marks_stay d valid spelled.cert spelled.heading spelled.valid gs c);
        of_family = report_family;
      }

-- the same of a shape and marks that are those
module _ (d : Desc) (valid : IsValid d) (family : Family) (bytes : List ℕ) (report : Report) (logs : List (List Act)) (shape : Shape)
    (marks : List Mark) (reported : IsReported (verified_whole d family bytes) report) (shape_is : shape ≡ shape_of d)
    (read : AreLogsOf shape bytes logs) (marks_are : marks ≡ report.marks) where
  read_so : AreLogsOf (shape_of d) bytes logs
  read_so = subst (λ s. AreLogsOf s bytes logs) shape_is read

  pub ready_so : AreReady d family marks logs
  ready_so = subst (λ ms. AreReady d family ms logs) (sym marks_are) (are_ready d valid family bytes report logs reported read_so)

  pub anew_so : (gs : List Finding) → AreMade d family marks logs gs → IsAnew d family bytes report gs
  anew_so gs made =
      are_anew d valid family bytes report logs reported read_so gs (subst (λ ms. AreMade d family ms logs gs) marks_are made)
