-- A certificate with one finding exchanged for a right one is valid.
use Rattle.std.proofs.Common.{◌≡◌, ℕ, ◌+◌, ◌*◌, ◌<◌, ◌⊎◌, inl, inr, List, [], ◌∷◌, ◌++◌, length, map, All, Some, refl, sym, ap, subst, ◌∙◌, arith}
use Rattle.std.specs.Prelude.{slice_get, slice_set}
use Rattle.std.proofs.lemmas.List.{length-set, length-map}
use Rattle.std.proofs.lemmas.List.Elements.{All-set, All-tail, All-append, All-map, All-weaker}
use Rattle.pg_ast.specs.declared.tree.Instr.{Instr}
use Rattle.pg_ast.specs.declared.tree.Desc.{Desc}
use Rattle.pg_lang_meaning.specs.States.{shape_of}
use Rattle.pg_lang_valid.specs.Valid.{IsValid}
use Rattle.pg_lang_valid.proofs.ValidFacts.{IsShape-of_valid}
use Rattle.pg_ask.specs.Question.{question}
use Rattle.pg_cert.specs.declared.cert.Family.{Family}
use Rattle.pg_cert.specs.declared.cert.Finding.{Finding}
use Rattle.pg_cert.specs.declared.cert.Finding.TheVariants as finding
use Rattle.pg_cert.specs.declared.report.Report.{Report}
use Rattle.pg_cert.specs.declared.cert.Cert.{Cert}
use Rattle.pg_cert.specs.declared.line.Heading.{Heading}
use Rattle.pg_cert.specs.declared.line.Line.TheVariants.{First, End}
use Rattle.pg_cert.specs.Lines.{IsLine}
use Rattle.pg_cert.specs.Verdicts.{kind_count, mark_of}
use Rattle.pg_cert.specs.Texts.{AreListed, instr_of, kind_of, heading_of, finding_lines, findings_lines, cert_lines, DoFindingWordsFit}
use Rattle.pg_cert.specs.Validity.{IsValidFinding, IsValidCert}
use Rattle.pg_cert.proofs.Fits.{instr_within, cert_fits}
use Rattle.pg_report.specs.Verdicts.{DoMarkWordsFit}
use Rattle.pg_verify.specs.Verified.{IsValidOf}
use Rattle.pg_cert_migrate.proofs.RangeLemmas.{All-front, All-back}
use Rattle.pg_cert_migrate.proofs.MadeLemmas.{there}
use Rattle.pg_prog_base.specs.Imported.{IsRight, IsRightAt, IsReplaced}
use Rattle.pg_prog_base.proofs.LineLemmas.{at_set, heading_removes, set_in_range, right_lines}

module _ (d : Desc) (valid : IsValid d) (made : Cert) (was : IsValidOf (heading_of made.family) d made) (n : ℕ) (l : n < length made.findings)
    (f : Finding) (right : IsRightAt d made.family n f) where
  abbrev heading : Heading
  heading = heading_of made.family

  abbrev findings : List Finding
  findings = slice_set made.findings n f

  abbrev cert : Cert
  cert = record { family = made.family; findings = findings }

  -- the instruction of the finding is there
  instr_at : {P : Type 0} → ((i : Instr) → slice_get d.instrs (instr_of made.family n) ≡ Some i → P) → P
  instr_at {P} go =
      there d (instr_of made.family n) (instr_within made.family n (length made.findings) (length d.instrs) was.valid.whole l) go

  each : (k : ℕ) (g : Finding) (i : Instr) → slice_get findings k ≡ Some g → slice_get d.instrs (instr_of made.family k) ≡ Some i →
      IsValidFinding (question d i (kind_of made.family k)) heading d i (kind_of made.family k) g
  each k g i e at = by (at_set made.findings n f k g e)
    where
      by : ((k ≡ n) × (g ≡ f)) ⊎ (slice_get made.findings k ≡ Some g) →
          IsValidFinding (question d i (kind_of made.family k)) heading d i (kind_of made.family k) g
      by (inl h) =
          subst (λ x. IsValidFinding (question d i (kind_of made.family k)) heading d i (kind_of made.family k) x) (sym h.1)
          (subst (λ m. IsValidFinding (question d i (kind_of made.family m)) heading d i (kind_of made.family m) f) (sym h.0)
          ((right i (subst (λ m. slice_get d.instrs (instr_of made.family m) ≡ Some i) h.0 at)).valid heading (heading_removes made.family)))
      by (inr h) = was.valid.each k g i h at

  is_valid : IsValidCert (question d) heading d cert
  is_valid = record {
    family = was.valid.family;
    whole = length-set made.findings n f ∙ was.valid.whole;
    each = each;
  }

  in_range : All (IsLine (shape_of d)) (cert_lines d heading cert)
  unfolding cert_lines
  in_range =
      let tail = All-tail (IsLine (shape_of d)) (First heading) (findings_lines d made.family 0 made.findings ++ End ∷ []) was.in_range in
      let front = All-front (IsLine (shape_of d)) (First heading ∷ []) (findings_lines d made.family 0 made.findings ++ End ∷ []) was.in_range in
      let from_zero : n ≡ 0 + n = omega arith in
      let inside : n < length d.instrs * kind_count made.family = (let w = was.valid.whole in omega (arith, l, w)) in
      All-append (IsLine (shape_of d)) (First heading ∷ []) (findings_lines d made.family 0 findings ++ End ∷ []) front
      (All-append (IsLine (shape_of d)) (findings_lines d made.family 0 findings) (End ∷ [])
      (set_in_range d made.family 0 n made.findings f
      (All-front (IsLine (shape_of d)) (findings_lines d made.family 0 made.findings) (End ∷ []) tail)
      (subst (λ m. All (IsLine (shape_of d)) (finding_lines d made.family m f)) from_zero
      (instr_at (λ i at. right_lines d (IsShape-of_valid d valid) made.family n inside i at f right))))
      (All-back (IsLine (shape_of d)) (findings_lines d made.family 0 made.findings) (End ∷ []) tail))

  listed : All AreListed findings
  listed = All-set AreListed made.findings n f (instr_at (λ i at. (right i at).listed)) was.listed

  valid_so : IsValidOf heading d cert
  valid_so = record { valid = is_valid; in_range = in_range; listed = listed }

  pub is_replaced : (new : Cert) → new.family ≡ made.family → new.findings ≡ findings → IsReplaced d made n f new
  is_replaced new of_family same = record {
    of_family = of_family;
    there = l;
    findings = same;
    valid = subst (λ c. IsValidOf heading d c) (λ i. record { family = sym of_family i; findings = sym same i }) valid_so;
  }

mark_fits : (w : ℕ) (f : Finding) → DoFindingWordsFit w f → DoMarkWordsFit w (mark_of f)
mark_fits w (finding.Refuted acts) h = tt
mark_fits w (finding.Shown s t) h = h
mark_fits w (finding.Spent k steps) h = tt

-- what is kept of a valid certificate has a mark for each instruction and each kind, and the words of its states fit
module _ (d : Desc) (made cert : Cert) (n : ℕ) (f : Finding) (h : IsReplaced d made n f cert) (report : Report) (family : report.family ≡ cert.family)
    (marks : report.marks ≡ map mark_of cert.findings) where
  pub marks_whole : length report.marks ≡ length d.instrs * kind_count report.family
  marks_whole =
      ap length marks ∙ length-map cert.findings mark_of ∙ h.valid.valid.whole ∙ ap (λ x. length d.instrs * kind_count x) (sym family)

  pub marks_fit : All (DoMarkWordsFit d.word) report.marks
  marks_fit =
      subst (λ ms. All (DoMarkWordsFit d.word) ms) (sym marks)
      (All-map (DoMarkWordsFit d.word) mark_of cert.findings
      (All-weaker (DoFindingWordsFit d.word) (λ g. DoMarkWordsFit d.word (mark_of g)) (mark_fits d.word) cert.findings
      (cert_fits (question d) (heading_of made.family) d cert h.valid.listed h.valid.valid)))
