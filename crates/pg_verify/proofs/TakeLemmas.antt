-- The text of a valid certificate is taken.
use Rattle.std.proofs.Common.{◌≡◌, ◌⊎◌, inl, inr, ℕ, suc, ◌+◌, ◌*◌, ◌<◌, ◌≤◌, Bool, true, false, if◌then◌else◌, List, [], ◌∷◌, ◌++◌, length, map, get_or, None, Some, Ok, All, refl, sym, ap, subst, ◌∙◌, arith, append_assoc, append-nil, length-append, slice_get}
use Rattle.std.proofs.lemmas.Bool.{eq-eqb}
use Rattle.std.proofs.lemmas.List.{length-map}
use Rattle.std.proofs.lemmas.List.Elements.{All-head, All-tail}
use Rattle.std.proofs.lemmas.Option.{slice_get_cases}
use Rattle.pg_word.specs.Shape.{IsShape}
use Rattle.pg_ast.specs.declared.tree.Instr.{Instr}
use Rattle.pg_ast.specs.declared.tree.Desc.{Desc}
use Rattle.pg_lang_meaning.specs.States.{shape_of}
use Rattle.pg_lang_valid.specs.Valid.{IsValid}
use Rattle.pg_lang_valid.proofs.ValidFacts.{IsShape-of_valid}
use Rattle.pg_ask.specs.Question.{question}
use Rattle.pg_cert.specs.declared.cert.Family.{Family}
use Rattle.pg_cert.specs.declared.cert.Family.TheVariants.{Plain, Hybrid}
use Rattle.pg_cert.specs.declared.cert.Finding.{Finding}
use Rattle.pg_cert.specs.declared.cert.Cert.{Cert}
use Rattle.pg_cert.specs.declared.line.Heading.{Heading}
use Rattle.pg_cert.specs.declared.line.Line.TheVariants as line
use Rattle.pg_cert.specs.Verdicts.{kind_count, mark_of}
use Rattle.pg_cert.specs.Lines.{line_text}
use Rattle.pg_cert.specs.Texts.{family_of, instr_of, kind_of, finding_lines, findings_lines, cert_lines, lines_text, cert_text, AreListed}
use Rattle.pg_cert.specs.Validity.{may_remove, IsValidFinding}
use Rattle.pg_verify.specs.Reader.{Open, Fresh, Between, Ended, Mark, Progress}
use Rattle.pg_verify.specs.Taking.{then_take, misplaced, missing, with_open, closed, ended, after_end, same_family, after_first, after_form}
use Rattle.pg_verify.specs.Feeding.{most_bytes, begun, fed, finished, verified, kept}
use Rattle.pg_verify.specs.Verified.{IsValidOf, IsTaken}
use Rattle.pg_verify.proofs.ReachLemmas.{spot, Fits, fits_front, fits_back, Reaches, reaches_none, reaches_then, reaches_cons}
use Rattle.pg_verify.proofs.FindingReach.{IsReady, instr_small, finding_reaches}

findings_lines-cons : (d : Desc) (family : Family) (n : ℕ) (f : Finding) (fs : List Finding) →
    findings_lines d family n (f ∷ fs) ≡ finding_lines d family n f ++ findings_lines d family (suc n) fs
unfolding findings_lines
findings_lines-cons d family n f fs = refl

findings_lines-nil : (d : Desc) (family : Family) (n : ℕ) → findings_lines d family n [] ≡ []
unfolding findings_lines
findings_lines-nil d family n = refl

abbrev marks_of : List Finding → List Mark
marks_of fs = map (λ f. kept (mark_of f)) fs

module _ (d : Desc) (valid : IsValid d) (numbers : IsShape (shape_of d)) (family : Family) (heading : Heading) where
  abbrev removes : Bool
  removes = may_remove heading

  -- the findings from number n on are valid
  abbrev AreDue : ℕ → List Finding → Type 0
  AreDue n fs =
      (j : ℕ) (f : Finding) (i : Instr) → slice_get fs j ≡ Some f →
      slice_get d.instrs (instr_of family (n + j)) ≡ Some i →
      IsValidFinding (question d i (kind_of family (n + j))) heading d i (kind_of family (n + j)) f

  due_first : (n : ℕ) (f : Finding) (fs : List Finding) (i : Instr) → AreDue n (f ∷ fs) →
      slice_get d.instrs (instr_of family n) ≡ Some i →
      IsValidFinding (question d i (kind_of family n)) heading d i (kind_of family n) f
  due_first n f fs i h at =
      let e : n + 0 ≡ n = omega arith in
      subst (λ m. IsValidFinding (question d i (kind_of family m)) heading d i (kind_of family m) f) e
      (h 0 f i refl (ap (λ m. slice_get d.instrs (instr_of family m)) e ∙ at))

  due_rest : (n : ℕ) (f : Finding) (fs : List Finding) → AreDue n (f ∷ fs) → AreDue (suc n) fs
  due_rest n f fs h = λ j g i get at.
      let e : n + suc j ≡ suc n + j = omega arith in
      subst (λ m. IsValidFinding (question d i (kind_of family m)) heading d i (kind_of family m) g) e
      (h (suc j) g i get (ap (λ m. slice_get d.instrs (instr_of family m)) e ∙ at))

  pub findings_reach : (fs : List Finding) (m : ℕ) (to from : List Mark) (o : Open) (n k : ℕ) → length to ≡ m →
      IsReady d family removes to from o → AreDue m fs → All AreListed fs →
      m + length fs ≤ length d.instrs * kind_count family →
      Fits d k (findings_lines d family m fs) →
      Reaches d family removes (spot d family removes from o n k) (findings_lines d family m fs)
      (IsReady d family removes (to ++ marks_of fs))
  findings_reach [] m to from o n k len ready due listed few fits =
      subst (λ ls. Reaches d family removes (spot d family removes from o n k) ls (IsReady d family removes (to ++ [])))
      (sym (findings_lines-nil d family m))
      (reaches_none d numbers family removes from o n k (IsReady d family removes (to ++ []))
      (subst (λ ms. IsReady d family removes ms from o) (sym (append-nil to)) ready))
  findings_reach (f ∷ fs) m to from o n k len ready due listed few fits =
      by (slice_get_cases d.instrs (instr_of family (length to))).1
      (λ ms x j i r g. findings_reach fs (suc m) (to ++ kept (mark_of f) ∷ []) ms x j i
      (omega (arith, len, length-append to (kept (mark_of f) ∷ []))) r (due_rest m f fs due)
      (All-tail AreListed f fs listed) (omega arith) g)
    where
      below : length to < length d.instrs * kind_count family
      below = omega arith

      split : Fits d k (finding_lines d family m f ++ findings_lines d family (suc m) fs)
      split = subst (λ ls. Fits d k ls) (findings_lines-cons d family m f fs) fits

      later : IsReady d family removes ((to ++ kept (mark_of f) ∷ []) ++ marks_of fs) ≡ IsReady d family removes
          (to ++ marks_of (f ∷ fs))
      later = ap (λ ms. IsReady d family removes ms) (append_assoc to (kept (mark_of f) ∷ []) (marks_of fs))

      by : ((x : Instr) × (instr_of family (length to) < length d.instrs) × (slice_get d.instrs
          (instr_of family (length to)) ≡ Some x) × (get_or d.instrs (instr_of family (length to)) x ≡ x))
          ⊎ ((length d.instrs ≤ instr_of family (length to)) × (slice_get d.instrs
          (instr_of family (length to)) ≡ None)) →
          ((ms : List Mark) (x : Open) (j i : ℕ) → IsReady d family removes (to ++ kept (mark_of f) ∷ []) ms x →
          Fits d i (findings_lines d family (suc m) fs) →
          Reaches d family removes (spot d family removes ms x j i) (findings_lines d family (suc m) fs)
          (IsReady d family removes ((to ++ kept (mark_of f) ∷ []) ++ marks_of fs))) →
          Reaches d family removes (spot d family removes from o n k) (findings_lines d family m (f ∷ fs))
          (IsReady d family removes (to ++ marks_of (f ∷ fs)))
      by (inl there) rest =
          subst (λ ls. Reaches d family removes (spot d family removes from o n k) ls
          (IsReady d family removes (to ++ marks_of (f ∷ fs)))) (sym (findings_lines-cons d family m f fs))
          (reaches_then d numbers family removes removes (spot d family removes from o n k) (finding_lines d family m f)
          (findings_lines d family (suc m) fs)
          (IsReady d family removes (to ++ kept (mark_of f) ∷ [])) (IsReady d family removes (to ++ marks_of (f ∷ fs)))
          (subst (λ j. Reaches d family removes (spot d family removes from o n k) (finding_lines d family j f)
          (IsReady d family removes (to ++ kept (mark_of f) ∷ []))) len
          (finding_reaches d valid numbers family heading to from o n k there.0 ready there.1 there.2 f
          (due_first (length to) f fs there.0 (subst (λ j. AreDue j (f ∷ fs)) (sym len) due) there.2)
          (All-head AreListed f fs listed)
          (subst (λ j. Fits d k (finding_lines d family j f)) (sym len)
          (fits_front d k (finding_lines d family m f) (findings_lines d family (suc m) fs) split))))
          (λ ms x j r. subst (λ P. Reaches d family removes
          (spot d family removes ms x j (k + length (lines_text (shape_of d) (finding_lines d family m f))))
          (findings_lines d family (suc m) fs) P) later
          (rest ms x j (k + length (lines_text (shape_of d) (finding_lines d family m f))) r
          (fits_back d k (finding_lines d family m f) (findings_lines d family (suc m) fs) split))))
      by (inr past) rest = absurd (let s =
          instr_small family (length to) (length d.instrs) below in omega (arith, s, past.0))

  -- ---- the first line and the last

  family_itself : (x : Family) → same_family x x ≡ true
  family_itself Plain = refl
  family_itself Hybrid = refl

  first_taken : (n j : ℕ) → family_of heading ≡ family →
      after_form (spot d family false [] Fresh n j) (line.First heading) ≡ Ok (spot d family removes [] Between n j)
  unfolding after_form after_first
  first_taken n j e =
      let test : same_family (family_of heading) family ≡ true = ap (λ x. same_family x family) e
      ∙ family_itself family in
      ap (λ (b : Bool). if b then Ok (spot d family removes [] Between n j) else misplaced n) test

  between_ready : (ms : List Mark) → IsReady d family removes ms ms Between
  unfolding closed
  between_ready ms = record { may = refl; closes = λ n j. refl }

  record IsWhole (all ms : List Mark) (o : Open) : Type 0 where
    marks_are : ms ≡ all
    is : o ≡ Ended

  end_taken : (all ms : List Mark) (o : Open) (n j : ℕ) → IsReady d family removes all ms o →
      length all ≡ length d.instrs * kind_count family →
      after_form (spot d family removes ms o n j) line.End ≡ Ok (spot d family removes all Ended n j)
  unfolding after_form after_end
  end_taken all ms o n j ready whole =
      let p : Progress = spot d family removes ms o n j in
      let q : Progress = spot d family removes all Between n j in
      ap (λ (b : Bool). if b then then_take (closed p) ended else misplaced n) ready.may
      ∙ ap (λ r. then_take r ended) (ready.closes n j)
      ∙ ap (λ (b : Bool). if b then Ok (with_open q Ended) else missing q)
      (eq-eqb (length all) (length d.instrs * kind_count family) whole)

  end_reaches : (all ms : List Mark) (o : Open) (n k : ℕ) → IsReady d family removes all ms o →
      length all ≡ length d.instrs * kind_count family → Fits d k (line.End ∷ []) →
      Reaches d family removes (spot d family removes ms o n k) (line.End ∷ []) (IsWhole all)
  end_reaches all ms o n k ready whole fits =
      reaches_cons d numbers family removes removes removes ms all o Ended n k line.End [] (IsWhole all) fits
      (λ j. end_taken all ms o (suc n) j ready whole)
      (λ g. reaches_none d numbers family removes all Ended (suc n) _ (IsWhole all)
      (record { marks_are = refl; is = refl }))

  cert_reaches : (fs : List Finding) → family_of heading ≡ family → AreDue 0 fs → All AreListed fs →
      length fs ≡ length d.instrs * kind_count family →
      Fits d 0 (cert_lines d heading (record { family = family; findings = fs })) →
      Reaches d family removes (begun d family) (cert_lines d heading (record { family = family; findings = fs }))
      (IsWhole (marks_of fs))
  unfolding cert_lines
  cert_reaches fs e due listed whole fits =
      let all : List Mark = marks_of fs in
      let many : length (marks_of fs) ≡ length d.instrs * kind_count family = length-map fs (λ f. kept (mark_of f))
      ∙ whole in
      reaches_cons d numbers family removes false removes [] [] Fresh Between 0 0 (line.First heading)
      (findings_lines d family 0 fs ++ line.End ∷ []) (IsWhole (marks_of fs)) fits
      (λ j. first_taken 1 j e)
      (λ g. reaches_then d numbers family removes removes
      (spot d family removes [] Between 1 (0 + length (line_text (shape_of d) (line.First heading))))
      (findings_lines d family 0 fs) (line.End ∷ [])
      (IsReady d family removes (marks_of fs)) (IsWhole (marks_of fs))
      (findings_reach fs 0 [] [] Between 1 (0 + length (line_text (shape_of d) (line.First heading))) refl
      (between_ready []) due listed (omega arith)
      (fits_front d (0 + length (line_text (shape_of d) (line.First heading))) (findings_lines d family 0 fs)
      (line.End ∷ []) g))
      (λ ms o n r. end_reaches (marks_of fs) ms o n _ r many
      (fits_back d (0 + length (line_text (shape_of d) (line.First heading))) (findings_lines d family 0 fs)
      (line.End ∷ []) g)))

ended_finished : (d : Desc) (family : Family) (removes : Bool) (marks : List Mark) (n k : ℕ) →
    finished (spot d family removes marks Ended n k) ≡ Ok (spot d family removes marks Ended n k)
unfolding finished
ended_finished d family may marks n k = refl

verified_is : (d : Desc) (family : Family) (bytes : List ℕ) (p q : Progress) → fed (begun d family) bytes ≡ Ok p →
    p ≡ q → finished q ≡ Ok q → verified d family bytes ≡ Ok q
unfolding verified
verified_is d family bytes p q e same h = ap (λ r. then_take r finished) e ∙ ap finished same ∙ h

pub valid_texts_are_taken : (d : Desc) (heading : Heading) (cert : Cert) → IsValid d → IsValidOf heading d cert →
    length (cert_text d heading cert) ≤ most_bytes → IsTaken d heading cert
valid_texts_are_taken d heading cert valid h room =
    let numbers : IsShape (shape_of d) = IsShape-of_valid d valid in
    let bytes : ℕ = 0 + length (cert_text d heading cert) in
    let due : (j : ℕ) (f : Finding) (i : Instr) → slice_get cert.findings j ≡ Some f →
    slice_get d.instrs (instr_of cert.family (0 + j)) ≡ Some i →
    IsValidFinding (question d i (kind_of cert.family (0 + j))) heading d i (kind_of cert.family (0 + j)) f =
    (λ j f i get at.
    let e : j ≡ 0 + j = omega arith in
    subst (λ m. IsValidFinding (question d i (kind_of cert.family m)) heading d i (kind_of cert.family m) f) e
    (h.valid.each j f i get (ap (λ m. slice_get d.instrs (instr_of cert.family m)) e ∙ at))) in
    let fits : Fits d 0 (cert_lines d heading cert) = record { within = omega arith; in_range = h.in_range } in
    let reach = cert_reaches d valid numbers cert.family heading cert.findings h.valid.family due h.listed h.valid.whole
    fits in
    let removes : Bool = may_remove heading in
    record {
      progress = spot d cert.family removes reach.marks Ended reach.lines bytes;
      taken =
          verified_is d cert.family (cert_text d heading cert)
          (spot d cert.family removes reach.marks reach.opened reach.lines bytes)
          (spot d cert.family removes reach.marks Ended reach.lines bytes) reach.was
          (ap (λ o. spot d cert.family removes reach.marks o reach.lines bytes) reach.is.is)
          (ended_finished d cert.family removes reach.marks reach.lines bytes);
      family = refl;
      marks = reach.is.marks_are;
    }
