-- The lines of findings, one of which is exchanged; and those of one right finding.
use Rattle.std.proofs.Common.{◌≡◌, ℕ, zero, suc, ◌+◌, ◌*◌, ◌<◌, ◌⊎◌, inl, inr, true, List, [], ◌∷◌, ◌++◌, length, replicate, All, Some, refl, sym, ap, subst, ◌∙◌, arith}
use Rattle.std.specs.Prelude.{ℤ, slice_get, slice_set}
use Rattle.std.proofs.lemmas.List.{length-set, length-replicate}
use Rattle.std.proofs.lemmas.List.Elements.{All-nil, All-cons, All-tail, All-append}
use Rattle.std.proofs.lemmas.Option.{same_Some}
use Rattle.pg_word.specs.declared.sparse.Sparse.{Sparse}
use Rattle.pg_word.specs.Shape.{IsShape}
use Rattle.pg_ast.specs.declared.tree.Instr.{Instr}
use Rattle.pg_ast.specs.declared.tree.Desc.{Desc}
use Rattle.pg_lang_meaning.specs.States.{shape_of}
use Rattle.pg_type.specs.declared.kind.Kind.{Kind}
use Rattle.pg_proof.specs.declared.step.Act.{Act}
use Rattle.pg_proof.specs.declared.step.Act.TheVariants.{Add}
use Rattle.pg_proof.specs.Log.{IsClosedLog}
use Rattle.pg_proof.specs.Refutation.{fault_of, walk}
use Rattle.pg_ask.specs.Question.{question}
use Rattle.pg_cert.specs.declared.cert.Family.{Family}
use Rattle.pg_cert.specs.declared.cert.Family.TheVariants.{Plain, Hybrid}
use Rattle.pg_cert.specs.declared.cert.Finding.{Finding}
use Rattle.pg_cert.specs.declared.cert.Finding.TheVariants as finding
use Rattle.pg_cert.specs.declared.cert.Cert.{Cert}
use Rattle.pg_cert.specs.declared.line.Heading.{Heading}
use Rattle.pg_cert.specs.declared.line.Line.TheVariants.{First, End}
use Rattle.pg_cert.specs.Lines.{IsLine}
use Rattle.pg_cert.specs.Verdicts.{kind_count}
use Rattle.pg_cert.specs.Texts.{instr_of, kind_of, family_of, heading_of, finding_lines, findings_lines, cert_lines}
use Rattle.pg_cert.specs.Validity.{may_remove, IsActUnder, IsValidFinding, IsValidCert}
use Rattle.pg_cert.specs.InRange.{IsNumbered, IsFindingNumbered}
use Rattle.pg_cert.proofs.InRange.{cert_in_range}
use Rattle.pg_cert_migrate.proofs.RangeLemmas.{All-front, All-back}
use Rattle.pg_prog_base.specs.Imported.{IsRight, IsRightAt}

pub heading_family : (family : Family) → family_of (heading_of family) ≡ family
heading_family Plain = refl
heading_family Hybrid = refl

pub heading_removes : (family : Family) → may_remove (heading_of family) ≡ true
heading_removes Plain = refl
heading_removes Hybrid = refl

-- ---- lists

-- what stands at a place of a list with one item exchanged
pub at_set : {X : Type 0} (xs : List X) (n : ℕ) (x : X) (k : ℕ) (y : X) → slice_get (slice_set xs n x) k ≡ Some y →
    ((k ≡ n) × (y ≡ x)) ⊎ (slice_get xs k ≡ Some y)
at_set [] n x k y e = absurd (cc)
at_set (z ∷ zs) zero x zero y e = inl (refl, sym (same_Some x y e))
at_set (z ∷ zs) zero x (suc k) y e = inr e
at_set (z ∷ zs) (suc n) x zero y e = inr e
at_set {X} (z ∷ zs) (suc n) x (suc k) y e = by (at_set zs n x k y e)
  where
    by : ((k ≡ n) × (y ≡ x)) ⊎ (slice_get zs k ≡ Some y) → ((suc k ≡ suc n) × (y ≡ x)) ⊎ (slice_get zs k ≡ Some y)
    by (inl h) = inl (ap suc h.0, h.1)
    by (inr h) = inr h

set_there : {X : Type 0} (xs : List X) (n : ℕ) (x : X) → n < length xs → slice_get (slice_set xs n x) n ≡ Some x
set_there [] n x l = absurd (omega arith)
set_there (z ∷ zs) zero x l = refl
set_there (z ∷ zs) (suc n) x l = set_there zs n x (omega arith)

same_in : {X : Type 0} (k n : ℕ) (x y : X) → slice_get (replicate k x) n ≡ Some y → x ≡ y
same_in zero n x y e = absurd (cc)
same_in (suc k) zero x y e = same_Some x y e
same_in (suc k) (suc n) x y e = same_in k n x y e

one_of : {X : Type 0} (k n : ℕ) (x : X) → n < k → slice_get (replicate k x) n ≡ Some x
one_of zero n x l = absurd (omega arith)
one_of (suc k) zero x l = refl
one_of (suc k) (suc n) x l = one_of k n x (omega arith)

-- ---- lines

module _ (d : Desc) (family : Family) where
  abbrev AreLines : ℕ → List Finding → Type 0
  AreLines k fs = All (IsLine (shape_of d)) (findings_lines d family k fs)

  abbrev IsOne : ℕ → Finding → Type 0
  IsOne k f = All (IsLine (shape_of d)) (finding_lines d family k f)

  pub set_in_range : (k n : ℕ) (fs : List Finding) (f : Finding) → AreLines k fs → IsOne (k + n) f → AreLines k (slice_set fs n f)
  unfolding findings_lines
  set_in_range k n [] f all one = all
  set_in_range k zero (g ∷ gs) f all one =
      let same : k + 0 ≡ k = omega arith in
      All-append (IsLine (shape_of d)) (finding_lines d family k f) (findings_lines d family (suc k) gs)
      (subst (λ m. IsOne m f) same one)
      (All-back (IsLine (shape_of d)) (finding_lines d family k g) (findings_lines d family (suc k) gs) all)
  set_in_range k (suc n) (g ∷ gs) f all one =
      let same : k + suc n ≡ suc k + n = omega arith in
      All-append (IsLine (shape_of d)) (finding_lines d family k g) (findings_lines d family (suc k) (slice_set gs n f))
      (All-front (IsLine (shape_of d)) (finding_lines d family k g) (findings_lines d family (suc k) gs) all)
      (set_in_range (suc k) n gs f
      (All-back (IsLine (shape_of d)) (finding_lines d family k g) (findings_lines d family (suc k) gs) all)
      (subst (λ m. IsOne m f) same one))

  one_in_range : (k n : ℕ) (fs : List Finding) (f : Finding) → slice_get fs n ≡ Some f → AreLines k fs → IsOne (k + n) f
  unfolding findings_lines
  one_in_range k n [] f e all = absurd (cc)
  one_in_range k zero (g ∷ gs) f e all =
      let same : k ≡ k + 0 = omega arith in
      subst (λ m. IsOne m f) same
      (subst (λ h. IsOne k h) (same_Some g f e)
      (All-front (IsLine (shape_of d)) (finding_lines d family k g) (findings_lines d family (suc k) gs) all))
  one_in_range k (suc n) (g ∷ gs) f e all =
      let same : suc k + n ≡ k + suc n = omega arith in
      subst (λ m. IsOne m f) same
      (one_in_range (suc k) n gs f e
      (All-back (IsLine (shape_of d)) (finding_lines d family k g) (findings_lines d family (suc k) gs) all))

  -- of a certificate whose lines are in range
  cert_one : (heading : Heading) (n : ℕ) (fs : List Finding) (f : Finding) → slice_get fs n ≡ Some f →
      All (IsLine (shape_of d)) (cert_lines d heading (record { family = family; findings = fs })) → IsOne n f
  unfolding cert_lines
  cert_one heading n fs f e all =
      let same : 0 + n ≡ n = omega arith in
      subst (λ m. IsOne m f) same
      (one_in_range 0 n fs f e
      (All-front (IsLine (shape_of d)) (findings_lines d family 0 fs) (End ∷ [])
      (All-tail (IsLine (shape_of d)) (First heading) (findings_lines d family 0 fs ++ End ∷ []) all)))

-- ---- a log that refutes the empty clause, whatever is asked

abbrev nothing : List (List ℤ)
nothing = [] ∷ []

abbrev short : Act
short = Add (record { lits = []; hints = 1 ∷ [] })

abbrev filler : Finding
filler = finding.Refuted (short ∷ [])

filler_valid : (heading : Heading) (d : Desc) (i : Instr) (kind : Kind) → IsValidFinding nothing heading d i kind filler
unfolding IsValidFinding fault_of walk
filler_valid heading d i kind = (refl, All-cons (IsActUnder heading) short [] tt (All-nil (IsActUnder heading)))

filler_numbered : IsNumbered nothing (short ∷ [])
filler_numbered = record { variables = omega arith; numbers = omega arith }

-- two states show a kind, whatever the clauses are
shown_so : (before after : List (List ℤ)) (heading : Heading) (d : Desc) (i : Instr) (kind : Kind) (s t : Sparse) →
    IsValidFinding before heading d i kind (finding.Shown s t) → IsValidFinding after heading d i kind (finding.Shown s t)
unfolding IsValidFinding
shown_so before after heading d i kind s t h = h

-- and a log is valid, whatever is asked with its clauses
log_so : (clauses : List (List ℤ)) (heading : Heading) (d : Desc) (i j : Instr) (kind other : Kind) (acts : List Act) →
    IsValidFinding clauses heading d i kind (finding.Refuted acts) → IsValidFinding clauses heading d j other (finding.Refuted acts)
unfolding IsValidFinding
log_so clauses heading d i j kind other acts h = h

-- ---- the lines of a right finding

module _ (d : Desc) (shape : IsShape (shape_of d)) (family : Family) (n : ℕ) (within : n < length d.instrs * kind_count family) where
  abbrev count : ℕ
  count = length d.instrs * kind_count family

  abbrev heading : Heading
  heading = heading_of family

  -- everywhere the same, of the same clauses
  module _ (clauses : List (List ℤ)) (f : Finding) (valid : (j : Instr) (kind : Kind) → IsValidFinding clauses heading d j kind f)
      (numbered : IsFindingNumbered clauses f) where
    abbrev all_same : Cert
    all_same = record { family = family; findings = replicate count f }

    all_valid : IsValidCert (λ j kind. clauses) heading d all_same
    all_valid = record {
      family = heading_family family;
      whole = length-replicate count f;
      each = λ m g j e at. subst (λ x. IsValidFinding clauses heading d j (kind_of family m) x) (same_in count m f g e) (valid j (kind_of family m));
    }

    same_lines : All (IsLine (shape_of d)) (finding_lines d family n f)
    same_lines =
        cert_one d family heading n (replicate count f) f (one_of count n f within)
        (cert_in_range d shape (λ j kind. clauses) heading all_same all_valid
        (λ m g j e at. subst (λ x. IsFindingNumbered clauses x) (same_in count m f g e) numbered))

  -- two states, among logs of the empty clause
  module _ (s t : Sparse)
      (valid : (j : Instr) → slice_get d.instrs (instr_of family n) ≡ Some j → IsValidFinding nothing heading d j (kind_of family n) (finding.Shown s t)) where
    abbrev among : List Finding
    among = slice_set (replicate count filler) n (finding.Shown s t)

    at_valid : (m : ℕ) (g : Finding) (j : Instr) → slice_get among m ≡ Some g → slice_get d.instrs (instr_of family m) ≡ Some j →
        IsValidFinding nothing heading d j (kind_of family m) g
    at_valid m g j e at = by (at_set (replicate count filler) n (finding.Shown s t) m g e)
      where
        by : ((m ≡ n) × (g ≡ finding.Shown s t)) ⊎ (slice_get (replicate count filler) m ≡ Some g) →
            IsValidFinding nothing heading d j (kind_of family m) g
        by (inl h) =
            subst (λ x. IsValidFinding nothing heading d j (kind_of family m) x) (sym h.1)
            (subst (λ k. IsValidFinding nothing heading d j (kind_of family k) (finding.Shown s t)) (sym h.0)
            (valid j (subst (λ k. slice_get d.instrs (instr_of family k) ≡ Some j) h.0 at)))
        by (inr h) =
            subst (λ x. IsValidFinding nothing heading d j (kind_of family m) x) (same_in count m filler g h) (filler_valid heading d j (kind_of family m))

    at_numbered : (m : ℕ) (g : Finding) → slice_get among m ≡ Some g → IsFindingNumbered nothing g
    at_numbered m g e = by (at_set (replicate count filler) n (finding.Shown s t) m g e)
      where
        by : ((m ≡ n) × (g ≡ finding.Shown s t)) ⊎ (slice_get (replicate count filler) m ≡ Some g) → IsFindingNumbered nothing g
        by (inl h) = subst (λ x. IsFindingNumbered nothing x) (sym h.1) tt
        by (inr h) = subst (λ x. IsFindingNumbered nothing x) (same_in count m filler g h) filler_numbered

    shown_lines : All (IsLine (shape_of d)) (finding_lines d family n (finding.Shown s t))
    shown_lines =
        cert_one d family heading n among (finding.Shown s t)
        (set_there (replicate count filler) n (finding.Shown s t) (omega (arith, within, length-replicate count filler)))
        (cert_in_range d shape (λ j kind. nothing) heading (record { family = family; findings = among })
        (record {
          family = heading_family family;
          whole = length-set (replicate count filler) n (finding.Shown s t) ∙ length-replicate count filler;
          each = at_valid;
        })
        (λ m g j e at. at_numbered m g e))

  -- any right one. Its instruction is there
  pub right_lines : (i : Instr) → slice_get d.instrs (instr_of family n) ≡ Some i → (f : Finding) → IsRightAt d family n f →
      All (IsLine (shape_of d)) (finding_lines d family n f)
  right_lines i at (finding.Refuted acts) right =
      let clauses = question d i (kind_of family n) in
      same_lines clauses (finding.Refuted acts)
      (λ j kind. log_so clauses heading d i j (kind_of family n) kind acts ((right i at).valid heading (heading_removes family)))
      (right i at).numbered
  right_lines i at (finding.Shown s t) right =
      shown_lines s t (λ j there. shown_so (question d j (kind_of family n)) nothing heading d j (kind_of family n) s t
      ((right j there).valid heading (heading_removes family)))
  right_lines i at (finding.Spent k steps) right = absurd (right i at).settled
