-- The lines of a valid certificate are in range.
use Rattle.std.proofs.Common.{◌≡◌, ◌≢◌, ℕ, zero, suc, ◌+◌, ◌-◌, ◌*◌, ◌%◌, ◌^◌, ◌<◌, ◌≤◌, ◌⊎◌, inl, inr, min, Bool, true, false, not, if◌then◌else◌, ℤ, List, [], ◌∷◌, ◌++◌, length, map, drop, get_or, set, All, Option, None, Some, is_none, is_some, IsTrue, refl, sym, ap, subst, ◌∙◌, lit<, arith, add-zero, length-append, ⊎_elim}
use Rattle.std.specs.Prelude.{IsSomeAnd, ◌==◌, ◌&&◌, ◌||◌, nat_lt, nat_le, nat_abs, slice_get, slice_index_or}
use Rattle.std.specs.List.{list_any, list_all}
use Rattle.std.specs.Option.{option_and_then, option_map}
use Rattle.std.proofs.Math.Nat.{pow-le-pow_right}
use Rattle.std.proofs.lemmas.Bool.{and_from, and_parts, leb-true, le-leb, lt-ltb, eq-eqb}
use Rattle.std.proofs.lemmas.List.{length-take, length-drop, length-set, length-map}
use Rattle.std.proofs.lemmas.List.Sums.{list_all-from_AllPass}
use Rattle.std.proofs.lemmas.List.Elements.{All-nil, All-cons, All-head, All-tail, All-append, All-weaker, All-take, All-drop, All-push}
use Rattle.std.proofs.lemmas.Option.{same_Some, slice_get_within, slice_get_cases}
use Rattle.pg_word.specs.declared.shape.Shape.{Shape}
use Rattle.pg_word.specs.declared.psw.Psw.{Psw as Psws}
use Rattle.pg_word.specs.declared.sparse.Sparse.{Sparse}
use Rattle.pg_word.specs.Shape.{IsShape}
use Rattle.pg_word.specs.Psw.{IsPsw}
use Rattle.pg_word.specs.Sparse.{storage_of}
use Rattle.pg_word.proofs.SparseLemmas.{length-storage_of}
use Rattle.pg_lang_token.specs.Words.{is_word, is_reserved}
use Rattle.pg_ast.specs.declared.tree.Instr.{Instr}
use Rattle.pg_ast.specs.declared.tree.Desc.{Desc}
use Rattle.pg_lang_meaning.specs.States.{IsState, shape_of}
use Rattle.pg_lang_valid.specs.Twice.{instr_names}
use Rattle.pg_image.specs.Lines.{line_cells, line_words, line_count}
use Rattle.pg_proof.specs.declared.step.ProofFault.{ProofFault}
use Rattle.pg_proof.specs.declared.step.ProofFault.TheVariants.{UnknownLit}
use Rattle.pg_proof.specs.declared.step.Step.{Step as Steps}
use Rattle.pg_proof.specs.declared.step.Act.{Act}
use Rattle.pg_proof.specs.declared.step.Act.TheVariants as act
use Rattle.pg_proof.specs.Places.{negations}
use Rattle.pg_proof.specs.State.{State as Log, clause_at, begun, with_clause}
use Rattle.pg_proof.specs.Refutation.{are_ascending, walk, fault_of}
use Rattle.pg_proof.specs.Removal.{without}
use Rattle.pg_proof.specs.Log.{after_acts_from, IsSpentFrom}
use Rattle.pg_proof.specs.Trimmed.{shown, IsPart, step_count, AreAscending, IsTidyFrom, IsTrimmed}
use Rattle.pg_proof.proofs.GivenLemmas.{AreKnown, known_hints, number_below}
use Rattle.pg_proof.proofs.RemovalLemmas.{length-without}
use Rattle.pg_type.specs.declared.kind.Kind.{Kind}
use Rattle.pg_type.specs.Listed.{state_of}
use Rattle.pg_type.proofs.KindLaws.{shown_states}
use Rattle.pg_cert.specs.declared.cert.Family.{Family}
use Rattle.pg_cert.specs.declared.cert.Finding.{Finding}
use Rattle.pg_cert.specs.declared.cert.Finding.TheVariants as finding
use Rattle.pg_cert.specs.declared.cert.Cert.{Cert}
use Rattle.pg_cert.specs.declared.line.Heading.{Heading}
use Rattle.pg_cert.specs.declared.line.Line.{Line}
use Rattle.pg_cert.specs.declared.line.Line.TheVariants.{First, Header, Step, Remove, Size, Psw, Cells, End}
use Rattle.pg_cert.specs.Lines.{most_budget, most_variable, most_number, ascend, are_lits, are_hints, are_removed, is_found, is_line, IsLine}
use Rattle.pg_cert.specs.Texts.{row_lines, rows_before, state_lines, act_line, found_of, body_lines, instr_of, kind_of, named_lines, finding_lines, findings_lines, cert_lines}
use Rattle.pg_cert.specs.Validity.{may_remove, IsActUnder, IsValidFinding, IsValidCert}
use Rattle.pg_cert.proofs.Fits.{instr_within}
use Rattle.pg_cert.specs.InRange.{IsNumbered, IsFindingNumbered}

-- ---- steps

lits_ascend : (most variables above : ℕ) (zs : List ℤ) → variables ≤ most → are_ascending variables above zs ≡ true →
    ascend most above (map nat_abs zs) ≡ true
lits_ascend most variables above [] l e = refl
lits_ascend most variables above (z ∷ zs) l e =
    let n : ℕ = nat_abs z in
    let both = and_parts (nat_lt above n) (nat_le n variables && are_ascending variables n zs) e in
    let rest = and_parts (nat_le n variables) (are_ascending variables n zs) both.1 in
    let within : n ≤ variables = leb-true n variables rest.0 in
    and_from (nat_lt above n) (nat_le n most && ascend most n (map nat_abs zs)) both.0
    (and_from (nat_le n most) (ascend most n (map nat_abs zs)) (le-leb n most (omega arith))
    (lits_ascend most variables n zs l rest.1))

lits_checked : (b : Bool) (w : Option ProofFault) → (if b then w else Some UnknownLit) ≡ None → b ≡ true
lits_checked true w e = refl
lits_checked false w e = absurd (cc)

from_one : (held : List (Option (List ℤ))) (h : ℕ) (c : List ℤ) → clause_at held h ≡ Some c → 1 ≤ h
from_one held zero c e = absurd (cc)
from_one held (suc h) c e = omega arith

hints_known : (most : ℕ) (held : List (Option (List ℤ))) (hs : List ℕ) → length held ≤ most → AreKnown held hs →
    list_all (λ h. nat_le 1 h && nat_le h most) hs ≡ true
hints_known most held [] l k = refl
hints_known most held (h ∷ hs) l k =
    let least : 1 ≤ h = from_one held h k.0.0 k.0.1 in
    let below : h ≤ length held = number_below held h k.0.0 k.0.1 in
    and_from (nat_le 1 h && nat_le h most) (list_all (λ m. nat_le 1 m && nat_le m most) hs)
    (and_from (nat_le 1 h) (nat_le h most) (le-leb 1 h least) (le-leb h most (omega arith)))
    (hints_known most held hs l k.1)

module _ (shape : Shape) where
  step_in_range : (state : Log) (step : Steps) → state.variables ≤ most_variable → length state.held ≤ most_number →
      fault_of state.variables state.held step ≡ None → IsLine shape (Step step)
  unfolding is_line fault_of
  step_in_range state step v n e =
      and_from (are_lits step.lits) (are_hints step.hints)
      (lits_ascend most_variable state.variables 0 step.lits v
      (lits_checked (are_ascending state.variables 0 step.lits) (walk state.held (negations step.lits) step.hints) e))
      (hints_known most_number state.held step.hints n (known_hints state.variables state.held step e))

  more_held : (state : Log) (lits : List ℤ) → length (with_clause state lits).held ≡ length state.held + 1
  more_held state lits = length-append state.held (Some lits ∷ [])

  -- ---- logs

  removal_in_range : (numbers : List ℕ) → are_removed numbers ≡ true → IsLine shape (Remove numbers)
  unfolding is_line
  removal_in_range numbers e = e

  acts_in_range : (heading : Heading) (acts : List Act) (state final : Log) → after_acts_from state acts ≡ Some final →
      All (IsActUnder heading) acts → state.variables ≤ most_variable →
      length state.held + step_count acts ≤ most_number → All (IsLine shape) (map act_line acts)
  acts_in_range heading [] state final e under v n = All-nil (IsLine shape)
  acts_in_range heading (act.Add step ∷ acts) state final e under v n =
      by (fault_of state.variables state.held step) refl e
      (λ f. acts_in_range heading acts (with_clause state step.lits) final f
      (All-tail (IsActUnder heading) (act.Add step) acts under) v
      (let m = more_held state step.lits in omega (arith, m, n)))
    where
      by : (o : Option ProofFault) → fault_of state.variables state.held step ≡ o →
          option_and_then (λ x. after_acts_from x acts)
          (if is_none o then Some (with_clause state step.lits) else None) ≡ Some final →
          (after_acts_from (with_clause state step.lits) acts ≡ Some final → All (IsLine shape) (map act_line acts)) →
          All (IsLine shape) (Step step ∷ map act_line acts)
      by None eo f rest =
          All-cons (IsLine shape) (Step step) (map act_line acts) (step_in_range state step v (omega (arith, n)) eo)
          (rest f)
      by (Some fault) eo f rest = absurd (cc)
  acts_in_range heading (act.Remove numbers ∷ acts) state final e under v n =
      by (without state.held numbers) refl e
      (λ held same f. acts_in_range heading acts (record state { held = held }) final f
      (All-tail (IsActUnder heading) (act.Remove numbers) acts under) v
      (let m = length-without numbers state.held held same in omega (arith, m, n)))
    where
      line : IsLine shape (Remove numbers)
      line = removal_in_range numbers (All-head (IsActUnder heading) (act.Remove numbers) acts under).1

      by : (o : Option (List (Option (List ℤ)))) → without state.held numbers ≡ o →
          option_and_then (λ x. after_acts_from x acts) (option_map (λ held. record state { held = held }) o) ≡
          Some final →
          ((held : List (Option (List ℤ))) → without state.held numbers ≡ Some held →
          after_acts_from (record state { held = held }) acts ≡ Some final →
          All (IsLine shape) (map act_line acts)) → All (IsLine shape) (Remove numbers ∷ map act_line acts)
      by None eo f rest = absurd (cc)
      by (Some held) eo f rest =
          All-cons (IsLine shape) (Remove numbers) (map act_line acts) line (rest held eo f)

  steps_in_range : (steps : List Steps) (state : Log) (k : ℕ) → IsSpentFrom state k (map act.Add steps) →
      state.variables ≤ most_variable → length state.held + step_count (map act.Add steps) ≤ most_number →
      All (IsLine shape) (map Step steps)
  steps_in_range [] state k h v n = All-nil (IsLine shape)
  steps_in_range (step ∷ steps) state zero h v n = absurd h
  steps_in_range (step ∷ steps) state (suc k) h v n =
      All-cons (IsLine shape) (Step step) (map Step steps) (step_in_range state step v (omega (arith, n)) h.0.valid)
      (steps_in_range steps (with_clause state step.lits) k h.1 v
      (let m = more_held state step.lits in omega (arith, m, n)))

-- ---- states

some_word : (words : List ℕ) → list_all (λ x. x == 0) words ≡ false → list_any (λ x. not (x == 0)) words ≡ true
some_word [] e = absurd (cc)
some_word (word ∷ words) e = by (word == 0) refl e (some_word words)
  where
    by : (b : Bool) → (word == 0) ≡ b → (b && list_all (λ x. x == 0) words) ≡ false →
        (list_all (λ x. x == 0) words ≡ false → list_any (λ x. not (x == 0)) words ≡ true) →
        (not (word == 0) || list_any (λ x. not (x == 0)) words) ≡ true
    by true eb f rest = ap (λ b. not b || list_any (λ x. not (x == 0)) words) eb ∙ rest f
    by false eb f rest = ap (λ b. not b || list_any (λ x. not (x == 0)) words) eb

module _ (d : Desc) (shape : IsShape (shape_of d)) where
  abbrev InRange : List Line → Type 0
  InRange lines = All (IsLine (shape_of d)) lines

  abbrev Fits : ℕ → Type 0
  Fits word = word < 2 ^ d.word

  size_in_range : (n : ℕ) → 2 ≤ n → n ≤ d.size → IsLine (shape_of d) (Size n)
  unfolding is_line
  size_in_range n least most = and_from (nat_le 2 n) (nat_le n d.size) (le-leb 2 n least) (le-leb n d.size most)

  psw_in_range : (psw : Psws) → IsPsw d.address psw → IsLine (shape_of d) (Psw psw)
  unfolding is_line
  psw_in_range psw h =
      let top : ℕ = 2 ^ d.address in
      and_from (nat_lt psw.p top) (nat_lt psw.l top && nat_lt psw.b top) (lt-ltb psw.p top h.p)
      (and_from (nat_lt psw.l top) (nat_lt psw.b top) (lt-ltb psw.l top h.l) (lt-ltb psw.b top h.b))

  row_in_range : (first : ℕ) (words : List ℕ) → first ≤ most_number → (first % line_cells == 0) ≡ true →
      1 ≤ length words → length words ≤ line_cells → list_all (λ word. word == 0) words ≡ false → All Fits words →
      IsLine (shape_of d) (Cells first words)
  unfolding is_line
  row_in_range first words below place least most some fit =
      let count : Bool = nat_le 1 (length words) && nat_le (length words) line_cells in
      let any : Bool = list_any (λ x. not (x == 0)) words in
      let all : Bool = list_all (λ x. nat_lt x (2 ^ d.word)) words in
      and_from (nat_le first most_number && (first % line_cells == 0)) (count && (any && all))
      (and_from (nat_le first most_number) (first % line_cells == 0) (le-leb first most_number below) place)
      (and_from count (any && all)
      (and_from (nat_le 1 (length words)) (nat_le (length words) line_cells) (le-leb 1 (length words) least)
      (le-leb (length words) line_cells most))
      (and_from any all (some_word words some)
      (list_all-from_AllPass (λ x. nat_lt x (2 ^ d.word)) words
      (All-weaker Fits (λ x. nat_lt x (2 ^ d.word) ≡ true) (λ x l. lt-ltb x (2 ^ d.word) l) words fit))))

  row_lines_in_range : (first : ℕ) (words : List ℕ) → first ≤ most_number → (first % line_cells == 0) ≡ true →
      1 ≤ length words → length words ≤ line_cells → All Fits words → InRange (row_lines first words)
  row_lines_in_range first words below place least most fit = by (list_all (λ word. word == 0) words) refl
    where
      by : (b : Bool) → list_all (λ word. word == 0) words ≡ b → InRange (if b then [] else Cells first words ∷ [])
      by true e = All-nil (IsLine (shape_of d))
      by false e =
          All-cons (IsLine (shape_of d)) (Cells first words) [] (row_in_range first words below place least most e fit)
          (All-nil (IsLine (shape_of d)))

  rows_in_range : (k : ℕ) (cells : List ℕ) → k ≤ line_count (length cells) → length cells ≤ most_number →
      All Fits cells → InRange (rows_before k cells)
  unfolding rows_before
  rows_in_range zero cells l most fit = All-nil (IsLine (shape_of d))
  rows_in_range (suc k) cells l most fit =
      let first : ℕ = line_cells * k in
      let words : List ℕ = line_words k cells in
      let rest : length (drop first cells) ≡ length cells - first = length-drop first cells in
      let count : length words ≡ min line_cells (length (drop first cells)) = length-take line_cells (drop first cells) in
      let inside : first < length cells = omega arith in
      let place : first % line_cells ≡ 0 = omega arith in
      All-append (IsLine (shape_of d)) (rows_before k cells) (row_lines first words)
      (rows_in_range k cells (omega arith) most fit)
      (row_lines_in_range first words (omega arith) (eq-eqb (first % line_cells) 0 place) (omega arith) (omega arith)
      (All-take Fits line_cells (drop first cells) (All-drop Fits first cells fit)))

  below_most : d.size ≤ most_number
  below_most = let upper = shape.size_most in let most = shape.address_most in size_below d.address upper most
    where
      size_below : (a : ℕ) → d.size < 2 ^ a → a ≤ 20 → d.size ≤ most_number
      size_below a l m = let p : 2 ^ a ≤ 2 ^ 20 = pow-le-pow_right (lit< tt) m in omega arith

  state_in_range : (s : Sparse) → IsState d (state_of s) → InRange (state_lines s)
  state_in_range s h =
      let count : length (storage_of s.size s.cells) ≡ s.size = length-storage_of s.size s.cells in
      let least : 2 ≤ s.size = subst (λ n. 2 ≤ n) count h.size_least in
      let most : s.size ≤ d.size = subst (λ n. n ≤ d.size) count h.size_most in
      let below = below_most in
      All-cons (IsLine (shape_of d)) (Size s.size) (Psw s.psw ∷ rows_before (line_count s.size) (storage_of s.size s.cells))
      (size_in_range s.size least most)
      (All-cons (IsLine (shape_of d)) (Psw s.psw) (rows_before (line_count s.size) (storage_of s.size s.cells))
      (psw_in_range s.psw h.fields)
      (rows_in_range (line_count s.size) (storage_of s.size s.cells)
      (subst (λ n. line_count s.size ≤ line_count n) (sym count) (omega arith)) (omega (arith, count)) h.words))

  -- ---- findings

  body_in_range : (question : List (List ℤ)) (heading : Heading) (i : Instr) (kind : Kind) (f : Finding) →
      IsValidFinding question heading d i kind f → IsFindingNumbered question f → InRange (body_lines f)
  unfolding IsValidFinding
  body_in_range question heading i kind (finding.Refuted acts) h n = by (after_acts_from (begun question) acts) refl h.0
    where
      by : (o : Option Log) → after_acts_from (begun question) acts ≡ o → IsSomeAnd o (λ after. IsTrue after.closed) →
          InRange (map act_line acts)
      by None e c = absurd c
      by (Some final) e c =
          acts_in_range (shape_of d) heading acts (begun question) final e h.1 n.variables
          (rw (length-map question (λ (c : List ℤ). Some c)) n.numbers)
  body_in_range question heading i kind (finding.Shown s t) h n =
      let both = shown_states d i kind (state_of s) (state_of t) h in
      All-append (IsLine (shape_of d)) (state_lines s) (state_lines t) (state_in_range s both.0) (state_in_range t both.1)
  body_in_range question heading i kind (finding.Spent k steps) h n =
      steps_in_range (shape_of d) steps (begun question) k h.2 n.variables
      (rw (length-map question (λ (c : List ℤ). Some c)) n.numbers)

  found_in_range : (question : List (List ℤ)) (heading : Heading) (i : Instr) (kind : Kind) (f : Finding) →
      IsValidFinding question heading d i kind f → is_found (found_of f) ≡ true
  unfolding IsValidFinding
  found_in_range question heading i kind (finding.Refuted acts) h = refl
  found_in_range question heading i kind (finding.Shown s t) h = refl
  found_in_range question heading i kind (finding.Spent k steps) h =
      and_from (nat_le 1 k) (nat_le k most_budget) (le-leb 1 k h.0) (le-leb k most_budget h.1)

  named_in_range : (question : List (List ℤ)) (heading : Heading) (i : Instr) (kind : Kind) (f : Finding) →
      IsValidFinding question heading d i kind f → IsFindingNumbered question f →
      InRange (named_lines i.name.bytes kind f)
  unfolding is_line
  named_in_range question heading i kind f h n =
      let word : is_word i.name.bytes ≡ true =
      (and_parts (is_word i.name.bytes) (not (is_reserved i.name.bytes)) i.name.is_name).0 in
      All-cons (IsLine (shape_of d)) (Header i.name.bytes kind (found_of f)) (body_lines f)
      (and_from (is_word i.name.bytes) (is_found (found_of f)) word (found_in_range question heading i kind f h))
      (body_in_range question heading i kind f h n)

  -- ---- certificates

  name_at : (instrs : List Instr) (k : ℕ) (i : Instr) → slice_get instrs k ≡ Some i →
      slice_index_or (instr_names instrs) k [] ≡ i.name.bytes
  name_at [] k i e = absurd (cc)
  name_at (x ∷ xs) zero i e = ap (λ (j : Instr). j.name.bytes) (same_Some x i e)
  name_at (x ∷ xs) (suc k) i e = name_at xs k i e

  findings_in_range : (family : Family) (n : ℕ) (fs : List Finding) →
      ((j : ℕ) (f : Finding) → slice_get fs j ≡ Some f → InRange (finding_lines d family (n + j) f)) →
      InRange (findings_lines d family n fs)
  unfolding findings_lines
  findings_in_range family n [] h = All-nil (IsLine (shape_of d))
  findings_in_range family n (f ∷ fs) h =
      All-append (IsLine (shape_of d)) (finding_lines d family n f) (findings_lines d family (suc n) fs)
      (subst (λ m. InRange (finding_lines d family m f)) (add-zero n) (h 0 f refl))
      (findings_in_range family (suc n) fs
      (λ j g e. subst (λ m. InRange (finding_lines d family m g)) (next n j) (h (suc j) g e)))
    where
      next : (n j : ℕ) → n + suc j ≡ suc n + j
      next n j = omega arith

  plain_lines : (heading : Heading) → IsLine (shape_of d) (First heading)
  unfolding is_line
  plain_lines heading = refl

  end_line : IsLine (shape_of d) End
  unfolding is_line
  end_line = refl

  module _ (question : Instr → Kind → List (List ℤ)) (heading : Heading) (cert : Cert) (valid : IsValidCert question heading d cert)
      (numbered : (n : ℕ) (f : Finding) (i : Instr) → slice_get cert.findings n ≡ Some f →
      slice_get d.instrs (instr_of cert.family n) ≡ Some i → IsFindingNumbered (question i (kind_of cert.family n)) f) where
    one_in_range : (n : ℕ) (f : Finding) → slice_get cert.findings n ≡ Some f → InRange (finding_lines d cert.family n f)
    one_in_range n f e = by (slice_get_cases d.instrs (instr_of cert.family n)).1
      where
        by : ((i : Instr) × (instr_of cert.family n < length d.instrs) ×
            (slice_get d.instrs (instr_of cert.family n) ≡ Some i) × (get_or d.instrs (instr_of cert.family n) i ≡ i)) ⊎
            ((length d.instrs ≤ instr_of cert.family n) × (slice_get d.instrs (instr_of cert.family n) ≡ None)) →
            InRange (finding_lines d cert.family n f)
        by (inl there) =
            let i : Instr = there.0 in
            subst (λ name. InRange (named_lines name (kind_of cert.family n) f))
            (sym (name_at d.instrs (instr_of cert.family n) i there.2))
            (named_in_range (question i (kind_of cert.family n)) heading i (kind_of cert.family n) f
            (valid.each n f i e there.2) (numbered n f i e there.2))
        by (inr past) =
            let inside = instr_within cert.family n (length cert.findings) (length d.instrs) valid.whole
            (slice_get_within cert.findings n f e) in
            let beyond = past.0 in
            absurd (omega arith)

    pub cert_in_range : InRange (cert_lines d heading cert)
    unfolding cert_lines
    cert_in_range =
        All-cons (IsLine (shape_of d)) (First heading) (findings_lines d cert.family 0 cert.findings ++ End ∷ [])
        (plain_lines heading)
        (All-push (IsLine (shape_of d)) (findings_lines d cert.family 0 cert.findings) End
        (findings_in_range cert.family 0 cert.findings from_zero) end_line)
      where
        from_zero : (j : ℕ) (f : Finding) → slice_get cert.findings j ≡ Some f → InRange (finding_lines d cert.family (0 + j) f)
        from_zero j f e = let same : j ≡ 0 + j = omega arith in subst (λ m. InRange (finding_lines d cert.family m f)) same (one_in_range j f e)

-- ---- trimmed logs

gone_at : (held : List (Option (List ℤ))) (j : ℕ) → option_and_then (λ c. c) (slice_get (set held j None) j) ≡ None
gone_at [] j = refl
gone_at (d ∷ held) zero = refl
gone_at (d ∷ held) (suc j) = gone_at held j

clause_gone : (held : List (Option (List ℤ))) (n : ℕ) → clause_at (set held (n - 1) None) n ≡ None
clause_gone held zero = refl
clause_gone held (suc k) =
    let p : suc k - 1 ≡ k = omega arith in
    ap (λ j. option_and_then (λ c. c) (slice_get (set held j None) k)) p ∙ gone_at held k

ascends_strictly : (most : ℕ) (ns : List ℕ) (above : ℕ) (held after : List (Option (List ℤ))) → AreAscending above ns →
    clause_at held above ≡ None → without held ns ≡ Some after → length held ≤ most → ascend most above ns ≡ true
ascends_strictly most [] above held after a gone e l = refl
ascends_strictly most (n ∷ ns) above held after a gone e l =
    by (clause_at held n) refl e
    (λ f. ascends_strictly most ns n (set held (n - 1) None) after a.1 (clause_gone held n) f
    (let m = length-set held (n - 1) None in omega (arith, m, l)))
  where
    by : (o : Option (List ℤ)) → clause_at held n ≡ o →
        (if is_some o then without (set held (n - 1) None) ns else None) ≡ Some after →
        (without (set held (n - 1) None) ns ≡ Some after → ascend most n ns ≡ true) → ascend most above (n ∷ ns) ≡ true
    by None eo f rest = absurd (cc)
    by (Some c) eo f rest =
        let below : n ≤ length held = number_below held n c eo in
        let other : above ≢ n = (λ s. none_some (sym gone ∙ ap (clause_at held) s ∙ eo)) in
        let over : above < n = grind (arith, other, a.0) in
        and_from (nat_lt above n) (nat_le n most && ascend most n ns) (lt-ltb above n over)
        (and_from (nat_le n most) (ascend most n ns) (le-leb n most (omega arith)) (rest f))
      where
        none_some : None ≡ Some c → ⊥
        none_some s = cc

under_heading : (heading : Heading) (q : ℕ) (acts : List Act) (state final : Log) → may_remove heading ≡ true →
    IsTidyFrom q state acts → after_acts_from state acts ≡ Some final →
    length state.held + step_count acts ≤ most_number → All (IsActUnder heading) acts
under_heading heading q [] state final may tidy e n = All-nil (IsActUnder heading)
under_heading heading q (act.Add step ∷ acts) state final may tidy e n =
    by (is_none (fault_of state.variables state.held step)) e
    (λ f. under_heading heading q acts (with_clause state step.lits) final may tidy.1 f
    (let m = length-append state.held (Some step.lits ∷ []) in omega (arith, m, n)))
  where
    by : (b : Bool) → option_and_then (λ x. after_acts_from x acts)
        (if b then Some (with_clause state step.lits) else None) ≡ Some final →
        (after_acts_from (with_clause state step.lits) acts ≡ Some final → All (IsActUnder heading) acts) →
        All (IsActUnder heading) (act.Add step ∷ acts)
    by true f rest = All-cons (IsActUnder heading) (act.Add step) acts tt (rest f)
    by false f rest = absurd (cc)
under_heading heading q (act.Remove numbers ∷ acts) state final may tidy e n =
    by (without state.held numbers) refl e
    (λ held same f. under_heading heading q acts (record state { held = held }) final may
    (tidy.2 (record state { held = held }) (ap (option_map (λ h. record state { held = h })) same)) f
    (let m = length-without numbers state.held held same in omega (arith, m, n)))
  where
    some : nat_le 1 (length numbers) ≡ true
    some = le-leb 1 (length numbers) (omega (arith, tidy.0))

    from_zero : (ns : List ℕ) (least : ℕ) → AreAscending least ns → AreAscending 0 ns
    from_zero [] least a = tt
    from_zero (m ∷ ns) least a = (omega arith, a.1)

    by : (o : Option (List (Option (List ℤ)))) → without state.held numbers ≡ o →
        option_and_then (λ x. after_acts_from x acts) (option_map (λ held. record state { held = held }) o) ≡
        Some final →
        ((held : List (Option (List ℤ))) → without state.held numbers ≡ Some held →
        after_acts_from (record state { held = held }) acts ≡ Some final → All (IsActUnder heading) acts) →
        All (IsActUnder heading) (act.Remove numbers ∷ acts)
    by None eo f rest = absurd (cc)
    by (Some held) eo f rest =
        All-cons (IsActUnder heading) (act.Remove numbers) acts (
          may,
          and_from (nat_le 1 (length numbers)) (ascend most_number 0 numbers) some
              (ascends_strictly most_number numbers 0 state.held held (from_zero numbers (q + 1) tidy.1) refl eo
              (omega (arith, n))),
        )
        (rest held eo f)

shown_count : (acts : List Act) (numbered : List (Option (List ℤ))) → length (shown numbered acts) ≡ step_count acts
shown_count [] numbered = refl
shown_count (act.Add step ∷ acts) numbered = ap suc (shown_count acts (numbered ++ Some step.lits ∷ []))
shown_count (act.Remove numbers ∷ acts) numbered = shown_count acts numbered

part_few : {A : Type 0} (xs ys : List A) → IsPart xs ys → length xs ≤ length ys
part_few [] ys p = omega arith
part_few (x ∷ xs) [] p = absurd p
part_few (x ∷ xs) (y ∷ ys) p =
    ⊎_elim (λ h. let r = part_few xs ys h.1 in omega (arith, r)) (λ h. let r = part_few (x ∷ xs) ys h in omega (arith, r)) p

module _ (question : List (List ℤ)) (heading : Heading) (given log : List Act) (trimmed : IsTrimmed question given log)
    (numbered : IsNumbered question given) (may : may_remove heading ≡ true) where
  fewer : step_count log ≤ step_count given
  fewer =
      let few = part_few (shown (map Some question) log) (shown (map Some question) given) trimmed.part in
      let a = shown_count log (map Some question) in
      let b = shown_count given (map Some question) in
      omega (arith, few, a, b)

  log_numbered : IsNumbered question log
  log_numbered = record {
    variables = numbered.variables;
    numbers = (let f = fewer in let n = numbered.numbers in omega (arith, f, n));
  }

  may_stand : All (IsActUnder heading) log
  may_stand = by (after_acts_from (begun question) log) refl trimmed.closed
    where
      by : (o : Option Log) → after_acts_from (begun question) log ≡ o → IsSomeAnd o (λ after. IsTrue after.closed) →
          All (IsActUnder heading) log
      by None e c = absurd c
      by (Some final) e c =
          under_heading heading (length question) log (begun question) final may trimmed.tidy e
          (rw (length-map question (λ (c : List ℤ). Some c)) log_numbered.numbers)

  pub trimmed_may_stand : IsNumbered question log × All (IsActUnder heading) log
  trimmed_may_stand = (log_numbered, may_stand)
