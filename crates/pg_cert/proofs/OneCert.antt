-- A certificate's text is that of one certificate under one heading: equal texts have equal lines, and equal lines come
-- from equal findings.
use Rattle.std.proofs.Common.{◌≡◌, ℕ, zero, suc, ◌*◌, Bool, true, false, cond, List, [], ◌∷◌, ◌++◌, length, map, All, refl, sym, ap, ◌∙◌, arith, append_assoc, length-append}
use Rattle.std.specs.Prelude.{◌==◌}
use Rattle.std.specs.List.{list_any}
use Rattle.std.proofs.lemmas.Bool.{or_from}
use Rattle.std.proofs.lemmas.List.Elements.{All-head, All-tail}
use Rattle.std.proofs.lemmas.List.Folds.{list_any-append}
use Rattle.pg_word.specs.Shape.{IsShape}
use Rattle.pg_word.specs.declared.shape.Shape.{Shape}
use Rattle.pg_word.specs.Sparse.{storage_of}
use Rattle.pg_ast.specs.declared.tree.Desc.{Desc}
use Rattle.pg_lang_meaning.specs.States.{shape_of}
use Rattle.pg_image.specs.Lines.{line_cells, line_words, line_count}
use Rattle.pg_proof.specs.declared.step.Act.{Act}
use Rattle.pg_proof.specs.declared.step.Act.TheVariants as act
use Rattle.pg_proof.specs.declared.step.Step.{Step as LogStep}
use Rattle.pg_cert.specs.declared.cert.Family.{Family}
use Rattle.pg_cert.specs.declared.cert.Finding.{Finding}
use Rattle.pg_cert.specs.declared.cert.Finding.TheVariants as finding
use Rattle.pg_cert.specs.declared.cert.Cert.{Cert}
use Rattle.pg_cert.specs.declared.line.Heading.{Heading}
use Rattle.pg_cert.specs.declared.line.Line.{Line}
use Rattle.pg_cert.specs.declared.line.Line.TheVariants.{First, Header, Step, Remove, Size, Psw, Cells, End}
use Rattle.pg_cert.specs.Lines.{line_text, IsLine}
use Rattle.pg_cert.specs.Reading.{but_last}
use Rattle.pg_cert.specs.Texts.{row_lines, rows_before, state_lines, act_line, found_of, body_lines, findings_lines, family_of, cert_lines, lines_text, cert_text, AreListed, IsSpellable}
use Rattle.pg_cert.proofs.OneText.{one_line}
use Rattle.pg_cert.proofs.Said.{text_ends, no_end_before}
use Rattle.pg_cert.proofs.Parted.{starts, parted}
use Rattle.pg_cert.proofs.RowLemmas.{all_zero}
use Rattle.pg_cert.proofs.OneState.{pair_once}

-- ---- what stands below a header

act_once : (x y : Act) → act_line x ≡ act_line y → x ≡ y
act_once (act.Add x) (act.Add y) e = let same : x ≡ y = cc in cc
act_once (act.Add x) (act.Remove y) e = absurd cc
act_once (act.Remove x) (act.Add y) e = absurd cc
act_once (act.Remove x) (act.Remove y) e = let same : x ≡ y = cc in cc

acts_once : (xs ys : List Act) → map act_line xs ≡ map act_line ys → xs ≡ ys
acts_once [] [] e = refl
acts_once [] (y ∷ ys) e = absurd cc
acts_once (x ∷ xs) [] e = absurd cc
acts_once (x ∷ xs) (y ∷ ys) e =
    let head : act_line x ≡ act_line y = cc in
    let tail : map act_line xs ≡ map act_line ys = cc in
    let one : x ≡ y = act_once x y head in
    let rest : xs ≡ ys = acts_once xs ys tail in
    cc

steps_once : (xs ys : List LogStep) → map Step xs ≡ map Step ys → xs ≡ ys
steps_once [] [] e = refl
steps_once [] (y ∷ ys) e = absurd cc
steps_once (x ∷ xs) [] e = absurd cc
steps_once (x ∷ xs) (y ∷ ys) e =
    let head : x ≡ y = cc in
    let tail : map Step xs ≡ map Step ys = cc in
    let rest : xs ≡ ys = steps_once xs ys tail in
    cc

body_once : (f g : Finding) → AreListed f → AreListed g → found_of f ≡ found_of g → body_lines f ≡ body_lines g → f ≡ g
body_once (finding.Refuted xs) (finding.Refuted ys) lf lg e h = ap finding.Refuted (acts_once xs ys h)
body_once (finding.Refuted xs) (finding.Shown u v) lf lg e h = absurd cc
body_once (finding.Refuted xs) (finding.Spent m ys) lf lg e h = absurd cc
body_once (finding.Shown s t) (finding.Refuted ys) lf lg e h = absurd cc
body_once (finding.Shown s t) (finding.Shown u v) lf lg e h =
    let both = pair_once s t u v lf.0 lf.1 lg.0 lg.1 h in
    ap (λ x. finding.Shown x t) both.0 ∙ ap (finding.Shown u) both.1
body_once (finding.Shown s t) (finding.Spent m ys) lf lg e h = absurd cc
body_once (finding.Spent k xs) (finding.Refuted ys) lf lg e h = absurd cc
body_once (finding.Spent k xs) (finding.Shown u v) lf lg e h = absurd cc
body_once (finding.Spent k xs) (finding.Spent m ys) lf lg e h =
    let same : k ≡ m = cc in
    ap (λ n. finding.Spent n xs) same ∙ ap (finding.Spent m) (steps_once xs ys h)

-- ---- where bodies end

-- a line that begins a finding, or is the first or the last of a certificate
abbrev is_mark : Line → Bool
is_mark (First heading) = true
is_mark (Header name kind found) = true
is_mark (Step step) = false
is_mark (Remove numbers) = false
is_mark (Size n) = false
is_mark (Psw psw) = false
is_mark (Cells at words) = false
is_mark End = true

no_mark_act : (x : Act) → is_mark (act_line x) ≡ false
no_mark_act (act.Add step) = refl
no_mark_act (act.Remove numbers) = refl

no_mark_acts : (xs : List Act) → list_any is_mark (map act_line xs) ≡ false
no_mark_acts [] = refl
no_mark_acts (x ∷ xs) =
    or_from (is_mark (act_line x)) (list_any is_mark (map act_line xs)) (no_mark_act x) (no_mark_acts xs)

no_mark_steps : (xs : List LogStep) → list_any is_mark (map Step xs) ≡ false
no_mark_steps [] = refl
no_mark_steps (x ∷ xs) = no_mark_steps xs

no_mark_row : (first : ℕ) (words : List ℕ) → list_any is_mark (row_lines first words) ≡ false
no_mark_row first words = by (all_zero words)
  where
    by : (zero : Bool) → list_any is_mark (cond zero [] (Cells first words ∷ [])) ≡ false
    by true = refl
    by false = refl

no_mark_rows : (k : ℕ) (cells : List ℕ) → list_any is_mark (rows_before k cells) ≡ false
unfolding rows_before
no_mark_rows zero cells = refl
no_mark_rows (suc k) cells =
    list_any-append is_mark (rows_before k cells) (row_lines (line_cells * k) (line_words k cells))
    ∙ or_from (list_any is_mark (rows_before k cells))
    (list_any is_mark (row_lines (line_cells * k) (line_words k cells)))
    (no_mark_rows k cells) (no_mark_row (line_cells * k) (line_words k cells))

no_mark : (f : Finding) → list_any is_mark (body_lines f) ≡ false
no_mark (finding.Refuted acts) = no_mark_acts acts
no_mark (finding.Shown s t) =
    list_any-append is_mark (state_lines s) (state_lines t)
    ∙ or_from (list_any is_mark (state_lines s)) (list_any is_mark (state_lines t))
    (no_mark_rows (line_count s.size) (storage_of s.size s.cells))
    (no_mark_rows (line_count t.size) (storage_of t.size t.cells))
no_mark (finding.Spent k steps) = no_mark_steps steps

-- ---- findings

module _ (d : Desc) (family : Family) where
  mark_next : (n : ℕ) (fs : List Finding) → starts is_mark (findings_lines d family n fs ++ End ∷ []) ≡ true
  unfolding findings_lines
  mark_next n [] = refl
  mark_next n (f ∷ fs) = refl

  findings_once : (n : ℕ) (fs gs : List Finding) → All AreListed fs → All AreListed gs →
      findings_lines d family n fs ++ End ∷ [] ≡ findings_lines d family n gs ++ End ∷ [] → fs ≡ gs
  unfolding findings_lines
  findings_once n [] [] lf lg e = refl
  findings_once n [] (g ∷ gs) lf lg e = absurd cc
  findings_once n (f ∷ fs) [] lf lg e = absurd cc
  findings_once n (f ∷ fs) (g ∷ gs) lf lg e =
      let found : found_of f ≡ found_of g = cc in
      let next_f : List Line = findings_lines d family (suc n) fs in
      let next_g : List Line = findings_lines d family (suc n) gs in
      let behind : (body_lines f ++ next_f) ++ End ∷ [] ≡ (body_lines g ++ next_g) ++ End ∷ [] = cc in
      let both = parted is_mark (body_lines f) (body_lines g) (next_f ++ End ∷ []) (next_g ++ End ∷ [])
      (no_mark f) (no_mark g) (mark_next (suc n) fs) (mark_next (suc n) gs)
      (sym (append_assoc (body_lines f) next_f (End ∷ [])) ∙ behind ∙ append_assoc (body_lines g) next_g (End ∷ [])) in
      let one : f ≡ g = body_once f g (All-head AreListed f fs lf) (All-head AreListed g gs lg) found both.0 in
      let rest : fs ≡ gs =
      findings_once (suc n) fs gs (All-tail AreListed f fs lf) (All-tail AreListed g gs lg) both.1 in
      cc

-- ---- texts

module _ (shape : Shape) (numbers : IsShape shape) where
  first_ends : (line : Line) (lines : List Line) →
      line_text shape line ++ lines_text shape lines ≡ but_last (line_text shape line) ++ 10 ∷ lines_text shape lines
  first_ends line lines =
      ap (λ t. t ++ lines_text shape lines) (text_ends shape line)
      ∙ append_assoc (but_last (line_text shape line)) (10 ∷ []) (lines_text shape lines)

  some_text : (line : Line) (lines : List Line) → [] ≡ line_text shape line ++ lines_text shape lines → ⊥
  some_text line lines e =
      let long = ap length (e ∙ first_ends line lines) in
      let parts = length-append (but_last (line_text shape line)) (10 ∷ lines_text shape lines) in
      omega (arith, long, parts)

  lines_once : (xs ys : List Line) → All (IsLine shape) xs → All (IsLine shape) ys →
      lines_text shape xs ≡ lines_text shape ys → xs ≡ ys
  unfolding lines_text
  lines_once [] [] hx hy e = refl
  lines_once [] (y ∷ ys) hx hy e = absurd (some_text y ys e)
  lines_once (x ∷ xs) [] hx hy e = absurd (some_text x xs (sym e))
  lines_once (x ∷ xs) (y ∷ ys) hx hy e =
      let in_x : IsLine shape x = All-head (IsLine shape) x xs hx in
      let in_y : IsLine shape y = All-head (IsLine shape) y ys hy in
      let text_x : List ℕ = lines_text shape xs in
      let text_y : List ℕ = lines_text shape ys in
      let both = parted (λ c. c == 10) (but_last (line_text shape x)) (but_last (line_text shape y))
      (10 ∷ text_x) (10 ∷ text_y)
      (no_end_before shape numbers x in_x) (no_end_before shape numbers y in_y) refl refl
      (sym (first_ends x xs) ∙ e ∙ first_ends y ys) in
      let one : x ≡ y = one_line shape x y numbers in_x in_y
      (text_ends shape x ∙ ap (λ t. t ++ 10 ∷ []) both.0 ∙ sym (text_ends shape y)) in
      let ends : 10 ∷ text_x ≡ 10 ∷ text_y = both.1 in
      let behind : text_x ≡ text_y = cc in
      let rest : xs ≡ ys =
      lines_once xs ys (All-tail (IsLine shape) x xs hx) (All-tail (IsLine shape) y ys hy) behind in
      cc

-- ---- certificates

pub cert_once : (d : Desc) → IsShape (shape_of d) → (h k : Heading) (x y : Cert) → IsSpellable h d x →
    IsSpellable k d y → cert_text d h x ≡ cert_text d k y → (h ≡ k) × (x ≡ y)
unfolding cert_lines
cert_once d numbers h k x y sx sy e =
    let lines : cert_lines d h x ≡ cert_lines d k y =
    lines_once (shape_of d) numbers (cert_lines d h x) (cert_lines d k y) sx.in_range sy.in_range e in
    let heading : h ≡ k = cc in
    let family : x.family ≡ y.family = sym sx.family ∙ ap family_of heading ∙ sy.family in
    let behind : findings_lines d x.family 0 x.findings ++ End ∷ [] ≡
    findings_lines d y.family 0 y.findings ++ End ∷ [] = cc in
    let findings : x.findings ≡ y.findings =
    findings_once d y.family 0 x.findings y.findings sx.listed sy.listed
    (ap (λ f. findings_lines d f 0 x.findings ++ End ∷ []) (sym family) ∙ behind) in
    (heading, λ i. record { family = family i; findings = findings i })
