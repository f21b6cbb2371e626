-- Lines, one after another.
use Rattle.std.proofs.Common.{◌≡◌, ℕ, suc, ◌+◌, ◌/◌, ◌<◌, ◌≤◌, List, [], ◌∷◌, ◌++◌, map, length, get_or, drop, Some, refl, sym, ap, ◌∙◌, append_assoc, arith, drop-cons}
use Rattle.std.specs.Prelude.{slice_get}
use Rattle.std.proofs.lemmas.List.{append-nil, drop-drop, drop_more, drop_all, length-drop, get_or-drop}
use Rattle.std.proofs.lemmas.List.Elements.{All-drop}
use Rattle.std.proofs.lemmas.Option.{get_or_from_slice_get}
use Rattle.pg_word.specs.declared.shape.Shape.{Shape}
use Rattle.pg_word.specs.declared.sparse.Sparse.{Sparse}
use Rattle.pg_word.specs.Sparse.{address_at, IsCellList}
use Rattle.pg_ast.specs.declared.tree.Desc.{Desc}
use Rattle.pg_lang_meaning.specs.States.{shape_of}
use Rattle.pg_lang_valid.specs.Twice.{instr_names}
use Rattle.pg_type.specs.declared.kind.Kind.{Kind}
use Rattle.pg_cert.specs.declared.cert.Family.{Family}
use Rattle.pg_cert.specs.declared.cert.Finding.{Finding}
use Rattle.pg_cert.specs.declared.line.Heading.{Heading}
use Rattle.pg_cert.specs.declared.line.Line.{Line}
use Rattle.pg_cert.specs.declared.line.Line.TheVariants.{First, Cells, End}
use Rattle.pg_cert.specs.Lines.{heading_parts, size_parts, psw_parts, cells_parts, end_parts, parts_text, line_parts, line_text}
use Rattle.pg_cert.specs.Verdicts.{kind_count}
use Rattle.pg_cert.specs.Texts.{lines_text, rows_of, state_lines, kind_of, named_lines, finding_lines, findings_lines}
use Rattle.pg_cert.proofs.RowLemmas.{no_rows}

pub lines_text-append : (shape : Shape) (xs ys : List Line) → lines_text shape (xs ++ ys) ≡ lines_text shape xs ++ lines_text shape ys
unfolding lines_text
lines_text-append shape [] ys = refl
lines_text-append shape (x ∷ xs) ys =
    ap (λ t. line_text shape x ++ t) (lines_text-append shape xs ys) ∙ sym (append_assoc (line_text shape x) (lines_text shape xs) (lines_text shape ys))

-- texts put one after another
pub put_two : (shape : Shape) (old now : List ℕ) (xs ys : List Line) → now ≡ (old ++ lines_text shape xs) ++ lines_text shape ys → now ≡ old ++ lines_text shape (xs ++ ys)
put_two shape old now xs ys h =
    h ∙ append_assoc old (lines_text shape xs) (lines_text shape ys) ∙ ap (λ t. old ++ t) (sym (lines_text-append shape xs ys))

-- one line more of those that are put
pub lines_more : {A : Type 0} (shape : Shape) (f : A → Line) (xs : List A) (i : ℕ) (d : A) (old new due : List ℕ) → i < length xs → new ≡ old ++ line_text shape (f (get_or xs i d)) → old ++ lines_text shape (map f (drop i xs)) ≡ due →
    new ++ lines_text shape (map f (drop (i + 1) xs)) ≡ due
unfolding lines_text
lines_more shape f xs i d old new due lt e h =
    ap (λ z. z ++ lines_text shape (map f (drop (i + 1) xs))) e ∙ append_assoc old (line_text shape (f (get_or xs i d))) (lines_text shape (map f (drop (i + 1) xs)))
    ∙ ap (λ z. old ++ lines_text shape (map f z)) (sym (drop_more xs i d lt)) ∙ h

-- ---- rows

pub rest_listed : (n : ℕ) (cells : List (ℕ × ℕ)) → IsCellList cells → IsCellList (drop n cells)
rest_listed n cells h = record {
  ascending = λ i j l short.
      let at_i : address_at (drop n cells) i ≡ address_at cells (n + i) = ap (λ (c : ℕ × ℕ). c.0) (get_or-drop n cells i (0, 0)) in
      let at_j : address_at (drop n cells) j ≡ address_at cells (n + j) = ap (λ (c : ℕ × ℕ). c.0) (get_or-drop n cells j (0, 0)) in
      let inside : n + j < length cells = omega (arith, length-drop n cells) in
      let rise = h.ascending (n + i) (n + j) (omega arith) inside in
      omega arith;
  not_zero = All-drop (λ cell. cell.1 ≡ 0 → ⊥) n cells h.not_zero;
}

module _ (shape : Shape) (size : ℕ) where
  pub rows_over : (cells : List (ℕ × ℕ)) (now all : List ℕ) → cells ≡ [] → now ++ lines_text shape (rows_of size cells) ≡ all → now ≡ all
  unfolding lines_text
  rows_over cells now all e h =
      sym (ap (λ cs. now ++ lines_text shape (rows_of size cs)) e ∙ ap (λ ls. now ++ lines_text shape ls) (no_rows size) ∙ append-nil now) ∙ h

  pub rows_more : (cells : List (ℕ × ℕ)) (at count first : ℕ) (words now next all : List ℕ) → now ++ lines_text shape (rows_of size (drop at cells)) ≡ all →
      rows_of size (drop at cells) ≡ Cells first words ∷ rows_of size (drop count (drop at cells)) → next ≡ now ++ parts_text (cells_parts shape.w first words) →
      next ++ lines_text shape (rows_of size (drop (at + count) cells)) ≡ all
  unfolding lines_text line_text line_parts
  rows_more cells at count first words now next all h rows e =
      let row : List ℕ = parts_text (cells_parts shape.w first words) in
      let left : List ℕ = lines_text shape (rows_of size (drop (at + count) cells)) in
      let behind : drop count (drop at cells) ≡ drop (at + count) cells = drop-drop count at cells in
      ap (λ t. t ++ left) e ∙ append_assoc now row left
      ∙ ap (λ cs. now ++ (row ++ lines_text shape (rows_of size cs))) (sym behind)
      ∙ ap (λ ls. now ++ lines_text shape ls) (sym rows) ∙ h

pub state_text_put : (shape : Shape) (s : Sparse) (old now : List ℕ) → now ≡ ((old ++ parts_text (size_parts s.size)) ++ parts_text (psw_parts s.psw)) ++ lines_text shape (rows_of s.size s.cells) →
    now ≡ old ++ lines_text shape (state_lines s)
unfolding lines_text line_text line_parts
state_text_put shape s old now h =
    let one : List ℕ = parts_text (size_parts s.size) in
    let two : List ℕ = parts_text (psw_parts s.psw) in
    let rows : List ℕ = lines_text shape (rows_of s.size s.cells) in
    h ∙ append_assoc (old ++ one) two rows ∙ append_assoc old one (two ++ rows)

-- ---- findings

module _ (d : Desc) (family : Family) where
  pub findings_over : (n : ℕ) (findings : List Finding) (now all : List ℕ) → length findings ≤ n → now ++ lines_text (shape_of d) (findings_lines d family n (drop n findings)) ≡ all → now ≡ all
  unfolding lines_text findings_lines
  findings_over n findings now all l h =
      sym (ap (λ fs. now ++ lines_text (shape_of d) (findings_lines d family n fs)) (drop_all n findings l) ∙ append-nil now) ∙ h

  pub findings_more : (n : ℕ) (f : Finding) (findings : List Finding) (name : List ℕ) (kind : Kind) (now next all : List ℕ) → n < length findings → f ≡ get_or findings n f →
      slice_get (instr_names d.instrs) (n / kind_count family) ≡ Some name → kind ≡ kind_of family n → next ≡ now ++ lines_text (shape_of d) (named_lines name kind f) →
      now ++ lines_text (shape_of d) (findings_lines d family n (drop n findings)) ≡ all →
      next ++ lines_text (shape_of d) (findings_lines d family (n + 1) (drop (n + 1) findings)) ≡ all
  unfolding findings_lines
  findings_more n f findings name kind now next all l is named kinds e h =
      let s : Shape = shape_of d in
      let step : suc n ≡ n + 1 = omega arith in
      let rest : List Line = findings_lines d family (n + 1) (drop (n + 1) findings) in
      let split : drop n findings ≡ f ∷ drop (suc n) findings = drop-cons findings n f l ∙ ap (λ (x : Finding). x ∷ drop (suc n) findings) (sym is) in
      let lines : findings_lines d family n (drop n findings) ≡ named_lines name kind f ++ rest =
      ap (findings_lines d family n) split
      ∙ ap (λ (m : ℕ). finding_lines d family n f ++ findings_lines d family m (drop m findings)) step
      ∙ ap (λ (w : List ℕ). named_lines w (kind_of family n) f ++ rest) (get_or_from_slice_get (instr_names d.instrs) (n / kind_count family) name [] named)
      ∙ ap (λ (k : Kind). named_lines name k f ++ rest) (sym kinds) in
      ap (λ t. t ++ lines_text s rest) e ∙ put_two s now ((now ++ lines_text s (named_lines name kind f)) ++ lines_text s rest) (named_lines name kind f) rest refl
      ∙ ap (λ ls. now ++ lines_text s ls) (sym lines) ∙ h

  pub cert_put : (heading : Heading) (findings : List Line) (text : List ℕ) →
      text ≡ ((parts_text (heading_parts heading)) ++ lines_text (shape_of d) findings) ++ parts_text end_parts → text ≡ lines_text (shape_of d) (First heading ∷ findings ++ End ∷ [])
  unfolding lines_text line_text line_parts
  cert_put heading findings text h =
      h ∙ ap (λ t. (parts_text (heading_parts heading) ++ lines_text (shape_of d) findings) ++ t) (sym (append-nil (parts_text end_parts)))
      ∙ sym (lines_text-append (shape_of d) (First heading ∷ findings) (End ∷ []))
