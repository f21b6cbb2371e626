-- The rows of a listed state, as they are shown.
use Rattle.std.proofs.Common.{◌≡◌, ℕ, ◌+◌, List, ◌∷◌, ◌++◌, drop, refl, sym, ap, ◌∙◌}
use Rattle.pg_word.specs.declared.shape.Shape.{Shape}
use Rattle.pg_word.specs.declared.sparse.Sparse.{Sparse}
use Rattle.pg_image.specs.Lines.{size_text, psw_text, cells_text}
use Rattle.pg_cert.specs.declared.line.Line.TheVariants.{Cells}
use Rattle.pg_cert.specs.Lines.{psw_parts, cells_parts, parts_text, line_parts, line_text}
use Rattle.pg_cert.specs.Texts.{rows_of, lines_text}
use Rattle.pg_cert.proofs.TextLemmas.{rows_more}
use Rattle.pg_cert.proofs.StateText.{size_line, psw_line, cells_line, lines_of_state}
use Rattle.pg_report.specs.Verdicts.{sparse_text}

-- ---- rows that were put, and those that are left

pub row_put : (shape : Shape) (size : ℕ) (cells : List (ℕ × ℕ)) (at count first : ℕ) (words sent whole : List ℕ) →
    sent ++ lines_text shape (rows_of size (drop at cells)) ≡ whole →
    rows_of size (drop at cells) ≡ Cells first words ∷ rows_of size (drop count (drop at cells)) →
    (sent ++ cells_text shape.w first words) ++ lines_text shape (rows_of size (drop (at + count) cells)) ≡ whole
row_put shape size cells at count first words sent whole h rows =
    let left : List ℕ = lines_text shape (rows_of size (drop (at + count) cells)) in
    ap (λ t. (sent ++ t) ++ left) (sym (cells_line shape.w first words))
    ∙ rows_more shape size cells at count first words sent (sent ++ parts_text (cells_parts shape.w first words)) whole
    h rows refl

-- ---- states

pub sparse_parts : (shape : Shape) (s : Sparse) →
    sparse_text shape.w s ≡ size_text s.size ++ (psw_text s.psw ++ lines_text shape (rows_of s.size s.cells))
unfolding sparse_text lines_text line_text line_parts
sparse_parts shape s =
    let rows : List ℕ = lines_text shape (rows_of s.size s.cells) in
    sym (lines_of_state shape s)
    ∙ ap (λ t. t ++ (parts_text (psw_parts s.psw) ++ rows)) (size_line s.size)
    ∙ ap (λ t. size_text s.size ++ (t ++ rows)) (psw_line s.psw)
