-- The lines of a state are its state text.
use Rattle.std.proofs.Common.{◌≡◌, ℕ, zero, suc, ◌*◌, ◌/◌, Bool, true, false, cond, List, [], ◌∷◌, ◌++◌, length, map, refl, sym, ap, ◌∙◌, append_assoc}
use Rattle.std.specs.Fmt.{decimal}
use Rattle.std.proofs.lemmas.List.{append-nil}
use Rattle.pg_word.specs.declared.shape.Shape.{Shape}
use Rattle.pg_word.specs.declared.psw.Psw.{Psw as Psws}
use Rattle.pg_word.specs.declared.sparse.Sparse.{Sparse}
use Rattle.pg_word.specs.Sparse.{storage_of}
use Rattle.pg_word.proofs.SparseLemmas.{length-storage_of}
use Rattle.pg_text.specs.Printing.{hex_text}
use Rattle.pg_image.specs.Lines.{size_text, psw_text, words_text, cells_text, cells_shown, line_cells, line_words, line_count, lines_before, state_text}
use Rattle.pg_cert.specs.declared.line.Line.TheVariants.{Cells}
use Rattle.pg_cert.specs.Lines.{size_parts, psw_parts, cells_parts, parts_text, line_parts, line_text, spaced}
use Rattle.pg_cert.specs.Texts.{row_lines, rows_before, rows_of, state_lines, lines_text}
use Rattle.pg_cert.proofs.Spacing.{parts_spaced}
use Rattle.pg_cert.proofs.RowLemmas.{all_zero}
use Rattle.pg_cert.proofs.TextLemmas.{lines_text-append}

pub size_line : (n : ℕ) → parts_text (size_parts n) ≡ size_text n
unfolding size_text
size_line n = refl

pub psw_line : (x : Psws) → parts_text (psw_parts x) ≡ psw_text x
unfolding psw_text
psw_line x = simp append_assoc

words_spaced : (w : ℕ) (words : List ℕ) → spaced (map (hex_text (w / 4)) words) ≡ words_text w words
unfolding spaced words_text
words_spaced w [] = refl
words_spaced w (x ∷ xs) = ap (λ t. 32 ∷ hex_text (w / 4) x ++ t) (words_spaced w xs)

pub cells_line : (w first : ℕ) (words : List ℕ) → parts_text (cells_parts w first words) ≡ cells_text w first words
unfolding cells_text
cells_line w first words =
    parts_spaced (decimal first ++ 58 ∷ []) (map (hex_text (w / 4)) words)
    ∙ ap (λ t. ((decimal first ++ 58 ∷ []) ++ t) ++ 10 ∷ []) (words_spaced w words)
    ∙ simp append_assoc

module _ (shape : Shape) where
  row_shown : (first : ℕ) (words : List ℕ) → lines_text shape (row_lines first words) ≡ cells_shown shape.w first words
  unfolding lines_text line_text line_parts cells_shown
  row_shown first words = by (all_zero words)
    where
      by : (b : Bool) →
          lines_text shape (cond b [] (Cells first words ∷ [])) ≡ cond b [] (cells_text shape.w first words)
      by true = refl
      by false = append-nil (parts_text (cells_parts shape.w first words)) ∙ cells_line shape.w first words

  rows_shown : (k : ℕ) (cells : List ℕ) → lines_text shape (rows_before k cells) ≡ lines_before shape.w k cells
  unfolding lines_text rows_before lines_before
  rows_shown zero cells = refl
  rows_shown (suc k) cells =
      let first : ℕ = line_cells * k in
      let words : List ℕ = line_words k cells in
      lines_text-append shape (rows_before k cells) (row_lines first words)
      ∙ ap (λ t. t ++ lines_text shape (row_lines first words)) (rows_shown k cells)
      ∙ ap (λ t. lines_before shape.w k cells ++ t) (row_shown first words)

  pub lines_of_state : (s : Sparse) →
      lines_text shape (state_lines s) ≡ state_text shape.w (storage_of s.size s.cells) s.psw
  unfolding lines_text line_text line_parts state_text
  lines_of_state s =
      let cells : List ℕ = storage_of s.size s.cells in
      let len : s.size ≡ length cells = sym (length-storage_of s.size s.cells) in
      let rows : List ℕ = lines_text shape (rows_of s.size s.cells) in
      let two : List ℕ = parts_text (psw_parts s.psw) in
      ap (λ t. t ++ (two ++ rows)) (size_line s.size) ∙ ap (λ t. size_text s.size ++ (t ++ rows)) (psw_line s.psw)
      ∙ ap (λ t. size_text s.size ++ (psw_text s.psw ++ t)) (rows_shown (line_count s.size) cells)
      ∙ sym (append_assoc (size_text s.size) (psw_text s.psw) (lines_before shape.w (line_count s.size) cells))
      ∙ ap (λ n. (size_text n ++ psw_text s.psw) ++ lines_before shape.w (line_count n) cells) len
