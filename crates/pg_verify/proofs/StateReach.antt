-- The lines of a state are taken, row by row.
use Rattle.std.proofs.Common.{◌≡◌, ℕ, zero, suc, ◌+◌, ◌*◌, Bool, true, false, if◌then◌else◌, List, [], ◌∷◌, length, Option, Some, Ok, refl, sym, ap, subst}
use Rattle.std.specs.Prelude.{◌==◌}
use Rattle.std.specs.List.{list_all}
use Rattle.pg_word.specs.Shape.{IsShape}
use Rattle.pg_word.specs.declared.psw.Psw.{Psw}
use Rattle.pg_word.specs.declared.sparse.Sparse.{Sparse}
use Rattle.pg_word.specs.Sparse.{IsCellList, storage_of}
use Rattle.pg_word.proofs.SparseLemmas.{length-storage_of}
use Rattle.pg_ast.specs.declared.tree.Desc.{Desc}
use Rattle.pg_lang_meaning.specs.States.{shape_of}
use Rattle.pg_image.specs.Lines.{line_words, line_count}
use Rattle.pg_cert.specs.declared.cert.Family.{Family}
use Rattle.pg_cert.specs.declared.line.Line.{Line}
use Rattle.pg_cert.specs.declared.line.Line.TheVariants as line
use Rattle.pg_cert.specs.Lines.{line_text}
use Rattle.pg_cert.specs.Texts.{row_lines, rows_before, state_lines, lines_text}
use Rattle.pg_cert_drawn.specs.Drawn.{Drawn, drawn_of, drawn, with_row}
use Rattle.pg_cert_drawn.proofs.RowsBack.{cells_before, cells_again, zeros_passed, rows_drawn, row_drawn}
use Rattle.pg_verify.specs.Reader.{Pair, FirstState, BothStates, Open, Showing, Mark}
use Rattle.pg_verify.specs.Taking.{reopened, with_size, with_psw, as_first, as_second, with_cells, shown_on, after_state_line, after_form}
use Rattle.pg_verify.proofs.ReachLemmas.{spot, Fits, fits_front, fits_back, Reaches, reaches_none, reaches_then, reaches_cons}

-- ---- rows

-- how a state that is being drawn stands in its pair
pub record IsPlace (inject : Drawn → Pair) : Type 0 where
  pub row : (first : ℕ) (words : List ℕ) (s t : Drawn) → with_row first words s ≡ Some t →
      with_cells first words (inject s) ≡ Some (inject t)

pub as_first_place : IsPlace FirstState
as_first_place = record { row = λ first words s t e. ap as_first e }

pub as_second_place : (r : Drawn) → IsPlace (BothStates r)
as_second_place r = record { row = λ first words s t e. ap (as_second r) e }

module _ (d : Desc) (numbers : IsShape (shape_of d)) (family : Family) (removes : Bool) (marks : List Mark) (header : ℕ)
  where
    pub record IsShowing (pair : Pair) (ms : List Mark) (o : Open) : Type 0 where
      pub marks_are : ms ≡ marks
      pub is : o ≡ Showing header pair

    pub from_showing : (pair : Pair) (ms : List Mark) (o : Open) (m j : ℕ) (ls : List Line)
        (P : List Mark → Open → Type 0) → IsShowing pair ms o →
        Reaches d family removes (spot d family removes marks (Showing header pair) m j) ls P →
        Reaches d family removes (spot d family removes ms o m j) ls P
    from_showing pair ms o m j ls P h r =
        subst (λ x. Reaches d family removes (spot d family removes x o m j) ls P) (sym h.marks_are)
        (subst (λ x. Reaches d family removes (spot d family removes marks x m j) ls P) (sym h.is) r)

    state_line_taken : (n j : ℕ) (p q : Pair) (go : Pair → Option Pair) → go p ≡ Some q →
        reopened (spot d family removes marks (Showing header p) n j) (after_state_line n go (Showing header p)) ≡ Ok
        (spot d family removes marks (Showing header q) n j)
    unfolding after_state_line
    state_line_taken n j p q go e =
        ap (λ o. reopened (spot d family removes marks (Showing header p) n j) (shown_on n header o)) e

    size_taken : (n j size : ℕ) (p q : Pair) → with_size size p ≡ Some q →
        after_form (spot d family removes marks (Showing header p) n j) (line.Size size) ≡ Ok
        (spot d family removes marks (Showing header q) n j)
    unfolding after_form
    size_taken n j size p q e = state_line_taken n j p q (with_size size) e

    psw_taken : (n j : ℕ) (psw : Psw) (p q : Pair) → with_psw psw p ≡ Some q →
        after_form (spot d family removes marks (Showing header p) n j) (line.Psw psw) ≡ Ok
        (spot d family removes marks (Showing header q) n j)
    unfolding after_form
    psw_taken n j psw p q e = state_line_taken n j p q (with_psw psw) e

    cells_taken : (n j first : ℕ) (words : List ℕ) (p q : Pair) → with_cells first words p ≡ Some q →
        after_form (spot d family removes marks (Showing header p) n j) (line.Cells first words) ≡ Ok
        (spot d family removes marks (Showing header q) n j)
    unfolding after_form
    cells_taken n j first words p q e = state_line_taken n j p q (with_cells first words) e

    module _ (inject : Drawn → Pair) (place : IsPlace inject) (size : ℕ) (psw : Psw) (storage : List ℕ)
        (len : length storage ≡ size) where
      abbrev after_rows : ℕ → Drawn
      after_rows k = rows_drawn size psw storage k

      row_reaches : (k n j : ℕ) → Fits d j (row_lines (8 * k) (line_words k storage)) →
          Reaches d family removes (spot d family removes marks (Showing header (inject (after_rows k))) n j)
          (row_lines (8 * k) (line_words k storage)) (IsShowing (inject (after_rows (suc k))))
      unfolding cells_before
      row_reaches k n j fits = by (list_all (λ w. w == 0) (line_words k storage)) refl fits
        where
          by : (b : Bool) → list_all (λ w. w == 0) (line_words k storage) ≡ b →
              Fits d j (if b then [] else line.Cells (8 * k) (line_words k storage) ∷ []) →
              Reaches d family removes (spot d family removes marks (Showing header (inject (after_rows k))) n j)
              (if b then [] else line.Cells (8 * k) (line_words k storage) ∷ [])
              (IsShowing (inject (after_rows (suc k))))
          by true z fits =
              reaches_none d numbers family removes marks (Showing header (inject (after_rows k))) n j
              (IsShowing (inject (after_rows (suc k))))
              (record {
                marks_are = refl;
                is =
                    ap (λ cs. Showing header (inject (record { size = size; psw = psw; cells = cs }))) (zeros_passed k storage z);
              })
          by false z fits =
              reaches_cons d numbers family removes removes removes marks marks (Showing header (inject (after_rows k)))
              (Showing header (inject (after_rows (suc k)))) n j
              (line.Cells (8 * k) (line_words k storage)) [] (IsShowing (inject (after_rows (suc k)))) fits
              (λ i. cells_taken (suc n) i (8 * k) (line_words k storage) (inject (after_rows k))
              (inject (after_rows (suc k))) (place.row (8 * k) (line_words k storage) (after_rows k)
              (after_rows (suc k)) (row_drawn size psw storage len k)))
              (λ f. reaches_none d numbers family removes marks (Showing header (inject (after_rows (suc k)))) (suc n) _
              (IsShowing (inject (after_rows (suc k)))) (record { marks_are = refl; is = refl }))

      rows_reach : (k n j : ℕ) → Fits d j (rows_before k storage) →
          Reaches d family removes (spot d family removes marks (Showing header (inject (drawn size psw))) n j)
          (rows_before k storage) (IsShowing (inject (after_rows k)))
      unfolding rows_before cells_before
      rows_reach zero n j fits =
          reaches_none d numbers family removes marks (Showing header (inject (drawn size psw))) n j
          (IsShowing (inject (after_rows zero))) (record { marks_are = refl; is = refl })
      rows_reach (suc k) n j fits =
          let before : List Line = rows_before k storage in
          let row : List Line = row_lines (8 * k) (line_words k storage) in
          reaches_then d numbers family removes removes
          (spot d family removes marks (Showing header (inject (drawn size psw))) n j) (rows_before k storage)
          (row_lines (8 * k) (line_words k storage)) (IsShowing (inject (after_rows k)))
          (IsShowing (inject (after_rows (suc k))))
          (rows_reach k n j (fits_front d j (rows_before k storage) (row_lines (8 * k) (line_words k storage)) fits))
          (λ ms o m h.
          from_showing (inject (after_rows k)) ms o m (j + length (lines_text (shape_of d) (rows_before k storage)))
          (row_lines (8 * k) (line_words k storage)) (IsShowing (inject (after_rows (suc k)))) h
          (row_reaches k m (j + length (lines_text (shape_of d) (rows_before k storage)))
          (fits_back d j (rows_before k storage) (row_lines (8 * k) (line_words k storage)) fits)))

    -- a state, from the pair that waits for its size on
    pub state_reaches : (inject : Drawn → Pair) (place : IsPlace inject) (p q : Pair) (s : Sparse) (n j : ℕ) →
        IsCellList s.cells → with_size s.size p ≡ Some q → with_psw s.psw q ≡ Some (inject (drawn s.size s.psw)) →
        Fits d j (state_lines s) →
        Reaches d family removes (spot d family removes marks (Showing header p) n j) (state_lines s)
        (IsShowing (inject (drawn_of s)))
    state_reaches inject place p q s n j h es ep fits =
        let rows : List Line = rows_before (line_count s.size) (storage_of s.size s.cells) in
        let all : ◌≡◌ {A = Pair} (inject
        (record { size = s.size; psw = s.psw; cells = cells_before (line_count s.size) (storage_of s.size s.cells) }))
        (inject (drawn_of s)) =
        ap (λ cs. inject (record { size = s.size; psw = s.psw; cells = cs })) (cells_again s.size s.cells h s.within) in
        reaches_cons d numbers family removes removes removes marks marks (Showing header p) (Showing header q) n j
        (line.Size s.size) (line.Psw s.psw ∷ rows) (IsShowing (inject (drawn_of s))) fits
        (λ i. size_taken (suc n) i s.size p q es)
        (λ f. reaches_cons d numbers family removes removes removes marks marks (Showing header q)
        (Showing header (inject (drawn s.size s.psw))) (suc n) _ (line.Psw s.psw) rows
        (IsShowing (inject (drawn_of s))) f
        (λ i. psw_taken (suc (suc n)) i s.psw q (inject (drawn s.size s.psw)) ep)
        (λ g. subst (λ x. Reaches d family removes
        (spot d family removes marks (Showing header (inject (drawn s.size s.psw))) (suc (suc n))
        (j + length (line_text (shape_of d) (line.Size s.size)) + length (line_text (shape_of d) (line.Psw s.psw))))
        rows (IsShowing x)) all
        (rows_reach inject place s.size s.psw (storage_of s.size s.cells) (length-storage_of s.size s.cells)
        (line_count s.size) (suc (suc n))
        (j + length (line_text (shape_of d) (line.Size s.size)) + length (line_text (shape_of d) (line.Psw s.psw)))
        g)))
