-- The lines of a state that is drawn: those of its size, its program status word and its rows so far.
use Rattle.std.proofs.Common.{◌≡◌, ◌≢◌, ℕ, ◌-◌, ◌*◌, ◌/◌, ◌%◌, ◌<◌, ◌≤◌, min, Bool, true, false, not, if◌then◌else◌, List, [], ◌∷◌, ◌++◌, length, None, Some, All, refl, sym, ap, subst, ◌∙◌, arith}
use Rattle.std.specs.Prelude.{◌&&◌, ◌||◌, ◌==◌, ◌^◌, nat_lt, nat_le}
use Rattle.std.specs.List.{list_all, list_any}
use Rattle.std.proofs.lemmas.Bool.{and_parts, ltb-true, leb-true, eqb-true}
use Rattle.std.proofs.lemmas.List.Elements.{All-nil}
use Rattle.std.proofs.lemmas.List.Sums.{AllPass-from_list_all}
use Rattle.std.proofs.lemmas.Option.{same_Some}
use Rattle.pg_word.specs.declared.shape.Shape.{Shape}
use Rattle.pg_word.specs.declared.psw.Psw.{Psw}
use Rattle.pg_word.specs.declared.sparse.Sparse.{Sparse}
use Rattle.pg_word.specs.Sparse.{IsCellList, AreWithin, storage_of}
use Rattle.pg_image.specs.Lines.{line_cells, line_count}
use Rattle.pg_cert.specs.declared.line.Line.{Line}
use Rattle.pg_cert.specs.declared.line.Line.TheVariants as line
use Rattle.pg_cert.specs.Lines.{is_line, IsLine, most_number}
use Rattle.pg_cert.specs.Texts.{rows_before}
use Rattle.pg_cert_drawn.specs.Drawn.{Drawn, drawn, listed, row_fits, with_row}
use Rattle.pg_cert_drawn.proofs.RowLemmas.{listed_more, within_more, row_added, no_rows}

abbrev pub sparse_of : (s : Drawn) → AreWithin s.size s.cells → Sparse
sparse_of s h = record { size = s.size; psw = s.psw; cells = s.cells; within = h }

abbrev pub drawn_lines : Drawn → List Line
drawn_lines s = line.Size s.size ∷ line.Psw s.psw ∷ rows_before (line_count s.size) (storage_of s.size s.cells)

pub record IsDrawn (s : Drawn) : Type 0 where
  pub cells : IsCellList s.cells
  pub within : AreWithin s.size s.cells

pub drawn_new : (n : ℕ) (psw : Psw) → IsDrawn (drawn n psw)
drawn_new n psw = record {
  cells = record { ascending = λ i j l m. absurd (omega arith); not_zero = All-nil (λ (c : ℕ × ℕ). c.1 ≢ 0) };
  within = All-nil (λ (c : ℕ × ℕ). c.0 < n);
}

pub drawn_new-lines : (n : ℕ) (psw : Psw) → line.Size n ∷ line.Psw psw ∷ [] ≡ drawn_lines (drawn n psw)
drawn_new-lines n psw = ap (λ (ls : List Line). line.Size n ∷ line.Psw psw ∷ ls) (sym (no_rows n (line_count n)))

-- a row that is in range begins at a multiple of 8, is not empty and not all zero
pub record IsRow (first : ℕ) (words : List ℕ) : Type 0 where
  pub place : first % 8 ≡ 0
  pub some : 1 ≤ length words
  pub not_zero : list_all (λ w. w == 0) words ≡ false

any_not : (words : List ℕ) → list_any (λ x. not (x == 0)) words ≡ true → list_all (λ w. w == 0) words ≡ false
any_not [] e = absurd (let f : false ≡ true = e in cc)
any_not (w ∷ ws) e = by (w == 0) e (λ h. any_not ws h)
  where
    by : (b : Bool) → (not b || list_any (λ x. not (x == 0)) ws) ≡ true →
        (list_any (λ x. not (x == 0)) ws ≡ true → list_all (λ w. w == 0) ws ≡ false) →
        (b && list_all (λ w. w == 0) ws) ≡ false
    by true e rest = rest e
    by false e rest = refl

pub row_is : (shape : Shape) (first : ℕ) (words : List ℕ) → IsLine shape (line.Cells first words) → IsRow first words
unfolding is_line
row_is shape first words h =
    let w : ℕ = shape.w in
    let ends : Bool = nat_le first most_number && (first % line_cells == 0) in
    let count : Bool = nat_le 1 (length words) && nat_le (length words) line_cells in
    let any : Bool = list_any (λ x. not (x == 0)) words in
    let fit : Bool = list_all (λ x. nat_lt x (2 ^ w)) words in
    let a = and_parts ends (count && (any && fit)) h in
    let b = and_parts count (any && fit) a.1 in
    record {
      place = eqb-true (first % line_cells) 0 (and_parts (nat_le first most_number) (first % line_cells == 0) a.0).1;
      some = leb-true 1 (length words) (and_parts (nat_le 1 (length words)) (nat_le (length words) line_cells) b.0).0;
      not_zero = any_not words (and_parts any fit b.1).0;
    }

pub record IsRowOn (s t : Drawn) (first : ℕ) (words : List ℕ) : Type 0 where
  pub drawn : IsDrawn t
  pub lines_are : drawn_lines t ≡ drawn_lines s ++ line.Cells first words ∷ []

pub row_on : (s : Drawn) (first : ℕ) (words : List ℕ) (t : Drawn) → IsRow first words → with_row first words s ≡ Some t →
    IsDrawn s → IsRowOn s t first words
row_on s first words t row e h = by (row_fits s first words) refl e
  where
    below : row_fits s first words ≡ true → All (λ c. c.0 < first) s.cells
    below f = λ k d l. ltb-true _ first
        (AllPass-from_list_all (λ (c : ℕ × ℕ). nat_lt c.0 first) s.cells
        (and_parts (list_all (λ (c : ℕ × ℕ). nat_lt c.0 first) s.cells)
        (length words == min line_cells (s.size - first)) f).0 k d l)

    size : row_fits s first words ≡ true → length words ≡ min line_cells (s.size - first)
    size f = eqb-true (length words) (min line_cells (s.size - first))
        (and_parts (list_all (λ (c : ℕ × ℕ). nat_lt c.0 first) s.cells)
        (length words == min line_cells (s.size - first)) f).1

    eight : first ≡ 8 * (first / 8)
    eight = let p = row.place in omega arith

    new : Drawn
    new = record s { cells = s.cells ++ listed first words }

    on : row_fits s first words ≡ true → IsRowOn s new first words
    on f =
        let len = size f in
        let some = row.some in
        let rows : rows_before (line_count s.size) (storage_of s.size (s.cells ++ listed first words)) ≡ rows_before
        (line_count s.size) (storage_of s.size s.cells) ++ line.Cells first words ∷ [] =
        subst (λ n. rows_before (line_count s.size) (storage_of s.size (s.cells ++ listed n words)) ≡ rows_before
        (line_count s.size) (storage_of s.size s.cells) ++ line.Cells n words ∷ []) (sym eight)
        (row_added s.size (first / 8) s.cells words (subst (λ n. All (λ c. c.0 < n) s.cells) eight (below f))
        (len ∙ ap (λ n. min 8 (s.size - n)) eight) row.some row.not_zero) in
        record {
          drawn = record {
            cells = listed_more first words s.cells h.cells (below f);
            within =
                within_more s.size first words s.cells h.within (omega arith);
          };
          lines_are = ap (λ (ls : List Line). line.Size s.size ∷ line.Psw s.psw ∷ ls) rows;
        }

    by : (b : Bool) → row_fits s first words ≡ b → (if b then Some new else None) ≡ Some t → IsRowOn s t first words
    by true f g = subst (λ x. IsRowOn s x first words) (same_Some new t g) (on f)
    by false f g = absurd (cc)
