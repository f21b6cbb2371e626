-- The lines of a state whose numbers and words are in range.
use Rattle.std.proofs.Common.{◌≡◌, ℕ, zero, suc, ◌-◌, ◌*◌, ◌%◌, ◌^◌, ◌<◌, ◌≤◌, min, Bool, true, false, not, if◌then◌else◌, List, [], ◌∷◌, length, drop, All, refl, lit<, arith, length-drop, eq-eqb}
use Rattle.std.specs.Prelude.{◌==◌, ◌&&◌, ◌||◌, nat_lt, nat_le}
use Rattle.std.specs.List.{list_any, list_all}
use Rattle.std.proofs.Math.Nat.{pow-le-pow_right}
use Rattle.std.proofs.lemmas.Bool.{and_from, lt-ltb, le-leb}
use Rattle.std.proofs.lemmas.List.{length-take}
use Rattle.std.proofs.lemmas.List.Elements.{All-nil, All-cons, All-append, All-weaker, All-take, All-drop}
use Rattle.std.proofs.lemmas.List.Sums.{list_all-from_AllPass}
use Rattle.pg_word.specs.declared.shape.Shape.{Shape}
use Rattle.pg_word.specs.declared.psw.Psw.{Psw as Psws}
use Rattle.pg_word.specs.Shape.{IsShape}
use Rattle.pg_word.specs.Psw.{IsPsw}
use Rattle.pg_image.specs.Lines.{line_cells, line_words, line_count}
use Rattle.pg_cert.specs.declared.line.Line.TheVariants.{Size, Psw, Cells}
use Rattle.pg_cert.specs.Lines.{most_number, is_line, IsLine}
use Rattle.pg_cert.specs.Texts.{row_lines, rows_before}

some_word : (words : List ℕ) → list_all (λ x. x == 0) words ≡ false → list_any (λ x. not (x == 0)) words ≡ true
some_word [] e = absurd (cc)
some_word (word ∷ words) e = by (word == 0) e (some_word words)
  where
    by : (b : Bool) → (b && list_all (λ x. x == 0) words) ≡ false →
        (list_all (λ x. x == 0) words ≡ false → list_any (λ x. not (x == 0)) words ≡ true) →
        (not b || list_any (λ x. not (x == 0)) words) ≡ true
    by true f rest = rest f
    by false f rest = refl

module _ (shape : Shape) (numbers : IsShape shape) where
  pub size_in_range : (n : ℕ) → 2 ≤ n → n ≤ shape.q → IsLine shape (Size n)
  unfolding is_line
  size_in_range n least most = and_from (nat_le 2 n) (nat_le n shape.q) (le-leb 2 n least) (le-leb n shape.q most)

  pub psw_in_range : (psw : Psws) → IsPsw shape.a psw → IsLine shape (Psw psw)
  unfolding is_line
  psw_in_range psw h =
      let top : ℕ = 2 ^ shape.a in
      and_from (nat_lt psw.p top) (nat_lt psw.l top && nat_lt psw.b top) (lt-ltb psw.p top h.p)
      (and_from (nat_lt psw.l top) (nat_lt psw.b top) (lt-ltb psw.l top h.l) (lt-ltb psw.b top h.b))

  row_in_range : (first : ℕ) (words : List ℕ) → first ≤ most_number → (first % line_cells == 0) ≡ true →
      1 ≤ length words → length words ≤ line_cells → list_all (λ word. word == 0) words ≡ false →
      All (λ x. x < 2 ^ shape.w) words → IsLine shape (Cells first words)
  unfolding is_line
  row_in_range first words below place least most some fit =
      let count : Bool = nat_le 1 (length words) && nat_le (length words) line_cells in
      let any : Bool = list_any (λ x. not (x == 0)) words in
      let all : Bool = list_all (λ x. nat_lt x (2 ^ shape.w)) words in
      and_from (nat_le first most_number && (first % line_cells == 0)) (count && (any && all))
      (and_from (nat_le first most_number) (first % line_cells == 0) (le-leb first most_number below) place)
      (and_from count (any && all)
      (and_from (nat_le 1 (length words)) (nat_le (length words) line_cells) (le-leb 1 (length words) least)
      (le-leb (length words) line_cells most))
      (and_from any all (some_word words some)
      (list_all-from_AllPass (λ x. nat_lt x (2 ^ shape.w)) words
      (All-weaker (λ x. x < 2 ^ shape.w) (λ x. nat_lt x (2 ^ shape.w) ≡ true) (λ x l. lt-ltb x (2 ^ shape.w) l) words fit))))

  row_lines_in_range : (first : ℕ) (words : List ℕ) → first ≤ most_number → (first % line_cells == 0) ≡ true →
      1 ≤ length words → length words ≤ line_cells → All (λ x. x < 2 ^ shape.w) words →
      All (IsLine shape) (row_lines first words)
  row_lines_in_range first words below place least most fit = by (list_all (λ word. word == 0) words) refl
    where
      by : (b : Bool) → list_all (λ word. word == 0) words ≡ b → All (IsLine shape) (if b then [] else Cells first words ∷ [])
      by true e = All-nil (IsLine shape)
      by false e =
          All-cons (IsLine shape) (Cells first words) [] (row_in_range first words below place least most e fit)
          (All-nil (IsLine shape))

  pub rows_in_range : (k : ℕ) (cells : List ℕ) → k ≤ line_count (length cells) → length cells ≤ most_number →
      All (λ x. x < 2 ^ shape.w) cells → All (IsLine shape) (rows_before k cells)
  unfolding rows_before
  rows_in_range zero cells l most fit = All-nil (IsLine shape)
  rows_in_range (suc k) cells l most fit =
      let first : ℕ = line_cells * k in
      let words : List ℕ = line_words k cells in
      let rest : length (drop first cells) ≡ length cells - first = length-drop first cells in
      let count : length words ≡ min line_cells (length (drop first cells)) = length-take line_cells (drop first cells) in
      let inside : first < length cells = omega arith in
      let place : first % line_cells ≡ 0 = omega arith in
      All-append (IsLine shape) (rows_before k cells) (row_lines first words)
      (rows_in_range k cells (omega arith) most fit)
      (row_lines_in_range first words (omega arith) (eq-eqb (first % line_cells) 0 place) (omega arith) (omega arith)
      (All-take (λ x. x < 2 ^ shape.w) line_cells (drop first cells) (All-drop (λ x. x < 2 ^ shape.w) first cells fit)))

  -- a storage has fewer cells than there are numbers of 20 bits
  pub size_small : shape.q < 1048576
  size_small = by shape.a numbers.size_most numbers.address_most
    where
      by : (a : ℕ) → shape.q < 2 ^ a → a ≤ 20 → shape.q < 1048576
      by a l m = let p : 2 ^ a ≤ 2 ^ 20 = pow-le-pow_right (lit< tt) m in omega arith
