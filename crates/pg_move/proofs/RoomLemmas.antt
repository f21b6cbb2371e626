-- How long texts are: each is within its room, and so within what is read.
use Rattle.std.proofs.Common.{◌≡◌, ℕ, zero, suc, ◌+◌, ◌*◌, ◌/◌, ◌%◌, ◌<◌, ◌≤◌, ◌^◌, Bool, true, false, if◌then◌else◌, List, [], ◌∷◌, ◌++◌, length, drop, Ok, Err, ap, ◌∙◌, lit<, arith, length-append}
use Rattle.std.specs.Prelude.{◌==◌, codes}
use Rattle.std.specs.List.{list_all}
use Rattle.std.specs.Fmt.{decimal}
use Rattle.std.proofs.Math.Nat.{mul-le-mul, mul-le-mul_right, mul-suc, pow-le-pow_right}
use Rattle.std.proofs.lemmas.Bool.{le-ltb}
use Rattle.std.proofs.lemmas.Fmt.{length-decimal-le}
use Rattle.std.proofs.lemmas.List.{length-take}
use Rattle.pg_word.specs.declared.shape.Shape.{Shape}
use Rattle.pg_word.specs.declared.psw.Psw.{Psw}
use Rattle.pg_word.specs.Shape.{IsShape}
use Rattle.pg_word.specs.Psw.{IsPsw}
use Rattle.pg_image.specs.Lines.{size_text, psw_text, cells_text, cells_shown, line_cells, line_words, line_count, lines_before, state_text}
use Rattle.pg_image.proofs.Lengths.{length-size_text, length-psw_text, length-cells_text}
use Rattle.pg_move.specs.declared.fault.SavedFault.TheVariants as fault
use Rattle.pg_move.specs.Texts.{SavedGuest, IsSaved, most_bytes, first_text, steps_text, end_text, saved_text, row_room, room_of}
use Rattle.pg_move.specs.Reading.{Fresh, cut_lines, read_lines, saved_due}
use Rattle.pg_move.proofs.RangeLemmas.{size_small}
use Rattle.pg_move.proofs.BackLemmas.{text_back}

-- ---- lines

short : (n : ℕ) → n < 2 ^ 32 → length (decimal n) ≤ 10
short n l = length-decimal-le 10 n (lit< tt) (omega arith) (omega arith)

length-steps_text : (n : ℕ) → n < 2 ^ 32 → length (steps_text n) ≤ 17
unfolding steps_text
length-steps_text n l =
    let s = short n l in
    omega (arith, length-append (codes "steps " ++ decimal n) (10 ∷ []), length-append (codes "steps ") (decimal n), s)

row_length : (w first : ℕ) (words : List ℕ) → w % 8 ≡ 0 → first < 2 ^ 32 → length words ≤ line_cells →
    length (cells_text w first words) ≤ row_room w
row_length w first words bytes l most =
    let s = short first l in
    let all = mul-le-mul_right {m = length words} {n = line_cells} (w / 4 + 1) most in
    omega (arith, length-cells_text w first words, s, all)

pub shown_length : (w first : ℕ) (words : List ℕ) → w % 8 ≡ 0 → first < 2 ^ 32 → length words ≤ line_cells →
    length (cells_shown w first words) ≤ row_room w
unfolding cells_shown
shown_length w first words bytes l most = by (list_all (λ word. word == 0) words)
  where
    by : (b : Bool) → length (if b then [] else cells_text w first words) ≤ row_room w
    by true = omega arith
    by false = row_length w first words bytes l most

words_few : (k : ℕ) (cells : List ℕ) → length (line_words k cells) ≤ line_cells
words_few k cells = omega (arith, length-take line_cells (drop (line_cells * k) cells))

pub line_length : (w k : ℕ) (cells : List ℕ) → w % 8 ≡ 0 → line_cells * k < 2 ^ 32 →
    length (cells_shown w (line_cells * k) (line_words k cells)) ≤ row_room w
line_length w k cells bytes l = shown_length w (line_cells * k) (line_words k cells) bytes l (words_few k cells)

lines_length : (w k : ℕ) (cells : List ℕ) → w % 8 ≡ 0 → line_cells * k < 2 ^ 32 →
    length (lines_before w k cells) ≤ row_room w * k
unfolding lines_before
lines_length w zero cells bytes l = omega arith
lines_length w (suc k) cells bytes l =
    let front = lines_length w k cells bytes (omega arith) in
    let one = line_length w k cells bytes (omega arith) in
    omega (arith, length-append (lines_before w k cells) (cells_shown w (line_cells * k) (line_words k cells)), front, one, mul-suc (row_room w) k)

-- ---- texts

below : (a x : ℕ) → x < 2 ^ a → a ≤ 20 → x < 2 ^ 32
below a x l m = let p : 2 ^ a ≤ 2 ^ 20 = pow-le-pow_right (lit< tt) m in omega arith

psw_length : (a : ℕ) (psw : Psw) → a ≤ 20 → IsPsw a psw → length (psw_text psw) ≤ 39
psw_length a psw m h =
    let p = short psw.p (below a psw.p h.p m) in
    let l = short psw.l (below a psw.l h.l m) in
    let b = short psw.b (below a psw.b h.b m) in
    omega (arith, length-psw_text psw, p, l, b)

pub texts_have_room : (shape : Shape) (g : SavedGuest) → IsShape shape → IsSaved shape g →
    length (saved_text shape g.steps g.state) ≤ room_of shape (length g.state.cells)
unfolding saved_text state_text
texts_have_room shape g numbers h =
    let cells : List ℕ = g.state.cells in
    let n : ℕ = length cells in
    let small = size_small shape numbers in
    let most = h.most in
    let steps_most = h.steps in
    let fewer : n < 2 ^ 32 = omega arith in
    let size = short n fewer in
    let size_len = length-size_text n in
    let psw = psw_length shape.a g.state.psw numbers.address_most h.fields in
    let steps = length-steps_text g.steps (omega arith) in
    let rows = lines_length shape.w (line_count n) cells numbers.whole_bytes (omega arith) in
    let two : List ℕ = size_text n ++ psw_text g.state.psw in
    let all_rows : List ℕ = lines_before shape.w (line_count n) cells in
    let head : List ℕ = first_text ++ steps_text g.steps in
    omega (
      arith,
      length-append (head ++ (two ++ all_rows)) end_text,
      length-append head (two ++ all_rows),
      length-append two all_rows,
      length-append (size_text n) (psw_text g.state.psw),
      length-append first_text (steps_text g.steps),
      size,
      size_len,
      psw,
      steps,
      rows,
    )

room_most : (shape : Shape) (size : ℕ) → IsShape shape → size ≤ shape.q → room_of shape size ≤ most_bytes
room_most shape size numbers l =
    let small = size_small shape numbers in
    let word = numbers.word_most in
    let rows : row_room shape.w * line_count size ≤ 148 * 131072 = mul-le-mul {n₁ = row_room shape.w} {m₁ = line_count size} {n₂ = 148} {m₂ = 131072} (omega arith) (omega arith) in
    omega (arith, rows)

-- so the text of what is saved is read back
pub texts_read_back : (shape : Shape) (g : SavedGuest) → IsShape shape → IsSaved shape g →
    saved_due shape (saved_text shape g.steps g.state) ≡ Ok g
unfolding saved_due
texts_read_back shape g numbers h =
    let text : List ℕ = saved_text shape g.steps g.state in
    let room = texts_have_room shape g numbers h in
    let most = room_most shape (length g.state.cells) numbers h.most in
    ap (λ (b : Bool). if b then Err fault.Long else read_lines shape 1 Fresh (cut_lines text)) (le-ltb most_bytes (length text) (omega (arith, room, most)))
    ∙ text_back shape numbers g h
