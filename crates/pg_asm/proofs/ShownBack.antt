-- The text of `asm`, read as an image.
use Rattle.std.proofs.Common.{◌≡◌, ℕ, ◌+◌, ◌-◌, ◌*◌, ◌/◌, ◌%◌, ◌^◌, ◌<◌, ◌≤◌, Bool, true, false, not, cond, List, [], ◌∷◌, ◌++◌, length, take, drop, All, Option, None, Some, Result, Ok, Err, refl, ap, sym, ◌∙◌, arith, append_assoc, length-append}
use Rattle.std.specs.Prelude.{◌==◌, position, replicate}
use Rattle.std.specs.List.{list_any, slice_range}
use Rattle.std.specs.Char.{is_ascii_digit, is_ascii_hexdigit}
use Rattle.std.specs.Fmt.{decimal}
use Rattle.std.proofs.lemmas.Bool.{eqb-true, le-ltb}
use Rattle.std.proofs.lemmas.Bool.Decides.{nat_tests}
use Rattle.std.proofs.lemmas.Fmt.{length-decimal-le}
use Rattle.std.proofs.lemmas.List.{take_at, drop_at}
use Rattle.std.proofs.lemmas.List.Elements.{All-nil, All-cons, All-head, All-tail, All-append}
use Rattle.pg_text.specs.Printing.{hex_text}
use Rattle.pg_image.specs.declared.fault.ImageFault.{ImageFault}
use Rattle.pg_image.specs.declared.fault.ImageFault.TheVariants.{Token, Grammar, Address, Overlap}
use Rattle.pg_image.specs.Lines.{words_text, cells_text}
use Rattle.pg_image.specs.Images.{Row, lines_of, content, may_stand, foreign_place, parts_of, is_row, row_of, with_line, in_front, rows_from, rows_due, put, then_due, image_due}
use Rattle.pg_image.specs.Placing.{clash_of, place_rows}
use Rattle.pg_image.proofs.Lengths.{length-cells_text}
use Rattle.pg_image.proofs.Meaning.{due_is}
use Rattle.pg_image.proofs.ReadsBack.{rows_due-cells_text, row_from}
use Rattle.pg_asm.specs.Texts.{cell_shown, asm_text}
use Rattle.pg_asm.proofs.TextBytes.{none-pass, decimal-digits, hex-digits, lines-more}

-- ---- the line of one cell

-- the row of one word, on line n
abbrev row_on : (n first word : ℕ) → Row
row_on n first word = record { line = n; first = first; words = word ∷ [] }

-- a line's bytes may stand where they do, and its parts make the row of one word
record IsShown (w first word : ℕ) (line : List ℕ) : Type 0 where
  stands : position (λ c. not (may_stand c)) (content line) ≡ None
  row : (n : ℕ) (behind : Result (List Row) ImageFault) → with_line w n (parts_of (content line)) behind ≡ in_front (row_on n first word) behind

one_row : (w first word : ℕ) (parts : List (List ℕ)) → with_line w 1 parts (Ok []) ≡ Ok (row_from first (word ∷ []) ∷ []) →
    (n : ℕ) (behind : Result (List Row) ImageFault) → with_line w n parts behind ≡ in_front (row_on n first word) behind
one_row w first word [] h n behind = absurd (cc h)
one_row w first word (head ∷ rest) h n behind = by (is_row w (head ∷ rest)) h
  where
    by : (b : Bool) → cond b (in_front (row_of 1 head rest) (Ok [])) (Err (Grammar 1)) ≡ Ok (row_from first (word ∷ []) ∷ []) →
        cond b (in_front (row_of n head rest) behind) (Err (Grammar n)) ≡ in_front (row_on n first word) behind
    by true e =
        let same : row_of 1 head rest ≡ row_from first (word ∷ []) = cc e in
        ap (λ (r : Row). in_front (record { line = n; first = r.first; words = r.words }) behind) same
    by false e = absurd (cc e)

-- the place of a foreign byte in a line that begins at a place, or else in those behind it; and a fault there, or else rows
abbrev found_or : ℕ → Option ℕ → Option ℕ → Option ℕ
found_or place found later = elim found [ Some k ↦ Some (place + k) | None ↦ later ]

abbrev fault_or : Option ℕ → Result (List Row) ImageFault → Result (List Row) ImageFault
fault_or found rows = elim found [ Some place ↦ Err (Token place) | None ↦ rows ]

-- from the law of one line
shown_by : (w first word : ℕ) (line : List ℕ) (place : Option ℕ) → position (λ c. not (may_stand c)) (content line) ≡ place →
    fault_or (found_or 0 place (foreign_place (0 + length line + 1) ([] ∷ []))) (with_line w 1 (parts_of (content line)) (rows_from w 2 ([] ∷ []))) ≡ Ok (row_from first (word ∷ []) ∷ []) →
    IsShown w first word line
unfolding foreign_place rows_from parts_of
shown_by w first word line None is h = record { stands = is; row = one_row w first word (parts_of (content line)) h }
shown_by w first word line (Some k) is h = absurd (cc h)

digit_no_lf : (c : ℕ) → is_ascii_digit c ≡ true → (c == 10) ≡ false
digit_no_lf c h = grind (arith, nat_tests)

hex_no_lf : (c : ℕ) → is_ascii_hexdigit c ≡ true → (c == 10) ≡ false
hex_no_lf c h = grind (arith, nat_tests)

-- the line of one word, without its LF
abbrev row_line : (w first word : ℕ) → List ℕ
row_line w first word = decimal first ++ 58 ∷ words_text w (word ∷ [])

no_lf : (w first word : ℕ) → first < 2 ^ 64 → All (λ c. (c == 10) ≡ false) (row_line w first word)
unfolding words_text
no_lf w first word fits =
    All-append (λ c. (c == 10) ≡ false) (decimal first) ((58 ∷ 32 ∷ hex_text (w / 4) word) ++ [])
    (none-pass is_ascii_digit (λ c. c == 10) digit_no_lf (decimal first) (decimal-digits first fits))
    (All-append (λ c. (c == 10) ≡ false) (58 ∷ 32 ∷ hex_text (w / 4) word) []
    (All-cons (λ c. (c == 10) ≡ false) 58 (32 ∷ hex_text (w / 4) word) refl
    (All-cons (λ c. (c == 10) ≡ false) 32 (hex_text (w / 4) word) refl (none-pass is_ascii_hexdigit (λ c. c == 10) hex_no_lf (hex_text (w / 4) word) (hex-digits (w / 4) word))))
    (All-nil (λ c. (c == 10) ≡ false)))

row_shown : (w first word : ℕ) → w % 8 ≡ 0 → 16 ≤ w → first < 10 ^ 7 → word < 2 ^ w → IsShown w first word (row_line w first word)
unfolding cells_text lines_of foreign_place rows_from
row_shown w first word bytes wide small fits =
    let line : List ℕ = row_line w first word in
    let cut : lines_of (line ++ 10 ∷ []) ≡ line ∷ [] ∷ [] = lines-more line [] (no_lf w first word (omega arith)) in
    let law : rows_due w (line ++ 10 ∷ []) ≡ Ok (row_from first (word ∷ []) ∷ []) =
    rows_due-cells_text w first (word ∷ []) bytes wide small (omega arith) (All-cons (λ word. word < 2 ^ w) word [] fits (All-nil (λ word. word < 2 ^ w))) in
    shown_by w first word line (position (λ c. not (may_stand c)) (content line)) refl
    (sym (ap (λ ls. fault_or (foreign_place 0 ls) (rows_from w 1 ls)) cut) ∙ law)

-- ---- a word put

put_one : {X : Type 0} (k : ℕ) (x y : X) (done rest : List X) → length done ≡ k → put k (x ∷ []) (done ++ y ∷ rest) ≡ (done ++ x ∷ []) ++ rest
put_one k x y done rest len =
    let behind : length (done ++ y ∷ []) ≡ k + 1 = omega (arith, length-append done (y ∷ [])) in
    ap (λ t. (t ++ x ∷ []) ++ drop (k + 1) (done ++ y ∷ rest)) (take_at done (y ∷ rest) k len)
    ∙ ap (λ t. (done ++ x ∷ []) ++ drop (k + 1) t) (sym (append_assoc done (y ∷ []) rest))
    ∙ ap (λ t. (done ++ x ∷ []) ++ t) (drop_at (done ++ y ∷ []) rest (k + 1) behind)

no_clash : (n first : ℕ) (flags rest : List Bool) → length flags ≡ first → clash_of (flags ++ false ∷ rest) n first 1 ≡ None
no_clash n first flags rest len =
    let given : List Bool = flags ++ false ∷ rest in
    let room : first + 1 ≤ length given = omega (arith, length-append flags (false ∷ rest)) in
    let one : first + 1 - first ≡ 1 = omega arith in
    ap (λ b. cond b (Some (Address n)) (cond (list_any (λ g. g) (slice_range given first (first + 1))) (Some (Overlap n)) None)) (le-ltb (length given) (first + 1) room)
    ∙ ap (λ k. cond (list_any (λ g. g) (take k (drop first given))) (Some (Overlap n)) None) one
    ∙ ap (λ gs. cond (list_any (λ g. g) (take 1 gs)) (Some (Overlap n)) None) (drop_at flags (false ∷ rest) first len)

-- a row of one word, where no row before it reached its cell
placed : (n first word : ℕ) (done zeros : List ℕ) (flags rest : List Bool) (rows : List Row) → length done ≡ first → length flags ≡ first →
    place_rows (done ++ 0 ∷ zeros) (flags ++ false ∷ rest) (row_on n first word ∷ rows) ≡ place_rows ((done ++ word ∷ []) ++ zeros) ((flags ++ true ∷ []) ++ rest) rows
unfolding place_rows
placed n first word done zeros flags rest rows len_done len_flags =
    let cells : List ℕ = put first (word ∷ []) (done ++ 0 ∷ zeros) in
    let given : List Bool = put first (true ∷ []) (flags ++ false ∷ rest) in
    ap (λ found. elim found [ Some fault ↦ Err fault | None ↦ place_rows cells given rows ]) (no_clash n first flags rest len_flags)
    ∙ ap (λ cs. place_rows cs given rows) (put_one first word 0 done zeros len_done)
    ∙ ap (λ gs. place_rows ((done ++ word ∷ []) ++ zeros) gs rows) (put_one first true false flags rest len_flags)

placed_due : (row : Row) (cells cells' : List ℕ) (given given' : List Bool) (behind : Result (List Row) ImageFault) →
    ((rows : List Row) → place_rows cells given (row ∷ rows) ≡ place_rows cells' given' rows) →
    then_due (in_front row behind) (place_rows cells given) ≡ then_due behind (place_rows cells' given')
placed_due row cells cells' given given' (Ok rows) step = step rows
placed_due row cells cells' given given' (Err fault) step = refl

-- ---- the whole text

-- a text, read behind cells that are done, gives cells from cell `at` on
record ReadsBack (w at : ℕ) (cells text : List ℕ) : Type 0 where
  stands : (place : ℕ) → foreign_place place (lines_of text) ≡ None
  reads : (n : ℕ) (done : List ℕ) (flags : List Bool) → length done ≡ at → length flags ≡ at →
      then_due (rows_from w n (lines_of text)) (place_rows (done ++ replicate (length cells) 0) (flags ++ replicate (length cells) false)) ≡ Ok (done ++ cells)

-- a cell that is zero has no line
zero_next : (w at cell : ℕ) (cells text : List ℕ) → cell ≡ 0 → ReadsBack w (at + 1) cells text → ReadsBack w at (cell ∷ cells) text
zero_next w at cell cells text none later = record {
  stands = later.stands;
  reads = λ n done flags len_done len_flags.
      let zeros : List ℕ = replicate (length cells) 0 in
      let rest : List Bool = replicate (length cells) false in
      ap (λ cs. then_due (rows_from w n (lines_of text)) (place_rows cs (flags ++ false ∷ rest))) (sym (append_assoc done (0 ∷ []) zeros))
      ∙ ap (λ gs. then_due (rows_from w n (lines_of text)) (place_rows ((done ++ 0 ∷ []) ++ zeros) gs)) (sym (append_assoc flags (false ∷ []) rest))
      ∙ later.reads n (done ++ 0 ∷ []) (flags ++ false ∷ []) (omega (arith, length-append done (0 ∷ []))) (omega (arith, length-append flags (false ∷ [])))
      ∙ ap (λ cs. Ok cs) (append_assoc done (0 ∷ []) cells)
      ∙ ap (λ c. Ok (done ++ c ∷ cells)) (sym none);
}

-- another one has a line
line_next : (w at cell : ℕ) (cells line text rest : List ℕ) → lines_of text ≡ line ∷ lines_of rest → IsShown w at cell line → ReadsBack w (at + 1) cells rest → ReadsBack w at (cell ∷ cells) text
unfolding foreign_place rows_from
line_next w at cell cells line text rest cut shown later = record {
  stands = λ place. ap (foreign_place place) cut
      ∙ ap (λ found. found_or place found (foreign_place (place + length line + 1) (lines_of rest))) shown.stands
      ∙ later.stands (place + length line + 1);
  reads = λ n done flags len_done len_flags.
      let zeros : List ℕ = replicate (length cells) 0 in
      let unset : List Bool = replicate (length cells) false in
      let behind : Result (List Row) ImageFault = rows_from w (n + 1) (lines_of rest) in
      ap (λ ls. then_due (rows_from w n ls) (place_rows (done ++ 0 ∷ zeros) (flags ++ false ∷ unset))) cut
      ∙ ap (λ r. then_due r (place_rows (done ++ 0 ∷ zeros) (flags ++ false ∷ unset))) (shown.row n behind)
      ∙ placed_due (row_on n at cell) (done ++ 0 ∷ zeros) ((done ++ cell ∷ []) ++ zeros) (flags ++ false ∷ unset) ((flags ++ true ∷ []) ++ unset) behind
      (λ rows. placed n at cell done zeros flags unset rows len_done len_flags)
      ∙ later.reads (n + 1) (done ++ cell ∷ []) (flags ++ true ∷ []) (omega (arith, length-append done (cell ∷ []))) (omega (arith, length-append flags (true ∷ [])))
      ∙ ap (λ cs. Ok cs) (append_assoc done (cell ∷ []) cells);
}

reads_back : (w at : ℕ) (cells : List ℕ) → w % 8 ≡ 0 → 16 ≤ w → at + length cells ≤ 10 ^ 7 → All (λ cell. cell < 2 ^ w) cells → ReadsBack w at cells (asm_text w at cells)
unfolding asm_text cells_text lines_of foreign_place rows_from parts_of place_rows
reads_back w at [] bytes wide room all = record { stands = λ place. refl; reads = λ n done flags len_done len_flags. refl }
reads_back w at (cell ∷ cells) bytes wide room all =
    by (cell == 0) refl (reads_back w (at + 1) cells bytes wide (omega arith) (All-tail (λ cell. cell < 2 ^ w) cell cells all))
  where
    by : (b : Bool) → (cell == 0) ≡ b → ReadsBack w (at + 1) cells (asm_text w (at + 1) cells) → ReadsBack w at (cell ∷ cells) (cond b [] (cells_text w at (cell ∷ [])) ++ asm_text w (at + 1) cells)
    by true is later = zero_next w at cell cells (asm_text w (at + 1) cells) (eqb-true cell 0 is) later
    by false is later =
        let line : List ℕ = row_line w at cell in
        let rest : List ℕ = asm_text w (at + 1) cells in
        line_next w at cell cells line ((line ++ 10 ∷ []) ++ rest) rest (ap lines_of (append_assoc line (10 ∷ []) rest) ∙ lines-more line rest (no_lf w at cell (omega arith)))
        (row_shown w at cell bytes wide (omega arith) (All-head (λ cell. cell < 2 ^ w) cell cells all)) later

-- ---- its length

shown-short : (w at cell : ℕ) → w ≤ 64 → at < 10 ^ 7 → length (cell_shown w at cell) ≤ 26
shown-short w at cell most small = by (cell == 0)
  where
    by : (b : Bool) → length (cond b [] (cells_text w at (cell ∷ []))) ≤ 26
    by true = omega arith
    by false = omega (arith, length-cells_text w at (cell ∷ []), length-decimal-le 7 at (omega arith) small (omega arith))

text-short : (w at : ℕ) (cells : List ℕ) → w ≤ 64 → at + length cells ≤ 10 ^ 7 → length (asm_text w at cells) ≤ 26 * length cells
unfolding asm_text
text-short w at [] most room = omega arith
text-short w at (cell ∷ cells) most room =
    omega (arith, length-append (cell_shown w at cell) (asm_text w (at + 1) cells), shown-short w at cell most (omega arith), text-short w (at + 1) cells most (omega arith))

-- the text of `asm`, read as an image of the same size, is the image
pub asm_text-reads_back : (w size : ℕ) (cells : List ℕ) → w % 8 ≡ 0 → 16 ≤ w → w ≤ 64 → length cells ≡ size → size ≤ 2 ^ 20 → All (λ cell. cell < 2 ^ w) cells →
    image_due w size (asm_text w 0 cells) ≡ Ok cells
asm_text-reads_back w size cells bytes wide most len few all =
    let back = reads_back w 0 cells bytes wide (omega arith) all in
    let text : List ℕ = asm_text w 0 cells in
    due_is w size text (replicate size 0) (replicate size false) (Ok cells) (omega (arith, text-short w 0 cells most (omega arith))) (sym (back.stands 0)) refl refl
    (ap (λ n. then_due (rows_from w 1 (lines_of text)) (place_rows (replicate n 0) (replicate n false))) (sym len) ∙ back.reads 1 [] [] refl refl)
