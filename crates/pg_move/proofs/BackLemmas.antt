-- The text of what is saved is read back, and is within its room.
use Rattle.std.proofs.Common.{◌≡◌, ◌≢◌, ℕ, zero, suc, ◌+◌, ◌-◌, ◌*◌, ◌<◌, ◌≤◌, ◌^◌, Bool, true, false, if◌then◌else◌, List, [], ◌∷◌, ◌++◌, length, drop, None, Some, Result, Ok, Err, All, refl, sym, ap, subst, ◌∙◌, arith, append-nil, append_assoc, length-append, eq-eqb}
use Rattle.std.specs.Prelude.{◌==◌, ◌&&◌, ◌||◌, bytes_eq, not, codes}
use Rattle.std.specs.List.{list_any, list_all, slice_split}
use Rattle.std.specs.Fmt.{decimal}
use Rattle.std.proofs.lemmas.Bool.{and_from, and_parts}
use Rattle.std.proofs.lemmas.Bool.Decides.{nat_tests}
use Rattle.std.proofs.lemmas.List.{get_or_push}
use Rattle.std.proofs.lemmas.List.Elements.{All-nil, All-cons, All-head, All-tail, All-append}
use Rattle.std.proofs.lemmas.Slice.Eq.{bytes_eq-Decides}
use Rattle.pg_word.specs.declared.shape.Shape.{Shape}
use Rattle.pg_word.specs.declared.psw.Psw.{Psw as Psws}
use Rattle.pg_word.specs.Shape.{IsShape}
use Rattle.pg_word.specs.Sparse.{storage_of}
use Rattle.pg_word.proofs.SparseLemmas.{length-storage_of}
use Rattle.pg_lang_token.specs.Words.{is_digit}
use Rattle.pg_image.specs.Lines.{line_words, line_count, state_text}
use Rattle.pg_cert.specs.declared.cert.Family.{Family}
use Rattle.pg_cert.specs.declared.cert.Family.TheVariants.{Plain, Hybrid}
use Rattle.pg_cert.specs.declared.line.Heading.TheVariants.{HybridOne}
use Rattle.pg_cert.specs.declared.line.Line.{Line}
use Rattle.pg_cert.specs.declared.line.Line.TheVariants as line
use Rattle.pg_cert.specs.Lines.{line_parts, line_text, is_line, IsLine}
use Rattle.pg_cert.specs.Reading.{then_read as read_then, read_number, read_parts, but_last, last_byte, part_at}
use Rattle.pg_cert.specs.Parsing.{NoToken, NoForm, OtherVersion, is_foreign, before_end, parts_of, family_word, is_decimal, is_first, said_of_no_line, said_of_read, said}
use Rattle.pg_cert.specs.Texts.{row_lines, rows_before, lines_text}
use Rattle.pg_cert.proofs.Spelled.{list_all-implied, decimal_is_digits, read_number-decimal}
use Rattle.pg_cert.proofs.OneText.{is_graphic, graphic, split_joined, but_last-push}
use Rattle.pg_cert.proofs.Said.{said-line, text_ends, ends_once}
use Rattle.pg_cert.proofs.StateText.{lines_of_state}
use Rattle.pg_cert.proofs.TextLemmas.{lines_text-append}
use Rattle.pg_cert_drawn.specs.Drawn.{Drawn, drawn, listed, state_of}
use Rattle.pg_cert_drawn.proofs.RowsBack.{cells_before, cells_again, zeros_passed, rows_drawn, row_drawn}
use Rattle.pg_cert_drawn.proofs.DrawnLines.{sparse_of, drawn_lines}
use Rattle.pg_move.specs.declared.fault.SavedFault.{SavedFault}
use Rattle.pg_move.specs.declared.fault.SavedFault.TheVariants as fault
use Rattle.pg_move.specs.Texts.{SavedGuest, IsSaved, most_steps, first_text, steps_text, end_text, saved_text}
use Rattle.pg_move.specs.Reading.{SavedReader, Fresh, Begun, Counted, Drawing, Over, cut_lines, number_of_steps, steps_counted, after_own, drawn_on, after_form, after_said, after_saved_line, then_read, read_lines}
use Rattle.pg_move.proofs.CutLemmas.{line_cut}
use Rattle.pg_move.proofs.RangeLemmas.{size_in_range, psw_in_range, rows_in_range, size_small}
use Rattle.pg_move.proofs.StorageLemmas.{listed_all, listed_within, listed_again}
use Rattle.pg_move.proofs.SpellLemmas.{end_line}

-- ---- bytes

digit_known : (c : ℕ) → is_digit c ≡ true → is_foreign c ≡ false
digit_known c h = grind (arith, nat_tests)

digit_graphic : (c : ℕ) → is_digit c ≡ true → is_graphic c ≡ true
digit_graphic c h = grind (arith, nat_tests)

digit_plain : (c : ℕ) → is_digit c ≡ true → not (c == 10) ≡ true
digit_plain c h = grind (arith, nat_tests)

none_foreign : (xs : List ℕ) → list_all is_digit xs ≡ true → list_any is_foreign xs ≡ false
none_foreign [] h = refl
none_foreign (c ∷ cs) h = by (is_digit c) refl h (λ k. none_foreign cs k)
  where
    by : (b : Bool) → is_digit c ≡ b → (b && list_all is_digit cs) ≡ true →
        (list_all is_digit cs ≡ true → list_any is_foreign cs ≡ false) → (is_foreign c || list_any is_foreign cs) ≡ false
    by true e h rest = ap (λ b. b || list_any is_foreign cs) (digit_known c e) ∙ rest h
    by false e h rest = absurd (let wrong : false ≡ true = h in cc)

plain : (xs : List ℕ) → list_all (λ c. not (c == 10)) xs ≡ true → All (λ c. c ≢ 10) xs
plain [] h = All-nil (λ c. c ≢ 10)
plain (c ∷ cs) h =
    let both = and_parts (not (c == 10)) (list_all (λ x. not (x == 10)) cs) h in
    All-cons (λ x. x ≢ 10) c cs (λ e. not_both (c == 10) (eq-eqb c 10 e) both.0) (plain cs both.1)
  where
    not_both : (b : Bool) → b ≡ true → not b ≡ true → ⊥
    not_both true e f = let wrong : false ≡ true = f in cc
    not_both false e f = let wrong : false ≡ true = e in cc

last-push : (body : List ℕ) (c : ℕ) → last_byte (body ++ c ∷ []) ≡ c
last-push body c =
    let len : length body ≡ length (body ++ c ∷ []) - 1 = omega (arith, length-append body (c ∷ [])) in
    get_or_push body c 0 (length (body ++ c ∷ []) - 1) len

before-push : (body : List ℕ) → before_end (body ++ 10 ∷ []) ≡ body
before-push body =
    ap (λ (b : Bool). if b then but_last (body ++ 10 ∷ []) else body ++ 10 ∷ []) (eq-eqb (last_byte (body ++ 10 ∷ [])) 10 (last-push body 10))
    ∙ but_last-push body 10

-- ---- the first line

first_said : (shape : Shape) → said shape first_text ≡ NoForm
unfolding said read_parts is_first is_line line_text line_parts
first_said shape = refl

first_taken : (shape : Shape) → after_saved_line shape 1 Fresh first_text ≡ Ok Begun
unfolding after_saved_line after_said after_own
first_taken shape = ap (after_said 1 Fresh first_text) (first_said shape)

-- ---- the line of the steps

module _ (shape : Shape) (k : ℕ) (most : k ≤ most_steps) where
  abbrev steps_body : List ℕ
  steps_body = codes "steps " ++ decimal k

  small : k < 2 ^ 64
  small = omega arith

  digits : list_all is_digit (decimal k) ≡ true
  digits = decimal_is_digits k small

  steps_is : steps_text k ≡ steps_body ++ 10 ∷ []
  unfolding steps_text
  steps_is = refl

  steps_known : list_any is_foreign (before_end (steps_body ++ 10 ∷ [])) ≡ false
  steps_known = ap (list_any is_foreign) (before-push steps_body) ∙ none_foreign (decimal k) digits

  steps_parts : parts_of (steps_body ++ 10 ∷ []) ≡ codes "steps" ∷ decimal k ∷ []
  steps_parts =
      ap (λ bs. slice_split (λ c. c == 32) bs) (but_last-push steps_body 10)
      ∙ split_joined (codes "steps" ∷ decimal k ∷ []) (omega arith)
      (and_from (graphic (decimal k)) true (list_all-implied is_digit is_graphic digit_graphic (decimal k) digits) refl)

  not_first : (family : Family) → is_first family (steps_body ++ 10 ∷ []) ≡ false
  unfolding is_first
  not_first family =
      ap (λ ps. (last_byte (steps_body ++ 10 ∷ []) == 10) && ((length ps == 2) && (bytes_eq (part_at ps 0) (family_word family) && is_decimal (part_at ps 1)))) steps_parts
      ∙ by family (last_byte (steps_body ++ 10 ∷ []) == 10)
    where
      by : (f : Family) (b : Bool) → (b && (bytes_eq (codes "steps") (family_word f) && is_decimal (decimal k))) ≡ false
      by Plain true = refl
      by Plain false = refl
      by Hybrid true = refl
      by Hybrid false = refl

  no_form : said_of_no_line (steps_body ++ 10 ∷ []) ≡ NoForm
  no_form =
      ap (λ (b : Bool). if b then OtherVersion Plain else (if is_first Hybrid (steps_body ++ 10 ∷ []) then OtherVersion Hybrid else NoForm)) (not_first Plain)
      ∙ ap (λ (b : Bool). if b then OtherVersion Hybrid else NoForm) (not_first Hybrid)

  steps_said : said shape (steps_body ++ 10 ∷ []) ≡ NoForm
  unfolding said read_parts is_line line_text line_parts
  steps_said =
      ap (λ (b : Bool). if b then NoToken else said_of_read shape (steps_body ++ 10 ∷ []) (read_parts shape.w (parts_of (steps_body ++ 10 ∷ [])))) steps_known
      ∙ ap (λ ps. said_of_read shape (steps_body ++ 10 ∷ []) (read_parts shape.w ps)) steps_parts
      ∙ by (bytes_eq (decimal k) (codes "1"))
    where
      by : (b : Bool) → said_of_read shape (steps_body ++ 10 ∷ []) (read_then (if b then Some HybridOne else None) (λ heading. Some (line.First heading))) ≡ NoForm
      by true = no_form
      by false = no_form

  steps_number : number_of_steps (steps_body ++ 10 ∷ []) ≡ Some k
  unfolding read_number
  steps_number = ap (λ bs. read_number most_steps (drop 6 bs)) (but_last-push steps_body 10) ∙ read_number-decimal most_steps k most small

  pub steps_taken : (n : ℕ) → after_saved_line shape n Begun (steps_text k) ≡ Ok (Counted k)
  unfolding after_saved_line after_said after_own
  steps_taken n =
      ap (after_saved_line shape n Begun) steps_is
      ∙ ap (after_said n Begun (steps_body ++ 10 ∷ [])) steps_said
      ∙ ap (steps_counted n (steps_body ++ 10 ∷ [])) steps_number
      ∙ ap (λ (b : Bool). if b then Ok (Counted k) else Err (fault.Grammar n)) ((bytes_eq-Decides (steps_body ++ 10 ∷ []) (steps_text k)).1 (sym steps_is))

-- ---- lines of a state

-- lines, one after another, by what they say
abbrev forms : ℕ → SavedReader → List Line → Result SavedReader SavedFault
forms n r [] = Ok r
forms n r (l ∷ ls) = then_read (after_form n r l) (λ q. forms (suc n) q ls)

forms-append : (n : ℕ) (r : SavedReader) (a b : List Line) → forms n r (a ++ b) ≡ then_read (forms n r a) (λ q. forms (n + length a) q b)
forms-append n r [] b = let e : n ≡ n + 0 = omega arith in ap (λ m. forms m r b) e
forms-append n r (l ∷ a) b = by (after_form n r l) (λ q. forms-append (suc n) q a b)
  where
    len : suc n + length a ≡ n + suc (length a)
    len = omega arith

    by : (x : Result SavedReader SavedFault) →
        ((q : SavedReader) → forms (suc n) q (a ++ b) ≡ then_read (forms (suc n) q a) (λ p. forms (suc n + length a) p b)) →
        then_read x (λ q. forms (suc n) q (a ++ b)) ≡ then_read (then_read x (λ q. forms (suc n) q a)) (λ p. forms (n + suc (length a)) p b)
    by (Ok q) rest = rest q ∙ ap (λ m. then_read (forms (suc n) q a) (λ p. forms m p b)) len
    by (Err f) rest = refl

module _ (steps size : ℕ) (psw : Psws) (storage : List ℕ) (len : length storage ≡ size) where
  row_forms : (k n : ℕ) → forms n (Drawing steps (rows_drawn size psw storage k)) (row_lines (8 * k) (line_words k storage)) ≡
      Ok (Drawing steps (rows_drawn size psw storage (suc k)))
  unfolding after_form cells_before
  row_forms k n = by (list_all (λ w. w == 0) (line_words k storage)) refl
    where
      by : (b : Bool) → list_all (λ w. w == 0) (line_words k storage) ≡ b →
          forms n (Drawing steps (rows_drawn size psw storage k)) (if b then [] else line.Cells (8 * k) (line_words k storage) ∷ []) ≡
          Ok (Drawing steps (rows_drawn size psw storage (suc k)))
      by true z = ap (λ cs. Ok (Drawing steps (record { size = size; psw = psw; cells = cs }))) (zeros_passed k storage z)
      by false z = ap (λ o. then_read (drawn_on n steps o) (λ q. Ok q)) (row_drawn size psw storage len k)

  pub rows_forms : (k n : ℕ) → forms n (Drawing steps (drawn size psw)) (rows_before k storage) ≡
      Ok (Drawing steps (rows_drawn size psw storage k))
  unfolding rows_before cells_before
  rows_forms zero n = refl
  rows_forms (suc k) n =
      forms-append n (Drawing steps (drawn size psw)) (rows_before k storage) (row_lines (8 * k) (line_words k storage))
      ∙ ap (λ x. then_read x (λ q. forms (n + length (rows_before k storage)) q (row_lines (8 * k) (line_words k storage)))) (rows_forms k n)
      ∙ row_forms k (n + length (rows_before k storage))

-- the lines of a state, and the last one
state_forms : (steps n : ℕ) (s : Drawn) → (h : cells_before (line_count s.size) (storage_of s.size s.cells) ≡ s.cells) →
    forms n (Counted steps) (drawn_lines s ++ line.End ∷ []) ≡ Ok (Over steps s)
unfolding after_form
state_forms steps n s h =
    let storage : List ℕ = storage_of s.size s.cells in
    let rows : List Line = rows_before (line_count s.size) storage in
    let m : ℕ = suc (suc n) in
    forms-append m (Drawing steps (drawn s.size s.psw)) rows (line.End ∷ [])
    ∙ ap (λ x. then_read x (λ q. forms (m + length rows) q (line.End ∷ [])))
    (rows_forms steps s.size s.psw storage (length-storage_of s.size s.cells) (line_count s.size) m)
    ∙ ap (λ cs. Ok (Over steps (record { size = s.size; psw = s.psw; cells = cs }))) h

-- ---- bytes that begin with lines

module _ (shape : Shape) (numbers : IsShape shape) where
  line_back : (n : ℕ) (r q : SavedReader) (body rest : List ℕ) → All (λ c. c ≢ 10) body →
      after_saved_line shape n r (body ++ 10 ∷ []) ≡ Ok q →
      read_lines shape n r (cut_lines ((body ++ 10 ∷ []) ++ rest)) ≡ read_lines shape (suc n) q (cut_lines rest)
  unfolding read_lines
  line_back n r q body rest once e =
      ap (read_lines shape n r) (line_cut body rest once)
      ∙ ap (λ x. then_read x (λ next. read_lines shape (suc n) next (cut_lines rest))) e

  form_back : (n : ℕ) (r q : SavedReader) (l : Line) (rest : List ℕ) → IsLine shape l → after_form n r l ≡ Ok q →
      read_lines shape n r (cut_lines (line_text shape l ++ rest)) ≡ read_lines shape (suc n) q (cut_lines rest)
  unfolding after_saved_line after_said
  form_back n r q l rest i e =
      let body : List ℕ = but_last (line_text shape l) in
      let ends : line_text shape l ≡ body ++ 10 ∷ [] = text_ends shape l in
      let taken : after_saved_line shape n r (body ++ 10 ∷ []) ≡ Ok q =
      ap (after_saved_line shape n r) (sym ends) ∙ ap (after_said n r (line_text shape l)) (said-line shape numbers l i) ∙ e in
      ap (λ bs. read_lines shape n r (cut_lines (bs ++ rest))) ends ∙ line_back n r q body rest (ends_once shape numbers l i) taken

  forms_back : (ls : List Line) (n : ℕ) (r q : SavedReader) (rest : List ℕ) → All (IsLine shape) ls → forms n r ls ≡ Ok q →
      read_lines shape n r (cut_lines (lines_text shape ls ++ rest)) ≡ read_lines shape (n + length ls) q (cut_lines rest)
  unfolding lines_text
  forms_back [] n r q rest h e =
      let same : r ≡ q = cc in
      let k : n ≡ n + 0 = omega arith in
      ap (λ x. read_lines shape n x (cut_lines rest)) same ∙ ap (λ m. read_lines shape m q (cut_lines rest)) k
  forms_back (l ∷ ls) n r q rest h e = by (after_form n r l) refl e (λ p f. forms_back ls (suc n) p q rest (All-tail (IsLine shape) l ls h) f)
    where
      k : suc n + length ls ≡ n + suc (length ls)
      k = omega arith

      by : (x : Result SavedReader SavedFault) → after_form n r l ≡ x → then_read x (λ p. forms (suc n) p ls) ≡ Ok q →
          ((p : SavedReader) → forms (suc n) p ls ≡ Ok q →
          read_lines shape (suc n) p (cut_lines (lines_text shape ls ++ rest)) ≡ read_lines shape (suc n + length ls) q (cut_lines rest)) →
          read_lines shape n r (cut_lines ((line_text shape l ++ lines_text shape ls) ++ rest)) ≡ read_lines shape (n + suc (length ls)) q (cut_lines rest)
      by (Ok p) ex e go =
          ap (λ bs. read_lines shape n r (cut_lines bs)) (append_assoc (line_text shape l) (lines_text shape ls) rest)
          ∙ form_back n r p l (lines_text shape ls ++ rest) (All-head (IsLine shape) l ls h) ex
          ∙ go p e ∙ ap (λ m. read_lines shape m q (cut_lines rest)) k
      by (Err f) ex e go = absurd (let wrong : ◌≡◌ {A = Result SavedReader SavedFault} (Err f) (Ok q) = e in cc)

  -- ---- whole texts

  lines_in_range : (s : Drawn) → 2 ≤ s.size → s.size ≤ shape.q → All (λ x. x < 2 ^ shape.w) (storage_of s.size s.cells) →
      IsLine shape (line.Psw s.psw) → All (IsLine shape) (drawn_lines s ++ line.End ∷ [])
  unfolding is_line
  lines_in_range s least most words fields =
      let storage : List ℕ = storage_of s.size s.cells in
      let len : length storage ≡ s.size = length-storage_of s.size s.cells in
      let small = size_small shape numbers in
      let rows : All (IsLine shape) (rows_before (line_count s.size) storage) =
      rows_in_range shape numbers (line_count s.size) storage (omega (arith, len)) (omega (arith, len)) words in
      All-append (IsLine shape) (drawn_lines s) (line.End ∷ [])
      (All-cons (IsLine shape) (line.Size s.size) (line.Psw s.psw ∷ rows_before (line_count s.size) storage)
      (size_in_range shape numbers s.size least most)
      (All-cons (IsLine shape) (line.Psw s.psw) (rows_before (line_count s.size) storage) fields rows))
      (All-cons (IsLine shape) line.End [] refl (All-nil (IsLine shape)))

  module _ (g : SavedGuest) (h : IsSaved shape g) where
    abbrev storage : List ℕ
    storage = g.state.cells

    abbrev kept : Drawn
    kept = record { size = length storage; psw = g.state.psw; cells = listed 0 storage }

    kept_is : state_of kept ≡ g.state
    kept_is = ap (λ cs. record { cells = cs; psw = g.state.psw }) (listed_again storage)

    state_lines_are : lines_text shape (drawn_lines kept ++ line.End ∷ []) ≡ state_text shape.w storage g.state.psw ++ end_text
    unfolding lines_text
    state_lines_are =
        lines_text-append shape (drawn_lines kept) (line.End ∷ [])
        ∙ ap (λ bs. bs ++ (line_text shape line.End ++ [])) (lines_of_state shape (sparse_of kept (listed_within storage))
        ∙ ap (λ cs. state_text shape.w cs g.state.psw) (listed_again storage))
        ∙ ap (λ bs. state_text shape.w storage g.state.psw ++ bs) (append-nil (line_text shape line.End) ∙ end_line shape)

    abbrev behind : List ℕ
    behind = lines_text shape (drawn_lines kept ++ line.End ∷ [])

    text_is : saved_text shape g.steps g.state ≡ first_text ++ (steps_text g.steps ++ behind)
    unfolding saved_text
    text_is =
        append_assoc (first_text ++ steps_text g.steps) (state_text shape.w storage g.state.psw) end_text
        ∙ append_assoc first_text (steps_text g.steps) (state_text shape.w storage g.state.psw ++ end_text)
        ∙ ap (λ bs. first_text ++ (steps_text g.steps ++ bs)) (sym state_lines_are)

    in_range : All (IsLine shape) (drawn_lines kept ++ line.End ∷ [])
    in_range = lines_in_range kept h.least h.most
        (subst (All (λ x. x < 2 ^ shape.w)) (sym (listed_again storage)) h.words) (psw_in_range shape numbers g.state.psw h.fields)

    all_forms : forms 3 (Counted g.steps) (drawn_lines kept ++ line.End ∷ []) ≡ Ok (Over g.steps kept)
    all_forms = state_forms g.steps 3 kept (cells_again (length storage) (listed 0 storage) (listed_all storage) (listed_within storage))

    steps_plain : All (λ c. c ≢ 10) (codes "steps " ++ decimal g.steps)
    steps_plain = All-append (λ c. c ≢ 10) (codes "steps ") (decimal g.steps) (plain (codes "steps ") refl)
        (plain (decimal g.steps) (list_all-implied is_digit (λ c. not (c == 10)) digit_plain (decimal g.steps) (digits shape g.steps h.steps)))

    first_plain : All (λ c. c ≢ 10) (codes "pgguest 1")
    first_plain = plain (codes "pgguest 1") refl

    pub text_back : read_lines shape 1 Fresh (cut_lines (saved_text shape g.steps g.state)) ≡ Ok g
    unfolding read_lines cut_lines
    text_back =
        let last : ℕ = 3 + length (drawn_lines kept ++ line.End ∷ []) in
        let body : List ℕ = codes "steps " ++ decimal g.steps in
        ap (λ bs. read_lines shape 1 Fresh (cut_lines bs)) text_is
        ∙ line_back 1 Fresh Begun (codes "pgguest 1") (steps_text g.steps ++ behind) first_plain (first_taken shape)
        ∙ ap (λ bs. read_lines shape 2 Begun (cut_lines (bs ++ behind))) (steps_is shape g.steps h.steps)
        ∙ line_back 2 Begun (Counted g.steps) body behind steps_plain
        (ap (after_saved_line shape 2 Begun) (sym (steps_is shape g.steps h.steps)) ∙ steps_taken shape g.steps h.steps 2)
        ∙ ap (λ bs. read_lines shape 3 (Counted g.steps) (cut_lines bs)) (sym (append-nil behind))
        ∙ forms_back (drawn_lines kept ++ line.End ∷ []) 3 (Counted g.steps) (Over g.steps kept) [] in_range all_forms
        ∙ ap (λ s. Ok (record { steps = g.steps; state = s })) kept_is
