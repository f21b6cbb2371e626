-- Rows put one after another, with flags, leave the cells that their image has.
use Rattle.std.proofs.Common.{◌≡◌, ℕ, zero, suc, ◌+◌, ◌-◌, ◌<◌, ◌≤◌, Bool, true, false, cond, List, [], ◌∷◌, ◌++◌, length, take, drop, get_or, Option, Some, None, Result, Ok, Err, sym, ap, ◌∙◌, refl, arith, append_assoc, ⊎_elim, length-append, length-take, length-drop}
use Rattle.std.specs.Prelude.{replicate, nat_lt, nat_le, ◌||◌, ◌&&◌}
use Rattle.std.specs.List.{list_any, slice_range}
use Rattle.std.proofs.lemmas.Bool.{ltb-false, lt-ltb, le-ltb, le-leb, lt-leb, and_right, cases_lt}
use Rattle.std.proofs.lemmas.List.{append-nil, drop_more, length-replicate, get_or_append_left, get_or-append_right, get_or-take, get_or-drop, get_or-replicate}
use Rattle.std.proofs.lemmas.List.Folds.{list_any-append}
use Rattle.std.proofs.lemmas.List.Sums.{fold-append}
use Rattle.pg_image.specs.declared.fault.ImageFault.{ImageFault}
use Rattle.pg_image.specs.declared.fault.ImageFault.TheVariants.{Long, Token, Grammar, Address, Overlap, Memory}
use Rattle.std.proofs.Math.Bool.{or-true, or-false}
use Rattle.pg_image.specs.Images.{Row, most_image_bytes, lines_of, foreign_place, rows_from, rows_due, then_due, image_due, IsImageDue, end_of, is_given, any_given, fault_of, first_fault, put, cells_of, cells_due}
use Rattle.pg_image.specs.Placing.{clash_of, place_rows}

-- the flags say which cells these rows give
abbrev Flags : List Row → List Bool → Type 0
Flags rows given = (k : ℕ) → k < length given → get_or given k false ≡ is_given rows k

-- flags of cells in a row
any_flags : (rows : List Row) (given : List Bool) (k n : ℕ) → Flags rows given → k + n ≤ length given → list_any (λ g. g) (take n (drop k given)) ≡ any_given rows k n
unfolding any_given
any_flags rows given k zero flags room = refl
any_flags rows given k (suc n) flags room =
    let lt : k < length given = omega arith in
    ap (λ gs. list_any (λ g. g) (take (suc n) gs)) (drop_more given k false lt)
    ∙ ap (λ b. b || list_any (λ g. g) (take n (drop (k + 1) given))) (flags k lt)
    ∙ ap (λ b. is_given rows k || b) (any_flags rows given (k + 1) n flags (omega arith))

clash_if : (rows : List Row) (given : List Bool) (row : Row) (b : Bool) → nat_lt (length given) (end_of row) ≡ b → Flags rows given
    → cond b (Some (Address row.line)) (cond (list_any (λ g. g) (slice_range given row.first (end_of row))) (Some (Overlap row.line)) None)
    ≡ cond b (Some (Address row.line)) (cond (any_given rows row.first (length row.words)) (Some (Overlap row.line)) None)
clash_if rows given row true is flags = refl
clash_if rows given row false is flags =
    let room : end_of row ≤ length given = ltb-false (length given) (end_of row) is in
    let len : end_of row - row.first ≡ length row.words = omega arith in
    ap (λ n. cond (list_any (λ g. g) (take n (drop row.first given))) (Some (Overlap row.line)) None) len
    ∙ ap (λ b. cond b (Some (Overlap row.line)) None) (any_flags rows given row.first (length row.words) flags room)

-- what is wrong with a row by the flags is what is wrong with it
clash_is : (size : ℕ) (rows : List Row) (given : List Bool) (row : Row) → length given ≡ size → Flags rows given
    → clash_of given row.line row.first (length row.words) ≡ fault_of size rows row
clash_is size rows given row len flags =
    clash_if rows given row (nat_lt (length given) (end_of row)) refl flags
    ∙ ap (λ n. cond (nat_lt n (end_of row)) (Some (Address row.line)) (cond (any_given rows row.first (length row.words)) (Some (Overlap row.line)) None)) len

room_by : {X : Type 0} (n m : ℕ) (x : X) (other : Option X) (b : Bool) → nat_lt n m ≡ b → cond b (Some x) other ≡ None → m ≤ n
room_by n m x other true is h = cc
room_by n m x other false is h = ltb-false n m is

-- a row with which nothing is wrong has room
clash_room : (given : List Bool) (row : Row) → clash_of given row.line row.first (length row.words) ≡ None → end_of row ≤ length given
clash_room given row h = room_by (length given) (end_of row) _ _ (nat_lt (length given) (end_of row)) refl h

length-put : {X : Type 0} (k : ℕ) (words cells : List X) → k + length words ≤ length cells → length (put k words cells) ≡ length cells
length-put k words cells room =
    omega (arith, length-append (take k cells ++ words) (drop (k + length words) cells), length-append (take k cells) words, length-take k cells, length-drop (k + length words) cells)

-- ---- a flag, once flags are put

before_put : (first n k : ℕ) (given : List Bool) → k < first → first + n ≤ length given → get_or (put first (replicate n true) given) k false ≡ get_or given k false
before_put first n k given lt room =
    let reps : List Bool = replicate n true in
    let len : length (take first given) ≡ first = omega (arith, length-take first given) in
    get_or_append_left (take first given ++ reps) (drop (first + length reps) given) false k (omega (arith, length-append (take first given) reps))
    ∙ get_or_append_left (take first given) reps false k (omega arith)
    ∙ get_or-take first given k false lt

within_put : (first n k : ℕ) (given : List Bool) → first ≤ k → k < first + n → first + n ≤ length given → get_or (put first (replicate n true) given) k false ≡ true
within_put first n k given le lt room =
    let reps : List Bool = replicate n true in
    let len : length (take first given) ≡ first = omega (arith, length-take first given) in
    get_or_append_left (take first given ++ reps) (drop (first + length reps) given) false k (omega (arith, length-append (take first given) reps, length-replicate {A = Bool} n true))
    ∙ get_or-append_right (take first given) reps first k false len le
    ∙ get_or-replicate n (k - first) true false (omega arith)

behind_put : (first n k : ℕ) (given : List Bool) → first + n ≤ k → first + n ≤ length given → get_or (put first (replicate n true) given) k false ≡ get_or given k false
behind_put first n k given le room =
    let reps : List Bool = replicate n true in
    let many : length reps ≡ n = length-replicate n true in
    let len : length (take first given ++ reps) ≡ first + n = omega (arith, length-take first given, length-append (take first given) reps) in
    let there : first + length reps + (k - (first + n)) ≡ k = omega arith in
    get_or-append_right (take first given ++ reps) (drop (first + length reps) given) (first + n) k false len le
    ∙ get_or-drop (first + length reps) given (k - (first + n)) false
    ∙ ap (λ j. get_or given j false) there

-- whether rows, and one more, give a cell
given_next : (rows : List Row) (row : Row) (k : ℕ) → is_given (rows ++ row ∷ []) k ≡ (is_given rows k || ((nat_le row.first k && nat_lt k (end_of row)) || false))
given_next rows row k = list_any-append (λ row. nat_le row.first k && nat_lt k (end_of row)) rows (row ∷ [])

given_same : (rows : List Row) (row : Row) (k : ℕ) → (nat_le row.first k && nat_lt k (end_of row)) ≡ false → is_given (rows ++ row ∷ []) k ≡ is_given rows k
given_same rows row k other =
    given_next rows row k ∙ ap (λ b. is_given rows k || (b || false)) other ∙ or-false (is_given rows k)

given_now : (rows : List Row) (row : Row) (k : ℕ) → row.first ≤ k → k < end_of row → is_given (rows ++ row ∷ []) k ≡ true
given_now rows row k le lt =
    given_next rows row k
    ∙ ap (λ b. is_given rows k || ((b && nat_lt k (end_of row)) || false)) (le-leb row.first k le)
    ∙ ap (λ b. is_given rows k || (b || false)) (lt-ltb k (end_of row) lt)
    ∙ or-true (is_given rows k)

-- the flags once a row is put
flags_next : (rows : List Row) (given : List Bool) (row : Row) → Flags rows given → end_of row ≤ length given → Flags (rows ++ row ∷ []) (put row.first (replicate (length row.words) true) given)
flags_next rows given row flags room =
    let n : ℕ = length row.words in
    let many : length (replicate n true) ≡ n = length-replicate n true in
    λ k lt'.
    let lt : k < length given = omega (arith, length-put row.first (replicate n true) given (omega arith)) in
    ⊎_elim
    (λ before. before_put row.first n k given before room ∙ flags k lt
    ∙ sym (given_same rows row k (ap (λ b. b && nat_lt k (end_of row)) (lt-leb row.first k before))))
    (λ le. ⊎_elim
    (λ within. within_put row.first n k given le within room ∙ sym (given_now rows row k le within))
    (λ behind. behind_put row.first n k given behind room ∙ flags k lt
    ∙ sym (given_same rows row k (and_right (nat_le row.first k) (nat_lt k (end_of row)) (le-ltb k (end_of row) behind))))
    (cases_lt k (end_of row)))
    (cases_lt k row.first)

-- ---- all rows

cells_next : (size : ℕ) (rows : List Row) (row : Row) → cells_of size (rows ++ row ∷ []) ≡ put row.first row.words (cells_of size rows)
unfolding cells_of
cells_next size rows row = fold-append (λ cells row. put row.first row.words cells) (replicate size 0) rows (row ∷ [])

-- the fault, or the cells
abbrev told : Option ImageFault → List ℕ → Result (List ℕ) ImageFault
told found cells = elim found [ Some fault ↦ Err fault | None ↦ Ok cells ]

step_by : (rest : Result (List ℕ) ImageFault) (later : Option ImageFault) (cells : List ℕ) (found : Option ImageFault) → (found ≡ None → rest ≡ told later cells)
    → elim found [ Some fault ↦ Err fault | None ↦ rest ] ≡ told (elim found [ Some fault ↦ Some fault | None ↦ later ]) cells
step_by rest later cells (Some fault) go = refl
step_by rest later cells None go = go refl

-- rows behind earlier ones
place_behind : (size : ℕ) (earlier later : List Row) (cells : List ℕ) (given : List Bool) → length given ≡ size → cells ≡ cells_of size earlier → Flags earlier given
    → place_rows cells given later ≡ told (first_fault size earlier later) (cells_of size (earlier ++ later))
unfolding place_rows first_fault
place_behind size earlier [] cells given len cells_are flags = ap (λ cs. Ok cs) (cells_are ∙ ap (cells_of size) (sym (append-nil earlier)))
place_behind size earlier (row ∷ later) cells given len cells_are flags =
    let same : clash_of given row.line row.first (length row.words) ≡ fault_of size earlier row = clash_is size earlier given row len flags in
    let n : ℕ = length row.words in
    let many : length (replicate n true) ≡ n = length-replicate n true in
    let cells' : List ℕ = put row.first row.words cells in
    let given' : List Bool = put row.first (replicate n true) given in
    let regroup : (earlier ++ row ∷ []) ++ later ≡ earlier ++ row ∷ later = append_assoc earlier (row ∷ []) later in
    ap (λ found. elim found [ Some fault ↦ Err fault | None ↦ place_rows cells' given' later ]) same
    ∙ step_by (place_rows cells' given' later) (first_fault size (earlier ++ row ∷ []) later) (cells_of size (earlier ++ row ∷ later)) (fault_of size earlier row)
    (λ none.
    let room : end_of row ≤ length given = clash_room given row (same ∙ none) in
    place_behind size (earlier ++ row ∷ []) later cells' given'
    (length-put row.first (replicate n true) given (omega arith) ∙ len)
    (ap (put row.first row.words) cells_are ∙ sym (cells_next size earlier row))
    (flags_next earlier given row flags room)
    ∙ ap (λ rows. told (first_fault size (earlier ++ row ∷ []) later) (cells_of size rows)) regroup)

no_flags : (size : ℕ) → Flags [] (replicate size false)
no_flags size k lt = get_or-replicate size k false false (omega (arith, length-replicate {A = Bool} size false))

-- rows put into zeros
place_is : (size : ℕ) (rows : List Row) → place_rows (replicate size 0) (replicate size false) rows ≡ cells_due size rows
unfolding cells_of
place_is size rows = place_behind size [] rows (replicate size 0) (replicate size false) (length-replicate size false) refl (no_flags size)

-- ---- the image

then_is : (size : ℕ) (rows : Result (List Row) ImageFault) → then_due rows (place_rows (replicate size 0) (replicate size false)) ≡ then_due rows (cells_due size)
then_is size (Ok rows) = place_is size rows
then_is size (Err fault) = refl

-- what is due of a text that is not too long and holds no foreign byte
pub due_is : (w size : ℕ) (text : List ℕ) (cells : List ℕ) (given : List Bool) (answer : Result (List ℕ) ImageFault) → length text ≤ most_image_bytes
    → None ≡ foreign_place 0 (lines_of text) → cells ≡ replicate size 0 → given ≡ replicate size false
    → then_due (rows_from w 1 (lines_of text)) (place_rows cells given) ≡ answer → image_due w size text ≡ answer
unfolding image_due
due_is w size text cells given answer short none zeros flags is =
    ap (λ b. cond b (Err Long) (then_due (rows_due w text) (cells_due size))) (le-ltb most_image_bytes (length text) short)
    ∙ ap (λ found. then_due (elim found [ Some place ↦ Err (Token place) | None ↦ rows_from w 1 (lines_of text) ]) (cells_due size)) (sym none)
    ∙ sym (then_is size (rows_from w 1 (lines_of text)))
    ∙ ap (λ cs. then_due (rows_from w 1 (lines_of text)) (place_rows cs (replicate size false))) (sym zeros)
    ∙ ap (λ gs. then_due (rows_from w 1 (lines_of text)) (place_rows cells gs)) (sym flags)
    ∙ is

pub due_fault : (fault : ImageFault) (due : Result (List ℕ) ImageFault) → due ≡ Err fault → IsImageDue {X = List ℕ} (Err fault) due
due_fault Memory due is = tt
due_fault Long due is = is
due_fault (Token place) due is = is
due_fault (Grammar line) due is = is
due_fault (Address line) due is = is
due_fault (Overlap line) due is = is
