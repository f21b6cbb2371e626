-- What views show of a guest, put piece by piece.
use Rattle.std.proofs.Common.{◌≡◌, ℕ, zero, suc, ◌+◌, ◌-◌, ◌*◌, ◌/◌, ◌%◌, ◌<◌, ◌≤◌, ◌==◌, true, false, List, [], ◌∷◌, ◌++◌, All, length, take, drop, get_or, Some, slice_get, refl, sym, ◌∙◌, ap, subst, arith, append_assoc}
use Rattle.std.proofs.lemmas.Bool.{eq-eqb, eqb-true, false≢true}
use Rattle.std.proofs.lemmas.List.{append-nil, take_more, take-take, take-append-drop, drop-take, drop-drop, get_or-drop, length-drop}
use Rattle.std.proofs.lemmas.List.Elements.{All-take, All-drop}
use Rattle.std.proofs.lemmas.Option.{get_or_from_slice_get, slice_get_within}
use Rattle.pg_lang_meaning.specs.States.{State}
use Rattle.pg_image.specs.Lines.{cells_text, line_cells, line_count, line_words, state_text}
use Rattle.pg_mon_control.specs.declared.guest.Guest.{Guest}
use Rattle.pg_mon_control.specs.Guests.{virtual}
use Rattle.pg_report.specs.Spans.{span}
use Rattle.pg_run_still.specs.declared.view.ByteCount.{ByteCount}
use Rattle.pg_run_still.specs.declared.view.Span.{Span}
use Rattle.pg_run_still.specs.declared.view.View.{View}
use Rattle.pg_run_still.specs.declared.view.View.TheVariants.{Cells, Bytes}
use Rattle.pg_run_still.specs.Views.{bytes_of, cells_of, guest_text, low_bytes, rows_from, view_text, views_text}

-- ---- lines of cells

pub rows_from-none : (w first : ℕ) (cells : List ℕ) → rows_from w first 0 cells ≡ []
unfolding rows_from
rows_from-none w first cells = refl

pub rows_from-next : (w first k : ℕ) (cells : List ℕ) → rows_from w first (k + 1) cells ≡ rows_from w first k cells ++ cells_text w (first + line_cells * k) (line_words k cells)
unfolding rows_from
rows_from-next w first k cells =
    let next : k + 1 ≡ suc k = omega arith in
    rw next refl

-- what stands behind the first lines
rows_from-more : (w first k m : ℕ) (cells : List ℕ) → (rest : List ℕ) × (rows_from w first (k + m) cells ≡ rows_from w first k cells ++ rest)
rows_from-more w first k zero cells =
    let same : k + 0 ≡ k = omega arith in
    ([], ap (λ n. rows_from w first n cells) same ∙ sym (append-nil (rows_from w first k cells)))
rows_from-more w first k (suc m) cells =
    let front = rows_from-more w first k m cells in
    let next : k + suc m ≡ (k + m) + 1 = omega arith in
    let line = cells_text w (first + line_cells * (k + m)) (line_words (k + m) cells) in
    (front.0 ++ line, ap (λ n. rows_from w first n cells) next ∙ rows_from-next w first (k + m) cells ∙ ap (λ t. t ++ line) front.1 ∙ append_assoc (rows_from w first k cells) front.0 line)

pub rows_from-front : (w first k n : ℕ) (cells : List ℕ) → k ≤ n → (rest : List ℕ) × (rows_from w first n cells ≡ rows_from w first k cells ++ rest)
rows_from-front w first k n cells within =
    let more = rows_from-more w first k (n - k) cells in
    let whole : n ≡ k + (n - k) = omega arith in
    (more.0, ap (λ m. rows_from w first m cells) whole ∙ more.1)

-- ---- bytes

-- a word without so many low bytes
abbrev pub without_low : ℕ → ℕ → ℕ
without_low zero word = word
without_low (suc n) word = without_low n (word / 256)

low_bytes-suc : (n word : ℕ) → low_bytes (suc n) word ≡ low_bytes n word ++ (without_low n word % 256) ∷ []
unfolding low_bytes
low_bytes-suc zero word = refl
low_bytes-suc (suc n) word = ap (λ t. (word % 256) ∷ t) (low_bytes-suc n (word / 256))

without_low-suc : (n word : ℕ) → without_low (suc n) word ≡ without_low n word / 256
without_low-suc zero word = refl
without_low-suc (suc n) word = without_low-suc n (word / 256)

pub low_bytes-none : (word : ℕ) → low_bytes 0 word ≡ []
unfolding low_bytes
low_bytes-none word = refl

pub low_bytes-next : (n word : ℕ) → low_bytes (n + 1) word ≡ low_bytes n word ++ (without_low n word % 256) ∷ []
low_bytes-next n word = (let next : n + 1 ≡ suc n = omega arith in ap (λ k. low_bytes k word) next ∙ low_bytes-suc n word)

pub without_low-next : (n word : ℕ) → without_low (n + 1) word ≡ without_low n word / 256
without_low-next n word = (let next : n + 1 ≡ suc n = omega arith in ap (λ k. without_low k word) next ∙ without_low-suc n word)

pub bytes_of-none : (n : ℕ) → bytes_of n [] ≡ []
unfolding bytes_of
bytes_of-none n = refl

bytes_of-append : (n : ℕ) (xs ys : List ℕ) → bytes_of n (xs ++ ys) ≡ bytes_of n xs ++ bytes_of n ys
unfolding bytes_of
bytes_of-append n [] ys = refl
bytes_of-append n (x ∷ xs) ys = ap (λ t. low_bytes n x ++ t) (bytes_of-append n xs ys) ∙ sym (append_assoc (low_bytes n x) (bytes_of n xs) (bytes_of n ys))

bytes_of-one : (n x : ℕ) → bytes_of n (x ∷ []) ≡ low_bytes n x
unfolding bytes_of
bytes_of-one n x = append-nil (low_bytes n x)

-- those of one cell more
pub bytes_of-next : (n base i : ℕ) (cells : List ℕ) (word : ℕ) → slice_get cells (base + i) ≡ Some word → bytes_of n (span base (i + 1) cells) ≡ bytes_of n (span base i cells) ++ low_bytes n word
bytes_of-next n base i cells word is =
    let within = slice_get_within cells (base + i) word is in
    let here = get_or-drop base cells i word ∙ get_or_from_slice_get cells (base + i) word word is in
    ap (bytes_of n) (take_more (drop base cells) i word (omega (arith, within, length-drop base cells)) ∙ ap (λ x. span base i cells ++ x ∷ []) here)
    ∙ bytes_of-append n (span base i cells) (word ∷ [])
    ∙ ap (λ t. bytes_of n (span base i cells) ++ t) (bytes_of-one n word)

-- what stands behind those of the first cells
pub bytes_of-front : (n base i size : ℕ) (cells : List ℕ) → i ≤ size → (rest : List ℕ) × (bytes_of n (span base size cells) ≡ bytes_of n (span base i cells) ++ rest)
bytes_of-front n base i size cells within =
    let front : take i (span base size cells) ≡ span base i cells = take-take i size (drop base cells) within in
    let behind = drop i (span base size cells) in (
      bytes_of n behind,
      ap (bytes_of n) (sym (take-append-drop i (span base size cells))) ∙ bytes_of-append n (take i (span base size cells)) behind ∙ ap (λ xs. bytes_of n xs ++ bytes_of n behind) front,
    )

-- ---- views

-- the cells of a span of a guest are those that the hardware holds for it
pub span-within : (base size from n : ℕ) (cells : List ℕ) → from + n ≤ size → span from n (span base size cells) ≡ span (base + from) n cells
span-within base size from n cells within =
    let whole : size ≡ from + (size - from) = omega arith in
    ap (λ k. take n (drop from (take k (drop base cells)))) whole
    ∙ ap (take n) (drop-take from (size - from) (drop base cells))
    ∙ take-take n (size - from) (drop from (drop base cells)) (omega arith)
    ∙ ap (take n) (drop-drop from base cells)

-- what holds of a guest's cells holds of those of a span
pub All-part : (P : ℕ → Type 0) (base size from n at : ℕ) (cells : List ℕ) → at ≡ base + from → from + n ≤ size → All P (span base size cells) → All P (span at n cells)
All-part P base size from n at cells e within h =
    subst (λ k. All P (span k n cells)) (sym e)
    (subst (λ xs. All P xs) (span-within base size from n cells within) (All-take P n (drop from (span base size cells)) (All-drop P from (span base size cells) h)))

-- the cells that the hardware holds for a span of a guest
pub part-cells : (s : Span) (g : Guest) (cells : List ℕ) (base first size : ℕ) → base ≡ g.base + s.from → first ≡ s.from → first + size ≡ s.to → s.to ≤ g.size →
    span base size cells ≡ cells_of s (virtual cells g).cells
part-cells s g cells base first size is_base is_first is_size within =
    let n : size ≡ s.to - s.from = omega (arith, is_first, is_size) in
    let all : s.from + size ≤ g.size = omega (arith, is_first, is_size, within) in
    ap (λ b. span b size cells) is_base ∙ sym (span-within g.base g.size s.from size cells all) ∙ ap (λ k. span s.from k (virtual cells g).cells) n

pub cells-shown : (w : ℕ) (s : Span) (g : Guest) (cells : List ℕ) (base first size : ℕ) → base ≡ g.base + s.from → first ≡ s.from → first + size ≡ s.to → s.to ≤ g.size →
    rows_from w first (line_count size) (span base size cells) ≡ view_text w (Cells s) (virtual cells g)
unfolding view_text
cells-shown w s g cells base first size is_base is_first is_size within =
    let n : size ≡ s.to - s.from = omega (arith, is_first, is_size) in
    ap (rows_from w first (line_count size)) (part-cells s g cells base first size is_base is_first is_size within)
    ∙ ap (λ f. rows_from w f (line_count size) (cells_of s (virtual cells g).cells)) is_first
    ∙ ap (λ k. rows_from w s.from (line_count k) (cells_of s (virtual cells g).cells)) n

pub bytes-shown : (w : ℕ) (s : Span) (n : ByteCount) (g : Guest) (cells : List ℕ) (base first size : ℕ) → base ≡ g.base + s.from → first ≡ s.from → first + size ≡ s.to → s.to ≤ g.size →
    bytes_of n.count (span base size cells) ++ 10 ∷ [] ≡ view_text w (Bytes s n) (virtual cells g)
unfolding view_text
bytes-shown w s n g cells base first size is_base is_first is_size within =
    ap (λ xs. bytes_of n.count xs ++ 10 ∷ []) (part-cells s g cells base first size is_base is_first is_size within)

pub views_text-none : (w : ℕ) (s : State) → views_text w [] s ≡ []
unfolding views_text
views_text-none w s = refl

views_text-append : (w : ℕ) (us vs : List View) (s : State) → views_text w (us ++ vs) s ≡ views_text w us s ++ views_text w vs s
unfolding views_text
views_text-append w [] vs s = refl
views_text-append w (u ∷ us) vs s = ap (λ t. view_text w u s ++ t) (views_text-append w us vs s) ∙ sym (append_assoc (view_text w u s) (views_text w us s) (views_text w vs s))

views_text-one : (w : ℕ) (view : View) (s : State) → views_text w (view ∷ []) s ≡ view_text w view s
unfolding views_text
views_text-one w view s = append-nil (view_text w view s)

-- what one view more shows
pub views_text-next : (w : ℕ) (views : List View) (i : ℕ) (view : View) (s : State) → i < length views → view ≡ get_or views i view →
    views_text w (take i views) s ++ view_text w view s ≡ views_text w (take (i + 1) views) s
views_text-next w views i view s within is =
    sym (ap (λ vs. views_text w vs s) (take_more views i view within ∙ ap (λ v. take i views ++ v ∷ []) (sym is))
    ∙ views_text-append w (take i views) (view ∷ []) s
    ∙ ap (λ t. views_text w (take i views) s ++ t) (views_text-one w view s))

-- what stands behind that of the first views
pub views_text-front : (w k : ℕ) (views : List View) (s : State) → (rest : List ℕ) × (views_text w views s ≡ views_text w (take k views) s ++ rest)
views_text-front w k views s =
    (views_text w (drop k views) s, ap (λ vs. views_text w vs s) (sym (take-append-drop k views)) ∙ views_text-append w (take k views) (drop k views) s)

-- ---- a guest

pub guest_text-none : (w : ℕ) (views : List View) (s : State) → (length views == 0) ≡ true → state_text w s.cells s.psw ≡ guest_text w views s
unfolding guest_text
guest_text-none w [] s none = refl
guest_text-none w (view ∷ views) s none = absurd (omega (arith, eqb-true (length (view ∷ views)) 0 none))

pub guest_text-some : (w : ℕ) (views : List View) (s : State) → (length views == 0) ≡ false → views_text w views s ≡ guest_text w views s
unfolding guest_text
guest_text-some w [] s some = absurd (false≢true (sym some ∙ eq-eqb 0 0 refl))
guest_text-some w (view ∷ views) s some = refl
