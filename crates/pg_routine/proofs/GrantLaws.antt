-- Grants: what a guest in one sees, and a storage with other cells in one.
use Rattle.std.proofs.Common.{◌≡◌, ℕ, ◌+◌, ◌-◌, ◌<◌, ◌≤◌, ◌⊎◌, Bool, true, false, min, nat_lt, if◌then◌else◌, List, ◌++◌, length, take, drop, slice_set, slice_index, slice_get, Some, refl, sym, ◌∙◌, ap, arith, inl, inr, append_assoc}
use Rattle.std.proofs.lemmas.Bool.{ltb-true, ltb-false}
use Rattle.std.proofs.lemmas.List.{length-take, length-drop, length-take-le, length-append, length-set, set-append_left, set-append_right, take-append-drop, take-take, take_min, take-append-le, drop_min, drop_at, drop-take, drop-drop, drop-append-le, take-set-le, drop-set-lt, drop-set-add, get_or-take, get_or-drop}
use Rattle.std.proofs.lemmas.Option.{get_or_from_slice_get}
use Rattle.std.proofs.Math.Seq.{take-add, take-set-lt}
use Rattle.pg_word.specs.declared.psw.Psw.{Psw}
use Rattle.pg_word.specs.Psw.{window_len_of}
use Rattle.pg_lang_meaning.specs.States.{State, window, put_back}
use Rattle.pg_lang_valid.proofs.StepSound.{put_back-length}
use Rattle.pg_routine.specs.Composing.{composed}
use Rattle.pg_routine.specs.Granting.{guest_at, with_grant}

-- ---- runs of cells

drop-take_le : (k n : ℕ) (xs : List ℕ) → k ≤ n → drop k (take n xs) ≡ take (n - k) (drop k xs)
drop-take_le k n xs h =
    let e : n ≡ k + (n - k) = omega arith in
    ap (λ m. drop k (take m xs)) e ∙ drop-take k (n - k) xs

-- a run of cells, and what stands after it
take-then-drop : (j size base : ℕ) (cells : List ℕ) → j ≤ size → take (size - j) (drop (base + j) cells) ++ drop (base + size) cells ≡ drop (base + j) cells
take-then-drop j size base cells h =
    let e : base + size ≡ base + j + (size - j) = omega arith in
    ap (λ m. take (size - j) (drop (base + j) cells) ++ drop m cells) e
    ∙ ap (λ xs. take (size - j) (drop (base + j) cells) ++ xs) (sym (drop-drop (size - j) (base + j) cells))
    ∙ take-append-drop (size - j) (drop (base + j) cells)

regroup : (a b w c d : List ℕ) → a ++ (b ++ w ++ c) ++ d ≡ (a ++ b) ++ w ++ (c ++ d)
regroup a b w c d = simp append_assoc

-- ---- a guest in its grant

-- a guest has as many cells as its grant
pub guest-length : (cells : List ℕ) (base size : ℕ) → base + size ≤ length cells → length (take size (drop base cells)) ≡ size
guest-length cells base size h = omega (arith, length-take size (drop base cells), length-drop base cells)

-- a cell of a guest is the cell that lies so far from the grant's base
pub guest-cell : (cells : List ℕ) (base size k : ℕ) (c : ℕ) → k < size → slice_get cells (base + k) ≡ Some c → slice_index (take size (drop base cells)) k ≡ c
guest-cell cells base size k c h is = get_or-take size (drop base cells) k 0 h ∙ get_or-drop base cells k 0 ∙ get_or_from_slice_get cells (base + k) c 0 is

guest-from : (cells : List ℕ) (base size l : ℕ) → base + size ≤ length cells →
    drop l (take size (drop base cells)) ≡ take (size - min l size) (drop (base + min l size) cells)
guest-from cells base size l h =
    sym (drop_min l (take size (drop base cells)))
    ∙ ap (λ n. drop (min l n) (take size (drop base cells))) (guest-length cells base size h)
    ∙ drop-take_le (min l size) size (drop base cells) (omega arith)
    ∙ ap (take (size - min l size)) (drop-drop (min l size) base cells)

-- the window of a guest, where it lies in the storage
pub guest-window : (cells : List ℕ) (base size : ℕ) (psw : Psw) → base + size ≤ length cells →
    take (window_len_of psw size) (drop (base + min psw.l size) cells) ≡ window (guest_at cells base size psw)
guest-window cells base size psw h =
    let from = base + min psw.l size in
    let left = size - min psw.l size in
    sym (ap (λ n. take (window_len_of psw n) (drop psw.l (take size (drop base cells)))) (guest-length cells base size h)
    ∙ ap (take (window_len_of psw size)) (guest-from cells base size psw.l h)
    ∙ take-take (window_len_of psw size) left (drop from cells) (omega arith))

-- it is the one that the composed program status word opens
composed-window_by : (cells : List ℕ) (base size : ℕ) (psw : Psw) (b : Bool) → base + size ≤ length cells → nat_lt psw.l size ≡ b →
    take (min (if b then min psw.b (size - psw.l) else 0) (length cells - (if b then psw.l + base else base))) (drop (if b then psw.l + base else base) cells)
    ≡ take (window_len_of psw size) (drop (base + min psw.l size) cells)
composed-window_by cells base size psw true h e =
    let below : psw.l < size = ltb-true psw.l size e in
    let len : min (min psw.b (size - psw.l)) (length cells - (psw.l + base)) ≡ window_len_of psw size = omega arith in
    let from : psw.l + base ≡ base + min psw.l size = omega arith in
    ap (λ n. take n (drop (psw.l + base) cells)) len ∙ ap (λ n. take (window_len_of psw size) (drop n cells)) from
composed-window_by cells base size psw false h e =
    let past : size ≤ psw.l = ltb-false psw.l size e in
    let none : min 0 (length cells - base) ≡ 0 = omega arith in
    let len : 0 ≡ window_len_of psw size = omega arith in
    ap (λ n. take n (drop base cells)) none ∙ ap (λ n. take n (drop (base + min psw.l size) cells)) len

pub composed-window : (cells : List ℕ) (base size : ℕ) (psw : Psw) → base + size ≤ length cells →
    window (record { cells = cells; psw = composed psw base size }) ≡ window (guest_at cells base size psw)
composed-window cells base size psw h =
    composed-window_by cells base size psw (nat_lt psw.l size) h refl ∙ guest-window cells base size psw h

-- ---- a storage with other cells in a grant

-- a grant apart from one that changes
pub guest-before : (cells new : List ℕ) (base other size : ℕ) → base + length new ≤ length cells → other + size ≤ base →
    take size (drop other (with_grant cells base new)) ≡ take size (drop other cells)
guest-before cells new base other size h before =
    let a = take base cells in
    let d = drop (base + length new) cells in
    let front = length-take-le base cells (omega arith) in
    ap (λ xs. take size (drop other xs)) (append_assoc a new d)
    ∙ ap (take size) (drop-append-le other a (new ++ d) (omega (arith, front)))
    ∙ take-append-le size (drop other a) (new ++ d) (omega (arith, front, length-drop other a))
    ∙ ap (take size) (drop-take_le other base cells (omega arith))
    ∙ take-take size (base - other) (drop other cells) (omega arith)

pub guest-after : (cells new : List ℕ) (base other size : ℕ) → base + length new ≤ length cells → base + length new ≤ other →
    take size (drop other (with_grant cells base new)) ≡ take size (drop other cells)
guest-after cells new base other size h after =
    let a = take base cells ++ new in
    let n = base + length new in
    let front : length a ≡ n = omega (arith, length-append (take base cells) new, length-take-le base cells (omega arith)) in
    let e : other ≡ n + (other - n) = omega arith in
    ap (take size) (ap (λ k. drop k (a ++ drop n cells)) e ∙ sym (drop-drop (other - n) n (a ++ drop n cells))
    ∙ ap (drop (other - n)) (drop_at a (drop n cells) n front) ∙ drop-drop (other - n) n cells ∙ ap (λ k. drop k cells) (sym e))

pub guest-apart : (cells new : List ℕ) (base other size : ℕ) (psw : Psw) → base + length new ≤ length cells → (other + size ≤ base) ⊎ (base + length new ≤ other) →
    guest_at (with_grant cells base new) other size psw ≡ guest_at cells other size psw
guest-apart cells new base other size psw h (inl before) = ap (λ cs. let s : State = record { cells = cs; psw = psw } in s) (guest-before cells new base other size h before)
guest-apart cells new base other size psw h (inr after) = ap (λ cs. let s : State = record { cells = cs; psw = psw } in s) (guest-after cells new base other size h after)

-- the cells that are there already
pub with_grant-same : (cells : List ℕ) (base size : ℕ) → base + size ≤ length cells → with_grant cells base (take size (drop base cells)) ≡ cells
with_grant-same cells base size h =
    ap (λ n. take base cells ++ take size (drop base cells) ++ drop (base + n) cells) (guest-length cells base size h)
    ∙ ap (λ xs. xs ++ drop (base + size) cells) (sym (take-add base size cells)) ∙ take-append-drop (base + size) cells

-- one cell of a grant changed is that cell of the storage changed
pub with_grant-set : (cells new : List ℕ) (base at c : ℕ) → base ≤ length cells → at < length new → with_grant cells base (slice_set new at c) ≡ slice_set (with_grant cells base new) (base + at) c
with_grant-set cells new base at c within inside =
    let front = length-take-le base cells within in
    let both = length-append (take base cells) new in
    let back : base + at - base ≡ at = omega arith in
    ap (λ n. take base cells ++ slice_set new at c ++ drop (base + n) cells) (length-set new at c)
    ∙ sym (set-append_left (take base cells ++ new) (drop (base + length new) cells) (base + at) c (omega (arith, front, both, inside))
    ∙ ap (λ xs. xs ++ drop (base + length new) cells) (set-append_right (take base cells) new base (base + at) c front (omega arith)
    ∙ ap (λ i. take base cells ++ slice_set new i c) back))

-- the same of a guest's own cells
pub guest-set : (cells : List ℕ) (base size at c : ℕ) → base + size ≤ length cells → at < size →
    with_grant cells base (slice_set (take size (drop base cells)) at c) ≡ slice_set cells (base + at) c
guest-set cells base size at c h inside =
    with_grant-set cells (take size (drop base cells)) base at c (omega arith) (omega (arith, guest-length cells base size h))
    ∙ ap (λ cs. slice_set cs (base + at) c) (with_grant-same cells base size h)

-- a cell that was changed within a grant is of no account once the grant has other cells
pub with_grant-over : (cells new : List ℕ) (base at c : ℕ) → at < length new → with_grant (slice_set cells (base + at) c) base new ≡ with_grant cells base new
with_grant-over cells new base at c inside =
    ap (λ xs. xs ++ new ++ drop (base + length new) (slice_set cells (base + at) c)) (take-set-le base cells (base + at) c (omega arith))
    ∙ ap (λ xs. take base cells ++ new ++ xs) (drop-set-lt (base + length new) cells (base + at) c (omega arith))

-- the run of cells in which one was changed
pub guest-changed : (cells : List ℕ) (base size at c : ℕ) → at < size →
    take size (drop base (slice_set cells (base + at) c)) ≡ slice_set (take size (drop base cells)) at c
guest-changed cells base size at c inside = ap (take size) (drop-set-add base cells at c) ∙ take-set-lt size (drop base cells) at c inside

-- a guest's window that is put back lies where the window lies in the storage
pub with_grant-put_back : (cells w : List ℕ) (base size : ℕ) (psw : Psw) → base + size ≤ length cells → length w ≡ window_len_of psw size →
    with_grant cells base (put_back (guest_at cells base size psw) w) ≡ with_grant cells (base + min psw.l size) w
with_grant-put_back cells w base size psw h e =
    let g = take size (drop base cells) in
    let k = min psw.l size in
    let n = guest-length cells base size h in
    let len : length w ≡ window_len_of psw (length g) = e ∙ ap (window_len_of psw) (sym n) in
    let end : min (psw.l + window_len_of psw (length g)) (length g) ≡ k + length w = omega (arith, n, e) in
    let over : base + (k + length w) ≡ base + k + length w = omega arith in
    let front : take base cells ++ take psw.l g ≡ take (base + k) cells =
    ap (λ xs. take base cells ++ xs) (sym (take_min psw.l g) ∙ ap (λ m. take (min psw.l m) g) n ∙ take-take k size (drop base cells) (omega arith))
    ∙ sym (take-add base k cells) in
    let back : drop (psw.l + window_len_of psw (length g)) g ++ drop (base + size) cells ≡ drop (base + k + length w) cells =
    ap (λ xs. xs ++ drop (base + size) cells) (sym (drop_min (psw.l + window_len_of psw (length g)) g) ∙ ap (λ m. drop m g) end
    ∙ drop-take_le (k + length w) size (drop base cells) (omega (arith, e)) ∙ ap (take (size - (k + length w))) (drop-drop (k + length w) base cells))
    ∙ take-then-drop (k + length w) size base cells (omega (arith, e)) ∙ ap (λ m. drop m cells) over in
    ap (λ m. take base cells ++ put_back (guest_at cells base size psw) w ++ drop (base + m) cells) (put_back-length (guest_at cells base size psw) w len ∙ n)
    ∙ regroup (take base cells) (take psw.l g) w (drop (psw.l + window_len_of psw (length g)) g) (drop (base + size) cells)
    ∙ ap (λ xs. xs ++ w ++ (drop (psw.l + window_len_of psw (length g)) g ++ drop (base + size) cells)) front
    ∙ ap (λ xs. take (base + k) cells ++ w ++ xs) back
