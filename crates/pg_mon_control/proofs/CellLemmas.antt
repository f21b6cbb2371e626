-- Storages with other cells in a grant, and with another cell 0.
use Rattle.std.proofs.Common.{◌≡◌, ℕ, ◌+◌, ◌<◌, ◌≤◌, List, ◌++◌, length, take, drop, slice_set, slice_index, slice_get, Some, sym, ◌∙◌, ap, arith, append_assoc, length-append}
use Rattle.std.proofs.lemmas.List.{length-take-le, set-append_left, take_at, drop_at, drop-set-lt, set-get_or, get_or_append_left, get_or-take, get_or-set_other}
use Rattle.std.proofs.lemmas.Option.{slice_get-get_or, slice_get_within, get_or_from_slice_get}
use Rattle.std.proofs.Math.Seq.{take-set-lt}
use Rattle.pg_routine.specs.Granting.{with_grant}

-- what stands before a grant has as many cells as the grant's base
front : (cells : List ℕ) (base : ℕ) → base ≤ length cells → length (take base cells) ≡ base
front cells base h = length-take-le base cells h

both : (cells new : List ℕ) (base : ℕ) → base ≤ length cells → length (take base cells ++ new) ≡ base + length new
both cells new base h = omega (arith, length-append (take base cells) new, front cells base h)

with_grant-front : (cells new : List ℕ) (base : ℕ) → base ≤ length cells → take base (with_grant cells base new) ≡ take base cells
with_grant-front cells new base h =
    ap (take base) (append_assoc (take base cells) new (drop (base + length new) cells))
    ∙ take_at (take base cells) (new ++ drop (base + length new) cells) base (front cells base h)

with_grant-rest : (cells new : List ℕ) (base : ℕ) → base ≤ length cells → drop (base + length new) (with_grant cells base new) ≡ drop (base + length new) cells
with_grant-rest cells new base h = drop_at (take base cells ++ new) (drop (base + length new) cells) (base + length new) (both cells new base h)

-- the cells that were put into a grant
pub with_grant-own : (cells new : List ℕ) (base size : ℕ) → base ≤ length cells → length new ≡ size → take size (drop base (with_grant cells base new)) ≡ new
with_grant-own cells new base size h e =
    ap (λ xs. take size (drop base xs)) (append_assoc (take base cells) new (drop (base + length new) cells))
    ∙ ap (take size) (drop_at (take base cells) (new ++ drop (base + length new) cells) base (front cells base h))
    ∙ take_at new (drop (base + length new) cells) size e

-- of cells that are put into a grant one after the other, the last ones count
pub with_grant-again : (cells new newer : List ℕ) (base : ℕ) → base ≤ length cells → length newer ≡ length new →
    with_grant (with_grant cells base new) base newer ≡ with_grant cells base newer
with_grant-again cells new newer base h e =
    ap (λ xs. xs ++ newer ++ drop (base + length newer) (with_grant cells base new)) (with_grant-front cells new base h)
    ∙ ap (λ xs. take base cells ++ newer ++ xs)
    (ap (λ n. drop (base + n) (with_grant cells base new)) e ∙ with_grant-rest cells new base h ∙ sym (ap (λ n. drop (base + n) cells) e))

-- ---- cell 0, and the cells before a grant

pub set_first-grant : (cells new : List ℕ) (base word : ℕ) → 0 < base → base ≤ length cells →
    with_grant (slice_set cells 0 word) base new ≡ slice_set (with_grant cells base new) 0 word
set_first-grant cells new base word some h =
    ap (λ xs. xs ++ new ++ drop (base + length new) (slice_set cells 0 word)) (take-set-lt base cells 0 word some)
    ∙ ap (λ xs. slice_set (take base cells) 0 word ++ new ++ xs) (drop-set-lt (base + length new) cells 0 word (omega arith))
    ∙ sym (set-append_left (take base cells ++ new) (drop (base + length new) cells) 0 word (omega (arith, both cells new base h))
    ∙ ap (λ xs. xs ++ drop (base + length new) cells) (set-append_left (take base cells) new 0 word (omega (arith, front cells base h))))

pub set_first-guest : (cells : List ℕ) (base size word : ℕ) → 0 < base → take size (drop base (slice_set cells 0 word)) ≡ take size (drop base cells)
set_first-guest cells base size word some = ap (take size) (drop-set-lt base cells 0 word some)

-- a cell before the grant is as it was
pub with_grant-before : (cells new : List ℕ) (base k : ℕ) → base ≤ length cells → k < base → slice_index (with_grant cells base new) k ≡ slice_index cells k
with_grant-before cells new base k h below =
    get_or_append_left (take base cells ++ new) (drop (base + length new) cells) 0 k (omega (arith, both cells new base h))
    ∙ get_or_append_left (take base cells) new 0 k (omega (arith, front cells base h))
    ∙ get_or-take base cells k 0 below

pub set_same : (cells : List ℕ) → slice_set cells 0 (slice_index cells 0) ≡ cells
set_same cells = set-get_or cells 0 0

pub cell_of : (xs ys : List ℕ) (k c : ℕ) → length ys ≡ length xs → slice_index ys k ≡ slice_index xs k → slice_get xs k ≡ Some c → slice_get ys k ≡ Some c
cell_of xs ys k c size same is =
    let within = slice_get_within xs k c is in
    slice_get-get_or ys k 0 (omega (arith, within, size)) ∙ ap Some (same ∙ get_or_from_slice_get xs k c 0 is)

-- cell 1 is not changed with cell 0
pub set_first-second : (cells : List ℕ) (word : ℕ) → slice_index (slice_set cells 0 word) 1 ≡ slice_index cells 1
set_first-second cells word = get_or-set_other cells 0 1 word 0 (λ e. absurd (omega arith))
