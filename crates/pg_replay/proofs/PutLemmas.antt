-- A window that is put back, cell by cell.
use Rattle.std.proofs.Common.{◌≡◌, ℕ, ◌+◌, ◌-◌, ◌<◌, ◌≤◌, List, ◌++◌, length, take, drop, get_or, slice_set, sym, ◌∙◌, ap, arith}
use Rattle.std.proofs.lemmas.List.{length-take-le, length-append, set-append_left, set-append_right, take-append-drop, take_more}
use Rattle.std.proofs.Math.Seq.{take-add}
use Rattle.pg_word.specs.declared.psw.Psw.{Psw}
use Rattle.pg_word.specs.Sparse.{storage_of}
use Rattle.pg_word.proofs.SparseLemmas.{length-storage_of}
use Rattle.pg_interp.specs.declared.effect.Write.{Write}
use Rattle.pg_interp.specs.Writes.{written}
use Rattle.pg_interp.proofs.WriteLemmas.{written-length, written-more, written-nothing}
use Rattle.pg_lang_meaning.specs.States.{State, window, window_length, put_back}
use Rattle.pg_lang_valid.proofs.StepSound.{window-length}

put_back-set : (s : State) (cells : List ℕ) (at c : ℕ) → length cells ≡ window_length s → at < length cells → put_back s (slice_set cells at c) ≡ slice_set (put_back s cells) (s.psw.l + at) c
put_back-set s cells at c long inside =
    let within : s.psw.l ≤ length s.cells = omega (arith, long, inside) in
    let front = length-take-le s.psw.l s.cells within in
    let both = length-append (take s.psw.l s.cells) cells in
    let back : s.psw.l + at - s.psw.l ≡ at = omega arith in
    sym (set-append_left (take s.psw.l s.cells ++ cells) (drop (s.psw.l + window_length s) s.cells) (s.psw.l + at) c (omega (arith, front, both, inside))
    ∙ ap (λ xs. xs ++ drop (s.psw.l + window_length s) s.cells) (set-append_right (take s.psw.l s.cells) cells s.psw.l (s.psw.l + at) c front (omega arith)
    ∙ ap (λ i. take s.psw.l s.cells ++ slice_set cells i c) back))

put_back-same : (s : State) → put_back s (window s) ≡ s.cells
put_back-same s = ap (λ xs. xs ++ drop (s.psw.l + window_length s) s.cells) (sym (take-add s.psw.l (window_length s) s.cells)) ∙ take-append-drop (s.psw.l + window_length s) s.cells

-- no store
pub put_back-none : (s : State) (ws : List Write) → put_back s (written (take 0 ws) (window s)) ≡ s.cells
put_back-none s ws = ap (put_back s) (written-nothing (window s)) ∙ put_back-same s

-- one store more
pub put_back-more : (s : State) (ws : List Write) (i : ℕ) (d : Write) → i < length ws → (get_or ws i d).at < length (window s) →
    put_back s (written (take (i + 1) ws) (window s)) ≡ slice_set (put_back s (written (take i ws) (window s))) (s.psw.l + (get_or ws i d).at) (get_or ws i d).cell
put_back-more s ws i d l inside =
    let x = get_or ws i d in
    let so_far = written-length (take i ws) (window s) in
    ap (λ xs. put_back s (written xs (window s))) (take_more ws i d l)
    ∙ ap (put_back s) (written-more (take i ws) x (window s))
    ∙ put_back-set s (written (take i ws) (window s)) x.at x.cell (so_far ∙ window-length s) (omega (arith, so_far, inside))

-- an address of the window is that of a cell of the storage
pub usable_within : (size : ℕ) (psw : Psw) (cells : List (ℕ × ℕ)) (a : ℕ) → a < length (window (record { cells = storage_of size cells; psw = psw })) → psw.l + a < size
usable_within size psw cells a h =
    let s : State = record { cells = storage_of size cells; psw = psw } in
    omega (arith, window-length s, length-storage_of size cells, h)
