-- Runs of the cells of a storage.
use Rattle.std.proofs.Common.{◌≡◌, ℕ, ◌+◌, ◌-◌, ◌≤◌, min, ◌⊎◌, List, All, length, take, drop, sym, ◌∙◌, ap, subst, inl, inr, arith}
use Rattle.std.proofs.lemmas.List.{take_all, take-take, drop-take, drop-drop, length-take, length-drop}
use Rattle.std.proofs.lemmas.List.Elements.{All-take, All-drop}
use Rattle.pg_image.specs.Lines.{line_cells}
use Rattle.pg_report.specs.Spans.{span}

-- a run has as many cells as were asked for, where there are so many
pub length-span : (base size : ℕ) (cells : List ℕ) → base + size ≤ length cells → length (span base size cells) ≡ size
length-span base size cells within =
    omega (arith, length-take size (drop base cells), length-drop base cells)

-- the shorter of two runs from the same place on
take-both : {X : Type 0} (m n : ℕ) (xs : List X) → n ≤ m → take m (take n xs) ≡ take n xs
take-both m n xs within = take_all m (take n xs) (omega (arith, length-take n xs))

take-least : {X : Type 0} (m n : ℕ) (xs : List X) → (m ≤ n) ⊎ (n ≤ m) → take m (take n xs) ≡ take (min n m) xs
take-least m n xs (inl le) =
    let least : m ≡ min n m = omega (arith, le) in
    take-take m n xs le ∙ ap (λ k. take k xs) least
take-least m n xs (inr le) =
    let least : n ≡ min n m = omega (arith, le) in
    take-both m n xs le ∙ ap (λ k. take k xs) least

-- a line's cells of a run are a run
pub take-span : (base size n count : ℕ) (cells : List ℕ) → n ≤ size → count ≡ min (size - n) line_cells → take line_cells (drop n (span base size cells)) ≡ span (base + n) count cells
take-span base size n count cells within few =
    let whole : size ≡ n + (size - n) = omega arith in
    let rest = ap (λ s. drop n (take s (drop base cells))) whole ∙ drop-take n (size - n) (drop base cells) in
    let either : (line_cells ≤ size - n) ⊎ (size - n ≤ line_cells) = grind arith in
    ap (take line_cells) rest ∙ take-least line_cells (size - n) (drop n (drop base cells)) either ∙ ap (take (min (size - n) line_cells)) (drop-drop n base cells) ∙ ap (λ k. span (base + n) k cells) (sym few)

-- what holds of all cells holds of those that were read of them
pub All-read : (P : ℕ → Type 0) (m n : ℕ) (cells read : List ℕ) → read ≡ take m (drop n cells) → All P cells → All P read
All-read P m n cells read same h =
    let Q : List ℕ → Type 0 = λ words. All P words in
    subst Q (sym same) (All-take P m _ (All-drop P n cells h))
