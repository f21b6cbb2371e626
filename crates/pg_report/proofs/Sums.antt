-- Sums of cells.
use Rattle.std.proofs.Common.{◌≡◌, ℕ, ◌+◌, ◌%◌, ◌^◌, List, drop, Some, slice_get, sym, ◌∙◌, ap, arith}
use Rattle.std.proofs.Math.Nat.{mod-add-mod}
use Rattle.std.proofs.lemmas.List.{get_or-drop, length-drop}
use Rattle.std.proofs.lemmas.List.Sums.{sum_by_more}
use Rattle.std.proofs.lemmas.Option.{get_or_from_slice_get, slice_get_within}
use Rattle.std.specs.Prelude.{sum}
use Rattle.pg_report.specs.Spans.{span}
use Rattle.pg_report.specs.Summaries.{sum_of}

-- one cell more is one term more
sum-more : (base i : ℕ) (cells : List ℕ) (word : ℕ) → slice_get cells (base + i) ≡ Some word → sum (span base (i + 1) cells) ≡ sum (span base i cells) + word
sum-more base i cells word is =
    let within = slice_get_within cells (base + i) word is in
    sum_by_more (λ x. x) (drop base cells) i word (omega (arith, within, length-drop base cells))
    ∙ ap (λ x. sum (span base i cells) + x) (get_or-drop base cells i word ∙ get_or_from_slice_get cells (base + i) word word is)

-- and so it is of words of w bits
pub sum-next : (w base i : ℕ) (cells : List ℕ) (word before after : ℕ) → slice_get cells (base + i) ≡ Some word →
    before ≡ sum_of w (span base i cells) → after ≡ (before + word) % 2 ^ w → after ≡ sum_of w (span base (i + 1) cells)
sum-next w base i cells word before after is so_far next =
    next ∙ ap (λ n. (n + word) % 2 ^ w) so_far ∙ mod-add-mod (sum (span base i cells)) (2 ^ w) word
    ∙ ap (λ n. n % 2 ^ w) (sym (sum-more base i cells word is))
