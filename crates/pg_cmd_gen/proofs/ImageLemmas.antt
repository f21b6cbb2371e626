-- The words of generated images.
use Rattle.std.proofs.Common.{ℕ, ◌^◌, ◌<◌, ◌≤◌, List, ◌∷◌, map, All, refl, arith, lit<}
use Rattle.std.specs.List.{range_with_len}
use Rattle.std.proofs.lemmas.List.Elements.{All-cons, All-map}
use Rattle.pg_word.specs.Psw.{packed, power_on_psw}
use Rattle.pg_cmd_gen.specs.Generated.{most_instructions}
use Rattle.pg_cmd_gen.specs.Images.{image_cells, program_cells, image_count, drawn_word, first_draw, image_of, images_of, IsFilled}

-- a word of 32 bits
abbrev IsWord : ℕ → Type 0
IsWord word = word < 2 ^ 32

word-below : (number count at : ℕ) → 1 ≤ count → count ≤ most_instructions → drawn_word number count at < 2 ^ 32
word-below number count at least most = grind arith

image-filled : (number count image : ℕ) → 1 ≤ count → count ≤ most_instructions → IsFilled (image_of number count image)
image-filled number count image least most =
    let word : ℕ → ℕ = λ cell. drawn_word number count (first_draw count image cell) in
    let cells : List ℕ = map word (range_with_len 0 program_cells) in
    let psw : ℕ = packed 8 (power_on_psw image_cells) in
    let program : All IsWord cells = All-map IsWord word (range_with_len 0 program_cells) (λ k d below. word-below number count _ least most) in
    record { cells = refl; words = All-cons IsWord 0 (psw ∷ cells) (lit< tt) (All-cons IsWord psw cells (lit< tt) program) }

pub images-filled : (number count : ℕ) → 1 ≤ count → count ≤ most_instructions → All IsFilled (images_of number count)
images-filled number count least most = All-map IsFilled (image_of number count) (range_with_len 0 image_count) (λ k d below. image-filled number count _ least most)
