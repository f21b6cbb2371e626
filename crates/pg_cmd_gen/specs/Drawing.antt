-- Images by the state that they are drawn from, as the code has it.
use Rattle.std.specs.Prelude.{ℕ, ◌*◌, List, ◌∷◌, map}
use Rattle.std.specs.List.{range_with_len}
use Rattle.pg_word.specs.Psw.{packed, power_on_psw}
use Rattle.pg_cmd_gen.specs.Draws.{state_behind}
use Rattle.pg_cmd_gen.specs.Images.{image_cells, program_cells, drawn_word}

-- so many cells of an image, beside the two in front of its program
unfoldable pub cells_from : ℕ → ℕ → ℕ → List ℕ
cells_from state count n =
    0 ∷ packed 8 (power_on_psw image_cells) ∷ map (λ cell. drawn_word state count (4 * cell)) (range_with_len 0 n)

-- so many images one after another, each with its own draws
unfoldable pub images_from : ℕ → ℕ → ℕ → List (List ℕ)
images_from state count n =
    map (λ image. cells_from (state_behind state (4 * (program_cells * image))) count program_cells) (range_with_len 0 n)
