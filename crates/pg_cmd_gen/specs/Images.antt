-- Generated images: four of 30 words, whose programs follow from the draws behind those of the description.
use Rattle.std.specs.Prelude.{◌≡◌, ℕ, ◌+◌, ◌*◌, ◌%◌, ◌^◌, ◌<◌, List, ◌∷◌, All, length, map}
use Rattle.std.specs.List.{range_with_len}
use Rattle.pg_word.specs.Psw.{packed, power_on_psw}
use Rattle.pg_cmd_gen.specs.Draws.{draw}

-- how many images there are, of how many cells, and how many of these hold a program, from cell 2 on
abbrev pub image_count : ℕ
image_count = 4

abbrev pub image_cells : ℕ
image_cells = 30

abbrev pub program_cells : ℕ
program_cells = 28

-- the word of four draws from this one on: the number of an instruction's pattern, and three addresses below 32
abbrev pub drawn_word : ℕ → ℕ → ℕ → ℕ
drawn_word number count at =
    ((1 + draw number at % count) * 2 ^ 24) + (draw number (at + 1) % 32) * 2 ^ 16 + (draw number (at + 2) % 32) * 2 ^ 8 + draw number (at + 3) % 32

-- the first draw of a cell of a program, counted from 0, of this image: behind one draw for each instruction, and four for each
-- cell before it
abbrev pub first_draw : ℕ → ℕ → ℕ → ℕ
first_draw count image cell = count + 4 * (program_cells * image + cell)

-- the cells of a program
abbrev pub program_of : ℕ → ℕ → ℕ → List ℕ
program_of number count image = map (λ cell. drawn_word number count (first_draw count image cell)) (range_with_len 0 program_cells)

-- cell 0 is 0, cell 1 holds the program status word with which a machine of as many cells is switched on, and then stands the program
abbrev pub image_of : ℕ → ℕ → ℕ → List ℕ
image_of number count image = 0 ∷ packed 8 (power_on_psw image_cells) ∷ program_of number count image

-- the images of a number, beside a description with so many instructions
abbrev pub images_of : ℕ → ℕ → List (List ℕ)
images_of number count = map (image_of number count) (range_with_len 0 image_count)

-- an image of the size, whose words have 32 bits
pub record IsFilled (image : List ℕ) : Type 0 where
  pub cells : length image ≡ image_cells
  pub words : All (λ word. word < 2 ^ 32) image
