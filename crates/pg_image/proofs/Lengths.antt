-- How long lines are.
use Rattle.std.proofs.Common.{◌≡◌, ℕ, ◌+◌, ◌*◌, ◌/◌, List, [], ◌∷◌, ◌++◌, length, refl, arith, length-append}
use Rattle.std.specs.Prelude.{codes}
use Rattle.std.specs.Fmt.{decimal}
use Rattle.pg_word.specs.declared.psw.Psw.{Psw}
use Rattle.pg_word.specs.declared.psw.Mode.{Mode}
use Rattle.pg_word.specs.declared.psw.Mode.TheVariants.{S, U}
use Rattle.pg_text.specs.Printing.{hex_text}
use Rattle.pg_text.proofs.Hex.{length-hex_text}
use Rattle.pg_image.specs.Lines.{size_text, psw_text, mode_text, words_text, cells_text}

pub length-size_text : (n : ℕ) → length (size_text n) ≡ length (decimal n) + 6
unfolding size_text
length-size_text n = omega (arith, length-append (codes "size " ++ decimal n) (10 ∷ []), length-append (codes "size ") (decimal n))

length-mode_text : (m : Mode) → length (mode_text m) ≡ 1
length-mode_text S = refl
length-mode_text U = refl

-- a list and a line's end, and a list and a field
ended : (xs : List ℕ) → length (xs ++ 10 ∷ []) ≡ length xs + 1
ended xs = length-append xs (10 ∷ [])

field : (xs ys : List ℕ) → length (xs ++ 32 ∷ ys) ≡ length xs + length ys + 1
field xs ys = omega (arith, length-append xs (32 ∷ ys))

pub length-psw_text : (x : Psw) → length (psw_text x) ≡ length (decimal x.p) + length (decimal x.l) + length (decimal x.b) + 9
unfolding psw_text
length-psw_text x =
    let head : List ℕ = codes "psw " ++ mode_text x.mode in
    let p : List ℕ = head ++ 32 ∷ decimal x.p in
    let l : List ℕ = p ++ 32 ∷ decimal x.l in
    let front : length head ≡ 5 = omega (arith, length-append (codes "psw ") (mode_text x.mode), length-mode_text x.mode) in
    omega (arith, ended (l ++ 32 ∷ decimal x.b), field l (decimal x.b), field p (decimal x.l), field head (decimal x.p), front)

length-words_text : (w : ℕ) (words : List ℕ) → length (words_text w words) ≡ length words * (w / 4 + 1)
unfolding words_text
length-words_text w [] = omega arith
length-words_text w (word ∷ words) =
    let one = length-append (32 ∷ hex_text (w / 4) word) (words_text w words) in
    let rest = length-words_text w words in
    let len = length-hex_text (w / 4) word in
    grind (arith, one, rest, len)

pub length-cells_text : (w first : ℕ) (words : List ℕ) → length (cells_text w first words) ≡ length (decimal first) + length words * (w / 4 + 1) + 2
unfolding cells_text
length-cells_text w first words =
    omega (arith, ended (decimal first ++ 58 ∷ words_text w words), length-append (decimal first) (58 ∷ words_text w words), length-words_text w words)
