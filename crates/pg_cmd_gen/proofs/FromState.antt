-- Draws, words and images, by the state that they are drawn from.
use Rattle.std.proofs.Common.{◌≡◌, ◌≤◌, ◌-◌, ◌/◌, append_assoc, ℕ, zero, suc, length-append, ◌+◌, ◌*◌, ◌%◌, List, [], ◌∷◌, ◌++◌, length, map, slice_get, Some, refl, ap, sym, ◌∙◌, subst, arith}
use Rattle.std.specs.List.{range_with_len}
use Rattle.std.proofs.lemmas.List.FromFn.{map-range_with_len_more}
use Rattle.pg_ast.specs.declared.tree.Instr.{Instr}
use Rattle.pg_word.specs.Psw.{packed, power_on_psw}
use Rattle.pg_cmd_gen.specs.Draws.{state_behind, draw}
use Rattle.pg_cmd_gen.specs.Generated.{IsInstrAt, bits_text}
use Rattle.pg_cmd_gen.specs.Images.{image_count, image_cells, program_cells, drawn_word, first_draw, image_of, images_of}
use Rattle.pg_cmd_gen.specs.Drawing.{cells_from, images_from}
use Rattle.pg_cmd_gen.proofs.DrawLemmas.{state_behind-further, draw-further}

regroup : (m n k : ℕ) → m + (n + k) ≡ m + n + k
regroup m n k = omega arith

-- a word that is drawn behind other draws
pub drawn_word-further : (number count m n : ℕ) → drawn_word (state_behind number m) count n ≡ drawn_word number count (m + n)
drawn_word-further number count m n =
    rw (draw-further number m n, draw-further number m (n + 1), draw-further number m (n + 2), draw-further number m (n + 3), regroup m n 1, regroup m n 2, regroup m n 3)

-- one more cell
pub cells_from-next : (state count n : ℕ) → cells_from state count (n + 1) ≡ cells_from state count n ++ drawn_word (state_behind state (4 * n)) count 0 ∷ []
unfolding cells_from
cells_from-next state count n =
    let word : ℕ → ℕ = λ cell. drawn_word state count (4 * cell) in
    let last : drawn_word (state_behind state (4 * n)) count 0 ≡ word n = drawn_word-further state count (4 * n) 0 ∙ ap (drawn_word state count) (omega arith) in
    rw last (ap (λ (cells : List ℕ). 0 ∷ packed 8 (power_on_psw image_cells) ∷ cells) (map-range_with_len_more word 0 n n (omega arith)))

pub images_from-next : (state count n : ℕ) → images_from state count (n + 1) ≡ images_from state count n ++ cells_from (state_behind state (4 * (program_cells * n))) count program_cells ∷ []
unfolding images_from
images_from-next state count n =
    map-range_with_len_more (λ (image : ℕ). cells_from (state_behind state (4 * (program_cells * image))) count program_cells) 0 n n (omega arith)

same-map : {X : Type 0} (f g : ℕ → X) → ((k : ℕ) → f k ≡ g k) → (xs : List ℕ) → map f xs ≡ map g xs
same-map f g same [] = refl
same-map f g same (x ∷ xs) = let first = same x in let rest = same-map f g same xs in cc

image-from : (number count image : ℕ) → cells_from (state_behind (state_behind number count) (4 * (program_cells * image))) count program_cells ≡ image_of number count image
unfolding cells_from
image-from number count image =
    let state : ℕ = state_behind (state_behind number count) (4 * (program_cells * image)) in
    let behind : state ≡ state_behind number (count + 4 * (program_cells * image)) = state_behind-further number count (4 * (program_cells * image)) in
    ap (λ (cells : List ℕ). 0 ∷ packed 8 (power_on_psw image_cells) ∷ cells)
    (same-map (λ cell. drawn_word state count (4 * cell)) (λ cell. drawn_word number count (first_draw count image cell))
    (λ cell. ap (λ (s : ℕ). drawn_word s count (4 * cell)) behind ∙ drawn_word-further number count (count + 4 * (program_cells * image)) (4 * cell) ∙ ap (drawn_word number count) (omega arith))
    (range_with_len 0 program_cells))

-- the images behind the draws of a description
pub images-from : (number count : ℕ) → images_from (state_behind number count) count image_count ≡ images_of number count
unfolding images_from
images-from number count =
    same-map (λ image. cells_from (state_behind (state_behind number count) (4 * (program_cells * image))) count program_cells) (image_of number count) (image-from number count) (range_with_len 0 image_count)

some-same : {X : Type 0} (x y : X) → Some x ≡ Some y → x ≡ y
some-same x y e = cc

-- so many instructions, with a draw for each
pub record AreBegun (number : ℕ) (is : List Instr) (k state : ℕ) : Type 0 where
  pub many : length is ≡ k
  pub each : (j : ℕ) (i : Instr) → slice_get is j ≡ Some i → IsInstrAt number j i
  pub behind : state ≡ state_behind number k

nothing : (number : ℕ) → AreBegun number [] 0 number
unfolding state_behind
nothing number = record { many = refl; each = λ j i e. cc; behind = refl }

pub begun-none : (number : ℕ) (is : List Instr) → is ≡ [] → AreBegun number is 0 number
begun-none number is e = subst (λ (xs : List Instr). AreBegun number xs 0 number) (sym e) (nothing number)

each-next : (number k : ℕ) (is : List Instr) (i : Instr) → ((j : ℕ) (x : Instr) → slice_get is j ≡ Some x → IsInstrAt number (k + j) x) → IsInstrAt number (k + length is) i →
    (j : ℕ) (x : Instr) → slice_get (is ++ i ∷ []) j ≡ Some x → IsInstrAt number (k + j) x
each-next number k [] i each last zero x e = subst (IsInstrAt number (k + zero)) (some-same i x e) (subst (λ (n : ℕ). IsInstrAt number n i) (omega arith) last)
each-next number k [] i each last (suc j) x e = cc
each-next number k (y ∷ is) i each last zero x e = each zero x e
each-next number k (y ∷ is) i each last (suc j) x e =
    subst (λ (n : ℕ). IsInstrAt number n x) (omega arith)
    (each-next number (suc k) is i (λ m z f. subst (λ (n : ℕ). IsInstrAt number n z) (omega arith) (each (suc m) z f)) (subst (λ (n : ℕ). IsInstrAt number n i) (omega arith) last) j x e)

-- one more instruction
pub begun-next : (number : ℕ) (is : List Instr) (k state : ℕ) (i : Instr) (next : ℕ) (new : List Instr) → AreBegun number is k state → IsInstrAt number k i → next ≡ state_behind state 1 → new ≡ is ++ i ∷ [] → AreBegun number new (k + 1) next
begun-next number is k state i next new h last one more =
    let last_there : IsInstrAt number (0 + length is) i = subst (λ (n : ℕ). IsInstrAt number n i) (omega (arith, h.many)) last in
    let before : (j : ℕ) (x : Instr) → slice_get is j ≡ Some x → IsInstrAt number (0 + j) x = λ j x e. subst (λ (n : ℕ). IsInstrAt number n x) (omega arith) (h.each j x e) in
    let all = each-next number 0 is i before last_there in
    subst (λ (xs : List Instr). AreBegun number xs (k + 1) next) (sym more) (record {
      many = omega (arith, length-append is (i ∷ []), h.many);
      each = λ j x e. subst (λ (n : ℕ). IsInstrAt number n x) (omega arith) (all j x e);
      behind = one ∙ ap (λ (s : ℕ). state_behind s 1) h.behind ∙ state_behind-further number k 1;
    })

-- the state behind four draws, one after another
pub four-behind : (s s1 s2 s3 s4 : ℕ) → s1 ≡ state_behind s 1 → s2 ≡ state_behind s1 1 → s3 ≡ state_behind s2 1 → s4 ≡ state_behind s3 1 →
    (s2 ≡ state_behind s 2) × (s3 ≡ state_behind s 3) × (s4 ≡ state_behind s 4)
four-behind s s1 s2 s3 s4 e1 e2 e3 e4 =
    let two : s2 ≡ state_behind s 2 = e2 ∙ ap (λ (x : ℕ). state_behind x 1) e1 ∙ state_behind-further s 1 1 in
    let three : s3 ≡ state_behind s 3 = e3 ∙ ap (λ (x : ℕ). state_behind x 1) two ∙ state_behind-further s 2 1 in
    (two, three, e4 ∙ ap (λ (x : ℕ). state_behind x 1) three ∙ state_behind-further s 3 1)

pub draw-behind : (s t n d : ℕ) → t ≡ state_behind s n → d ≡ draw t 0 → d ≡ draw s n
draw-behind s t n d e f = f ∙ ap (λ (x : ℕ). draw x 0) e ∙ draw-further s n 0 ∙ ap (draw s) (omega arith)

-- the two cells in front
pub cells-begun : (state count psw : ℕ) (none one two : List ℕ) → none ≡ [] → one ≡ none ++ 0 ∷ [] → psw ≡ packed 8 (power_on_psw image_cells) → two ≡ one ++ psw ∷ [] → two ≡ cells_from state count 0
unfolding cells_from
cells-begun state count psw none one two e1 e2 e3 e4 = rw (e4, e2, e1, e3)

-- one more cell, put behind the others
pub cells-next : (s count n state word : ℕ) (old new : List ℕ) → old ≡ cells_from s count n → state ≡ state_behind s (4 * n) → word ≡ drawn_word state count 0 → new ≡ old ++ word ∷ [] → new ≡ cells_from s count (n + 1)
cells-next s count n state word old new e1 e2 e3 e4 =
    let last : word ≡ drawn_word (state_behind s (4 * n)) count 0 = e3 ∙ ap (λ (x : ℕ). drawn_word x count 0) e2 in
    rw (e4, e1, last) (sym (cells_from-next s count n))

pub images-next : (s count n state : ℕ) (image : List ℕ) (old new : List (List ℕ)) → old ≡ images_from s count n → state ≡ state_behind s (4 * (program_cells * n)) → image ≡ cells_from state count program_cells → new ≡ old ++ image ∷ [] → new ≡ images_from s count (n + 1)
images-next s count n state image old new e1 e2 e3 e4 =
    let last : image ≡ cells_from (state_behind s (4 * (program_cells * n))) count program_cells = e3 ∙ ap (λ (x : ℕ). cells_from x count program_cells) e2 in
    rw (e4, e1, last) (sym (images_from-next s count n))

pub images-begun : (state count : ℕ) (none : List (List ℕ)) → none ≡ [] → none ≡ images_from state count 0
unfolding images_from
images-begun state count none e = e

-- the state behind more draws
pub behind-next : (s m n k state next : ℕ) → state ≡ state_behind s m → next ≡ state_behind state n → m + n ≡ k → next ≡ state_behind s k
behind-next s m n k state next e f more = f ∙ ap (λ (x : ℕ). state_behind x n) e ∙ state_behind-further s m n ∙ ap (state_behind s) more

pub none-behind : (s : ℕ) → s ≡ state_behind s 0
unfolding state_behind
none-behind s = refl

-- one more bit
pub bits-next : (n x : ℕ) (old between new : List ℕ) → 1 ≤ n → between ≡ old ++ bits_text (n - 1) (x / 2) → new ≡ between ++ (48 + x % 2) ∷ [] → new ≡ old ++ bits_text n x
unfolding bits_text
bits-next zero x old between new least e f = absurd (omega arith)
bits-next (suc m) x old between new least e f =
    let less : suc m - 1 ≡ m = omega arith in
    let before : between ≡ old ++ bits_text m (x / 2) = e ∙ ap (λ (k : ℕ). old ++ bits_text k (x / 2)) less in
    rw (f, before) (append_assoc old (bits_text m (x / 2)) ((48 + x % 2) ∷ []))

-- the images of a number, drawn behind its description
pub images-behind : (number count begun state : ℕ) (images : List (List ℕ)) → begun ≡ number → state ≡ state_behind begun count → images ≡ images_from state count image_count → images ≡ images_of number count
images-behind number count begun state images e1 e2 e3 =
    let behind : state ≡ state_behind number count = e2 ∙ ap (λ (n : ℕ). state_behind n count) e1 in
    e3 ∙ ap (λ (s : ℕ). images_from s count image_count) behind ∙ images-from number count
