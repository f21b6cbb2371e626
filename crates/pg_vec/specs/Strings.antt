-- What bit strings are made of, bit 0 first.
use Rattle.std.specs.Prelude.{ℕ, ◌+◌, ◌-◌, ◌*◌, true, false, List, [], ◌∷◌, ◌++◌, length, take, drop, map, replicate, slice_index_or}
use Rattle.pg_circuit.specs.declared.node.Gate.{Gate}
use Rattle.pg_circuit.specs.declared.node.Node.{Node}
use Rattle.pg_circuit.specs.Made.{constant_gate, not_gate, and_made, xor_made}
use Rattle.pg_vec.specs.Gates.{then_made, or_made, choice_made, carry_made}

-- ---- strings that need no node

abbrev pub zeros : ℕ → List Gate
zeros n = replicate n (constant_gate false)

abbrev pub flipped : List Gate → List Gate
flipped xs = map not_gate xs

-- moved k places up, zeros moved in, and what is moved past the top lost
abbrev pub moved_up : ℕ → List Gate → List Gate
moved_up k xs = take (length xs) (zeros k ++ xs)

-- moved k places down, zeros moved in, and what is moved past bit 0 lost
abbrev pub moved_down : ℕ → List Gate → List Gate
moved_down k xs = take (length xs) (drop k xs ++ zeros k)

-- x above y
abbrev pub joined_bits : List Gate → List Gate → List Gate
joined_bits xs ys = ys ++ xs

-- bits k to h
abbrev pub cut_bits : List Gate → ℕ → ℕ → List Gate
cut_bits xs h k = take (h - k + 1) (drop k xs)

-- zeros above, up to a width
abbrev pub widened : List Gate → ℕ → List Gate
widened xs to = xs ++ zeros (to - length xs)

-- the last bit
abbrev pub top_of : List Gate → Gate
top_of xs = slice_index_or xs (length xs - 1) (constant_gate false)

-- copies of the top bit above, up to a width
abbrev pub sign_widened : List Gate → ℕ → List Gate
sign_widened xs to = xs ++ replicate (to - length xs) (top_of xs)

-- ---- what needs no node, as it is made

abbrev pub bits_not_made : List Node → List Gate → List Gate × List Node
bits_not_made nodes xs = (flipped xs, nodes)

abbrev pub cat_made : List Node → List Gate → List Gate → List Gate × List Node
cat_made nodes xs ys = (joined_bits xs ys, nodes)

abbrev pub cut_made : List Node → List Gate → ℕ → ℕ → List Gate × List Node
cut_made nodes xs h k = (cut_bits xs h k, nodes)

abbrev pub ext_made : List Node → List Gate → ℕ → List Gate × List Node
ext_made nodes xs to = (widened xs to, nodes)

abbrev pub sext_made : List Node → List Gate → ℕ → List Gate × List Node
sext_made nodes xs to = (sign_widened xs to, nodes)

-- ---- bit by bit

-- a gate for each two bits
unfoldable pub each_made : (List Node → Gate → Gate → Gate × List Node) → List Node → List Gate → List Gate → List Gate × List Node
each_made make nodes [] ys = ([], nodes)
each_made make nodes (x ∷ xs) [] = ([], nodes)
each_made make nodes (x ∷ xs) (y ∷ ys) =
    then_made (make nodes x y) (λ bit after_bit.
    then_made (each_made make after_bit xs ys) (λ bits after. (bit ∷ bits, after)))

unfoldable pub bits_and_made : List Node → List Gate → List Gate → List Gate × List Node
bits_and_made = each_made and_made

unfoldable pub bits_or_made : List Node → List Gate → List Gate → List Gate × List Node
bits_or_made = each_made or_made

unfoldable pub bits_xor_made : List Node → List Gate → List Gate → List Gate × List Node
bits_xor_made = each_made xor_made

-- x where the choice is true, else y
unfoldable pub mux_made : List Node → Gate → List Gate → List Gate → List Gate × List Node
mux_made nodes choice xs ys = each_made (choice_made choice) nodes xs ys

-- ---- sums, by ripple carry

-- the carry into the bits that are left; where none is left it is not built
unfoldable pub carry_into_made : List Gate → List Node → Gate → Gate → Gate → Gate → Gate × List Node
carry_into_made [] nodes x y half carry = (carry, nodes)
carry_into_made (_ ∷ _) nodes x y half carry = carry_made nodes x y half carry

-- the sum of two strings and a carry into bit 0: bit by bit (x xor y) xor carry, and the carry into the next
unfoldable pub sum_made : List Node → Gate → List Gate → List Gate → List Gate × List Node
sum_made nodes carry [] ys = ([], nodes)
sum_made nodes carry (x ∷ xs) [] = ([], nodes)
sum_made nodes carry (x ∷ xs) (y ∷ ys) =
    then_made (xor_made nodes x y) (λ half after_half.
    then_made (xor_made after_half half carry) (λ bit after_bit.
    then_made (carry_into_made xs after_bit x y half carry) (λ next after_next.
    then_made (sum_made after_next next xs ys) (λ bits after. (bit ∷ bits, after)))))

unfoldable pub add_made : List Node → List Gate → List Gate → List Gate × List Node
add_made nodes xs ys = sum_made nodes (constant_gate false) xs ys

-- x + not y + 1
unfoldable pub sub_made : List Node → List Gate → List Gate → List Gate × List Node
sub_made nodes xs ys = sum_made nodes (constant_gate true) xs (flipped ys)

-- ---- comparisons, of one bit

-- the carry out of the sum of two strings and a carry
unfoldable pub carry_out_made : List Node → Gate → List Gate → List Gate → Gate × List Node
carry_out_made nodes carry [] ys = (carry, nodes)
carry_out_made nodes carry (x ∷ xs) [] = (carry, nodes)
carry_out_made nodes carry (x ∷ xs) (y ∷ ys) =
    then_made (xor_made nodes x y) (λ half after_half.
    then_made (carry_made after_half x y half carry) (λ next after_next.
    carry_out_made after_next next xs ys))

-- x is below y where x + not y + 1 has no carry out
unfoldable pub lt_made : List Node → List Gate → List Gate → List Gate × List Node
lt_made nodes xs ys =
    then_made (carry_out_made nodes (constant_gate true) xs (flipped ys)) (λ carry after. (not_gate carry ∷ [], after))

-- a gate, and that the bits are the same
unfoldable pub same_made : List Node → Gate → List Gate → List Gate → Gate × List Node
same_made nodes so_far [] ys = (so_far, nodes)
same_made nodes so_far (x ∷ xs) [] = (so_far, nodes)
same_made nodes so_far (x ∷ xs) (y ∷ ys) =
    then_made (xor_made nodes x y) (λ apart after_apart.
    then_made (and_made after_apart so_far (not_gate apart)) (λ same after_same.
    same_made after_same same xs ys))

unfoldable pub eq_made : List Node → List Gate → List Gate → List Gate × List Node
eq_made nodes xs ys =
    then_made (same_made nodes (constant_gate true) xs ys) (λ same after. (same ∷ [], after))

-- ---- shifts

-- a gate, or any of the bits
unfoldable pub any_made : List Node → Gate → List Gate → Gate × List Node
any_made nodes so_far [] = (so_far, nodes)
any_made nodes so_far (y ∷ ys) =
    then_made (or_made nodes so_far y) (λ any after_any.
    any_made after_any any ys)

-- moved, by each bit of ys that is true: by `step` for its bit 0, and twice as far for each bit after it
unfoldable pub stages_made : (ℕ → List Gate → List Gate) → List Node → ℕ → List Gate → List Gate → List Gate × List Node
stages_made move nodes step xs [] = (xs, nodes)
stages_made move nodes step xs (y ∷ ys) =
    then_made (mux_made nodes y (move step xs) xs) (λ moved after_moved.
    stages_made move after_moved (step * 2) moved ys)

-- moved by the number ys: in stages by bits 0 to 5, and zeros where a higher bit is true
unfoldable pub shift_made : (ℕ → List Gate → List Gate) → List Node → List Gate → List Gate → List Gate × List Node
shift_made move nodes xs ys =
    then_made (stages_made move nodes 1 xs (take 6 ys)) (λ moved after_moved.
    then_made (any_made after_moved (constant_gate false) (drop 6 ys)) (λ far after_far.
    mux_made after_far far (zeros (length xs)) moved))

unfoldable pub shl_made : List Node → List Gate → List Gate → List Gate × List Node
shl_made = shift_made moved_up

unfoldable pub shr_made : List Node → List Gate → List Gate → List Gate × List Node
shr_made = shift_made moved_down

-- ---- products

-- a gate and each bit
unfoldable pub row_made : List Node → Gate → List Gate → List Gate × List Node
row_made nodes y [] = ([], nodes)
row_made nodes y (x ∷ xs) =
    then_made (and_made nodes y x) (λ bit after_bit.
    then_made (row_made after_bit y xs) (λ bits after. (bit ∷ bits, after)))

-- a sum, and to it the row of each bit of ys: that bit and xs, which move up one place from row to row
unfoldable pub rows_made : List Node → List Gate → List Gate → List Gate → List Gate × List Node
rows_made nodes sum xs [] = (sum, nodes)
rows_made nodes sum xs (y ∷ ys) =
    then_made (row_made nodes y xs) (λ row after_row.
    then_made (add_made after_row sum row) (λ total after_total.
    rows_made after_total total (moved_up 1 xs) ys))

unfoldable pub mul_made : List Node → List Gate → List Gate → List Gate × List Node
mul_made nodes xs ys = rows_made nodes (zeros (length xs)) xs ys
