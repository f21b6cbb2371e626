-- What must hold of the registers and sizes of a pair, and of the word at P, as a gate.
use Rattle.std.specs.Prelude.{ℕ, ◌==◌, if◌then◌else◌, List, [], ◌∷◌, length, slice_index_or, true, false}
use Rattle.pg_circuit.specs.declared.node.Gate.{Gate}
use Rattle.pg_circuit.specs.declared.node.Node.{Node}
use Rattle.pg_circuit.specs.Made.{constant_gate, not_gate, and_made}
use Rattle.pg_vec.specs.Gates.{then_made}
use Rattle.pg_vec.specs.Strings.{sub_made, lt_made, mux_made, same_made}
use Rattle.pg_lang_meaning.specs.Patterns.{byte_0, byte_1}
use Rattle.pg_ast.specs.declared.tree.Instr.{Instr}
use Rattle.pg_ast.specs.declared.tree.Desc.{Desc}
use Rattle.pg_type.specs.declared.kind.Kind.{Kind}
use Rattle.pg_type.specs.declared.kind.Kind.TheVariants.{Privileged, Control, ModeDep, Location, Bound, UControl, ULocation, UBound}
use Rattle.pg_symex.specs.Exprs.{literal_bits, bit_0}
use Rattle.pg_ask.specs.declared.unknowns.Unknowns.{Unknowns}

-- how many cells are usable: min(b, max(0, n - l))
unfoldable pub usable_made : List Node → List Gate → List Gate → List Gate → List Gate × List Node
usable_made nodes l b n =
    then_made (sub_made nodes n l) (λ room after_room.
    then_made (lt_made after_room n l) (λ past after_past.
    then_made (mux_made after_past (bit_0 past) (literal_bits 0 (length n)) room) (λ cells after_cells.
    then_made (lt_made after_cells b cells) (λ less after_less.
    mux_made after_less (bit_0 less) b cells))))

-- a gate, and that a size is 2 to q
unfoldable pub size_made : ℕ → ℕ → List Node → Gate → List Gate → Gate × List Node
size_made q a nodes so_far n =
    then_made (lt_made nodes n (literal_bits 2 a)) (λ few after_few.
    then_made (and_made after_few so_far (not_gate (bit_0 few))) (λ enough after_enough.
    then_made (lt_made after_enough (literal_bits q a) n) (λ many after_many.
    and_made after_many enough (not_gate (bit_0 many)))))

-- a gate, and that two strings are the same
unfoldable pub alike_made : List Node → Gate → List Gate → List Gate → Gate × List Node
alike_made nodes so_far xs ys =
    then_made (same_made nodes (constant_gate true) xs ys) (λ same after_same. and_made after_same so_far same)

-- a gate, and that two strings differ
unfoldable pub differ_made : List Node → Gate → List Gate → List Gate → Gate × List Node
differ_made nodes so_far xs ys =
    then_made (same_made nodes (constant_gate true) xs ys) (λ same after_same. and_made after_same so_far (not_gate same))

-- a gate, and that what the kind makes differ does
abbrev pub apart_made : Kind → List Node → Gate → Unknowns → Gate × List Node
apart_made Privileged nodes so_far u = (so_far, nodes)
apart_made Control nodes so_far u = (so_far, nodes)
apart_made ModeDep nodes so_far u = (so_far, nodes)
apart_made Location nodes so_far u = differ_made nodes so_far u.first_l u.second_l
apart_made Bound nodes so_far u = differ_made nodes so_far u.first_b u.second_b
apart_made UControl nodes so_far u = (so_far, nodes)
apart_made ULocation nodes so_far u = differ_made nodes so_far u.first_l u.second_l
apart_made UBound nodes so_far u = differ_made nodes so_far u.first_b u.second_b

-- a gate, and that a bit of the word is as its place in the pattern wants it
abbrev pub place_made : List Node → Gate → ℕ → Gate → Gate × List Node
place_made nodes so_far c bit =
    (if c == byte_0 then and_made nodes so_far (not_gate bit) else (if c == byte_1 then and_made nodes so_far bit else (so_far, nodes)))

-- a gate, and that the pattern, which lists a word from its highest bit, matches the word
unfoldable pub matches_made : List Node → Gate → List ℕ → List Gate → Gate × List Node
matches_made nodes so_far [] word = (so_far, nodes)
matches_made nodes so_far (c ∷ cs) word =
    then_made (place_made nodes so_far c (slice_index_or word (length cs) (constant_gate false))) (λ next after_next.
    matches_made after_next next cs word)

-- the number of usable cells, and that all of it fits: both sizes are sizes of the machine, both states have as many usable
-- cells, P is usable, the registers differ as the kind asks, and the word at P matches the instruction's pattern
unfoldable pub fits_made : Desc → Instr → Kind → Unknowns → List Gate → List Node → (List Gate × Gate) × List Node
fits_made d i kind u word nodes =
    then_made (usable_made nodes u.first_l u.first_b u.first_size) (λ v after_v.
    then_made (usable_made after_v u.second_l u.second_b u.second_size) (λ second_v after_second_v.
    then_made (size_made d.size d.address after_second_v (constant_gate true) u.first_size) (λ one after_one.
    then_made (size_made d.size d.address after_one one u.second_size) (λ two after_two.
    then_made (alike_made after_two two v second_v) (λ alike after_alike.
    then_made (lt_made after_alike u.p v) (λ inside after_inside.
    then_made (and_made after_inside alike (bit_0 inside)) (λ placed after_placed.
    then_made (apart_made kind after_placed placed u) (λ related after_related.
    then_made (matches_made after_related related i.pattern.bytes word) (λ fits after_fits.
    ((v, fits), after_fits))))))))))
