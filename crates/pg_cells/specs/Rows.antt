-- Touches of words of one bit at addresses of one bit, worked out by hand: each is a law of the crate.
use Rattle.std.specs.Prelude.{◌≡◌, true, false, List, [], ◌∷◌, ◌++◌}
use Rattle.pg_circuit.specs.declared.node.Gate.{Gate}
use Rattle.pg_circuit.specs.declared.node.Node.{Node}
use Rattle.pg_circuit.specs.declared.node.Node.TheVariants.{Constant, Input, And, Xor}
use Rattle.pg_circuit.specs.Made.{gate_at, not_gate, constant_gate}
use Rattle.pg_cells.specs.declared.cell.Cell.{Cell}
use Rattle.pg_cells.specs.declared.cell.Write.{Write}
use Rattle.pg_cells.specs.View.{View}
use Rattle.pg_cells.specs.Storage.{written}
use Rattle.pg_cells.specs.Made.{touch_made, cells_after, consistent_made}

-- an address that is an input, and one that is the constant 1
abbrev pub free : List Gate
free = gate_at 1 ∷ []

abbrev pub one : List Gate
one = constant_gate true ∷ []

-- a circuit with that input, and with an input for the word of a cell, and for that of another
abbrev pub begun : List Node
begun = Constant ∷ Input 0 ∷ []

abbrev pub with_word : List Node
with_word = Constant ∷ Input 0 ∷ Input 1 ∷ []

abbrev pub with_words : List Node
with_words = Constant ∷ Input 0 ∷ Input 1 ∷ Input 2 ∷ []

abbrev pub free_cell : Cell
free_cell = record { address = free; word = gate_at 2 ∷ [] }

abbrev pub one_cell : Cell
one_cell = record { address = one; word = gate_at 3 ∷ [] }

abbrev pub zero_cell : Cell
zero_cell = record { address = constant_gate false ∷ []; word = gate_at 2 ∷ [] }

-- the free cell was touched, and these writes stand
abbrev pub state : List Write → View
state writes = record { w = 1; a = 1; cells = free_cell ∷ []; writes = writes }

abbrev pub puts : Gate → List Gate → Gate → Write
puts guard address bit = record { guard = guard; address = address; value = bit ∷ [] }

-- the first touch makes an input, and a cell of it
abbrev pub FirstTouch : Type 0
FirstTouch = touch_made begun (record { w = 1; a = 1; cells = []; writes = [] }) free ≡ (gate_at 2 ∷ [], with_word)

abbrev pub FirstCell : Type 0
FirstCell = cells_after begun 1 [] free ≡ free_cell ∷ []

-- the same gates again are the same cell
abbrev pub TouchedAgain : Type 0
TouchedAgain = touch_made with_word (state []) free ≡ (gate_at 2 ∷ [], with_word)

-- an address that can be equal, of other gates, is another cell
abbrev pub OtherGates : Type 0
OtherGates = touch_made with_word (state []) one ≡ (gate_at 3 ∷ [], with_words)

abbrev pub OtherCell : Type 0
OtherCell = cells_after with_word 1 (free_cell ∷ []) one ≡ free_cell ∷ one_cell ∷ []

-- a write at the address is what is there, if it is done
abbrev pub AfterWrite : Type 0
AfterWrite = touch_made with_word (state (puts (constant_gate true) free (constant_gate true) ∷ [])) free ≡ (one, with_word)

abbrev pub NotDone : Type 0
NotDone = touch_made with_word (state (puts (constant_gate false) free (constant_gate true) ∷ [])) free ≡ (gate_at 2 ∷ [], with_word)

-- of two the newer
abbrev pub WriteOverWrite : Type 0
WriteOverWrite =
    touch_made with_word (state (puts (constant_gate true) free (constant_gate true) ∷ puts (constant_gate true) free (constant_gate false) ∷ [])) free
    ≡ (constant_gate false ∷ [], with_word)

-- a write at an address that can be equal is there where it is equal: 1 where the address is, else the cell's word
abbrev pub WriteElsewhere : Type 0
WriteElsewhere =
    touch_made with_word (state (puts (constant_gate true) one (constant_gate true) ∷ [])) free
    ≡ (not_gate (gate_at 4) ∷ [], with_word ++ And (not_gate (gate_at 1)) (gate_at 2) ∷ And (not_gate (gate_at 1)) (not_gate (gate_at 3)) ∷ [])

-- two cells agree unless the addresses are equal and the words are not
abbrev pub TwoAgree : Type 0
TwoAgree = consistent_made with_words (free_cell ∷ one_cell ∷ []) ≡ (not_gate (gate_at 5), with_words ++ Xor (gate_at 2) (gate_at 3) ∷ And (gate_at 1) (gate_at 4) ∷ [])

-- constants that differ need no gate
abbrev pub ApartByConstants : Type 0
ApartByConstants = consistent_made with_words (zero_cell ∷ one_cell ∷ []) ≡ (constant_gate true, with_words)

-- a storage after a write that is not done, one that is, and one over it
abbrev pub WrittenInOrder : Type 0
WrittenInOrder =
    written (9 ∷ 8 ∷ 7 ∷ 6 ∷ [])
    (record { guard = false; address = 0; word = 1 } ∷ record { guard = true; address = 2; word = 3 } ∷ record { guard = true; address = 2; word = 4 } ∷ [])
    ≡ 9 ∷ 8 ∷ 4 ∷ 6 ∷ []
