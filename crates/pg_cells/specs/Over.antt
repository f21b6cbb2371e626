-- Cells and writes whose gates are those of a circuit.
use Rattle.std.specs.Prelude.{◌≡◌, ℕ, zero, suc, ◌+◌, ◌<◌, ◌≤◌, ◌⊎◌, false, List, [], ◌∷◌, Some, length, take, slice_get, slice_index_or}
use Rattle.std.specs.List.{All}
use Rattle.pg_circuit.specs.declared.node.Gate.{Gate}
use Rattle.pg_circuit.specs.declared.node.Node.{Node}
use Rattle.pg_circuit.specs.declared.node.Node.TheVariants.{Input}
use Rattle.pg_circuit.specs.Nodes.{input_count}
use Rattle.pg_circuit.specs.Made.{gate_at, constant_gate}
use Rattle.pg_word.specs.Bits.{IsWidth}
use Rattle.pg_vec.specs.There.{AreThere}
use Rattle.pg_cells.specs.declared.cell.Cell.{Cell}
use Rattle.pg_cells.specs.declared.cell.Write.{Write}
use Rattle.pg_cells.specs.View.{View}

-- the gates of so many nodes, from a place on
abbrev pub gates_from : ℕ → ℕ → List Gate
gates_from k zero = []
gates_from k (suc n) = gate_at k ∷ gates_from (k + 1) n

-- the place of the node of bit 0 of a cell's word
abbrev pub place_of : Cell → ℕ
place_of c = let bit = slice_index_or c.word 0 (constant_gate false) in bit.number

-- the number of that node among the inputs
abbrev pub first_input : List Node → Cell → ℕ
first_input nodes c = input_count (take (place_of c) nodes)

-- the word of a cell is w inputs, one after another, which were made after the nodes of its address
pub record IsCell (nodes : List Node) (w a : ℕ) (c : Cell) : Type 0 where
  pub wide : length c.address ≡ a
  pub earlier : AreThere (place_of c) c.address
  pub word : c.word ≡ gates_from (place_of c) w
  pub inputs : (i : ℕ) → i < w → slice_get nodes (place_of c + i) ≡ Some (Input (first_input nodes c + i))

-- cells in the order in which their words were made, none before a place
abbrev pub AreCells : List Node → ℕ → ℕ → ℕ → List Cell → Type 0
AreCells nodes w a from [] = from ≤ length nodes
AreCells nodes w a from (c ∷ cells) = (from ≤ place_of c) × IsCell nodes w a c × AreCells nodes w a (place_of c + w) cells

-- a cell of gates that are there, of a machine's widths
pub record IsWhole (places w a : ℕ) (c : Cell) : Type 0 where
  pub address : AreThere places c.address
  pub address_wide : length c.address ≡ a
  pub word : AreThere places c.word
  pub word_wide : length c.word ≡ w

-- a write of gates that are there
pub record IsWrite (places w a : ℕ) (x : Write) : Type 0 where
  pub guard : x.guard.number < places
  pub address : AreThere places x.address
  pub address_wide : length x.address ≡ a
  pub value : AreThere places x.value
  pub value_wide : length x.value ≡ w

-- what a circuit must be for touched cells: the one over which they were touched, or one that it has grown to
pub record IsOver (nodes : List Node) (t : View) : Type 0 where
  pub word_width : IsWidth t.w
  pub address_least : 1 ≤ t.a
  pub address_most : t.a ≤ 32
  pub cells : AreCells nodes t.w t.a 0 t.cells
  pub writes : All (IsWrite (length nodes) t.w t.a) t.writes

-- an input that is a bit of the word of one of the cells
abbrev pub IsInputOf : List Node → ℕ → List Cell → ℕ → Type 0
IsInputOf nodes w [] m = ⊥
IsInputOf nodes w (c ∷ cells) m = ((first_input nodes c ≤ m) × (m < first_input nodes c + w)) ⊎ IsInputOf nodes w cells m
