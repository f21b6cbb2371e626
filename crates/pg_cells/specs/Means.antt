-- What touched cells mean.
use Rattle.std.specs.Prelude.{◌≡◌, ◌↔◌, ℕ, ◌+◌, ◌*◌, ◌≤◌, Bool, true, false, List, length, slice_index, slice_index_or}
use Rattle.pg_circuit.specs.declared.node.Gate.{Gate}
use Rattle.pg_circuit.specs.declared.node.Node.{Node}
use Rattle.pg_circuit.specs.Nodes.{input_count}
use Rattle.pg_circuit.specs.Values.{gate_value, values_of}
use Rattle.pg_circuit.specs.Grown.{GrowsTo}
use Rattle.pg_vec.specs.Number.{number}
use Rattle.pg_vec.specs.There.{AreValues}
use Rattle.pg_cells.specs.declared.cell.Cell.{Cell}
use Rattle.pg_cells.specs.declared.cell.Write.{Write}
use Rattle.pg_cells.specs.View.{View}
use Rattle.pg_cells.specs.Storage.{IsStorage, written, Agrees, AreConsistent, HasStorage}
use Rattle.pg_cells.specs.Cells.{known_cells, puts_of}
use Rattle.pg_cells.specs.Over.{IsInputOf}

-- how many nodes a write that stands costs a touch at most: the addresses compared, the guard, one of two words
abbrev pub each_write : ℕ → ℕ → ℕ
each_write w a = 2 * a + 1 + w * 3

-- how many nodes a touch adds at most
abbrev pub touch_most : View → ℕ
touch_most t = t.w + length t.writes * each_write t.w t.a

-- how many nodes two cells cost agreement at most: the addresses compared, the words, and what is said of both
abbrev pub each_pair : ℕ → ℕ → ℕ
each_pair w a = 2 * a + 2 * w + 2

-- what a call adds in any case, also where memory runs out: the nodes stay, and at most so many nodes and inputs are added
pub record GrowsBy (old new : List Node) (most inputs : ℕ) : Type 0 where
  pub front : GrowsTo old new
  pub few : length new ≤ length old + most
  pub few_inputs : input_count new ≤ input_count old + inputs

-- In every circuit that begins with these nodes, whatever the inputs are: the bits are the word that a storage which agrees
-- with the cells has at the address after the writes.
abbrev pub IsWordAt : List Node → ℕ → ℕ → List Cell → List Write → List Gate → List Gate → Type 0
IsWordAt nodes w a cells writes address bits =
    (inputs values : List Bool) (storage : List ℕ) → AreValues inputs nodes values → IsStorage w a storage → Agrees storage (known_cells values cells)
    → number values bits ≡ slice_index (written storage (puts_of values writes)) (number values address)

-- In every circuit that begins with these nodes the gate is true exactly where cells of equal addresses have equal words, and
-- then there is one storage that agrees with all of them.
pub record TellsConsistent (nodes : List Node) (w a : ℕ) (cells : List Cell) (gate : Gate) : Type 0 where
  pub exact : (inputs values : List Bool) → AreValues inputs nodes values → (gate_value values gate ≡ true) ↔ AreConsistent (known_cells values cells)
  pub storage : (inputs values : List Bool) → AreValues inputs nodes values → gate_value values gate ≡ true → HasStorage w a (known_cells values cells)

-- There are inputs under which the storage agrees with the cells, and which differ from these at most at the cells' own.
pub record HasInputs (nodes : List Node) (w : ℕ) (cells : List Cell) (storage : List ℕ) (inputs : List Bool) : Type 0 where
  pub given : List Bool
  pub as_many : length given ≡ length inputs
  pub others_stay : (m : ℕ) → ¬ (IsInputOf nodes w cells m) → slice_index_or given m false ≡ slice_index_or inputs m false
  pub agrees : Agrees storage (known_cells (values_of given nodes) cells)
