-- What the gates of a whole run mean.
use Rattle.std.specs.Prelude.{◌≡◌, ℕ, Bool, true, false, List, [], length, slice_get, slice_index, take, Some}
use Rattle.pg_circuit.specs.declared.node.Node.{Node}
use Rattle.pg_circuit.specs.Nodes.{IsCircuit}
use Rattle.pg_circuit.specs.Grown.{GrowsTo}
use Rattle.pg_circuit.specs.Values.{gate_value, IsThere}
use Rattle.pg_vec.specs.Number.{number}
use Rattle.pg_vec.specs.There.{AreValues}
use Rattle.pg_cells.specs.declared.cell.Cell.{Cell}
use Rattle.pg_cells.specs.Storage.{IsStorage, Agrees, written}
use Rattle.pg_cells.specs.Cells.{known_cells, puts_of}
use Rattle.pg_cells.specs.Over.{IsOver}
use Rattle.pg_ast.specs.declared.tree.Instr.{Instr}
use Rattle.pg_ast.specs.declared.tree.Desc.{Desc}
use Rattle.pg_lang_meaning.specs.Bodies.{Course, MemTrapped, Trapped, Going, After, body}
use Rattle.pg_lang_valid.specs.Valid.{IsValid}
use Rattle.pg_symex.specs.declared.regs.Regs.{Regs}
use Rattle.pg_symex.specs.Flow.{SymRun}
use Rattle.pg_symex.specs.Numbers.{entry_psw, next_psw}
use Rattle.pg_symex.specs.There.{AreRegs, AreNext}
use Rattle.pg_symex.specs.Follows.{CellsStay}
use Rattle.pg_symex.specs.Body.{run_made}

-- What a run has come to, from the course of the body: each trap is told by its own gate, and never both are; where there is
-- none, the registers that follow are those of the body, and its window is the first v cells of the storage after the writes.
abbrev pub Tells : List Bool → List ℕ → ℕ → SymRun → Course After → Type 0
Tells values storage v r MemTrapped = (gate_value values r.flow.mem_trap ≡ true) × (gate_value values r.trap ≡ false)
Tells values storage v r Trapped = (gate_value values r.flow.mem_trap ≡ false) × (gate_value values r.trap ≡ true)
Tells values storage v r (Going x) =
    (gate_value values r.flow.mem_trap ≡ false) × (gate_value values r.trap ≡ false) × (x.psw ≡ next_psw values r.next) × (x.window ≡ take v (written storage (puts_of values r.writes)))

-- A run was made from registers, over cells under no writes: all that it has is there, and the cells are over the circuit. In
-- every circuit that begins with its nodes, whatever the inputs are, and for every storage that agrees with the cells, it tells
-- what the body comes to in the window of the first v cells, with the word at P as the one that was fetched.
pub record RunsAs (d : Desc) (i : Instr) (regs : Regs) (nodes : List Node) (cells : List Cell) (r : SymRun) : Type 0 where
  pub circuit : IsCircuit r.flow.nodes
  pub front : GrowsTo nodes r.flow.nodes
  pub stay : CellsStay cells r.flow.cells
  pub over : IsOver r.flow.nodes (record { w = d.word; a = d.address; cells = r.flow.cells; writes = r.writes })
  pub mem_trap : IsThere (length r.flow.nodes) r.flow.mem_trap
  pub trap : IsThere (length r.flow.nodes) r.trap
  pub next : AreNext (length r.flow.nodes) d.address r.next
  pub tells : (inputs values : List Bool) (storage : List ℕ) → AreValues inputs r.flow.nodes values → IsStorage d.word d.address storage → Agrees storage (known_cells values r.flow.cells) →
      Tells values storage (number values regs.v) r (body d i (take (number values regs.v) storage) (entry_psw values regs) (slice_index storage (number values regs.p)))

-- of a valid description, each instruction runs so
abbrev pub AllRunRight : Desc → Type 0
AllRunRight d = (k : ℕ) (i : Instr) (regs : Regs) (nodes : List Node) (cells : List Cell) → IsValid d → slice_get d.instrs k ≡ Some i → IsCircuit nodes →
    IsOver nodes (record { w = d.word; a = d.address; cells = cells; writes = [] }) → AreRegs (length nodes) d.address regs →
    RunsAs d i regs nodes cells (run_made d i regs nodes cells [])
