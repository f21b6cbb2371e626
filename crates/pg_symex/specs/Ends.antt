-- What gates mean that are made of statements.
use Rattle.std.specs.Prelude.{◌≡◌, ℕ, Bool, true, false, List, length}
use Rattle.pg_circuit.specs.Grown.{GrowsTo}
use Rattle.pg_circuit.specs.Values.{gate_value, IsThere}
use Rattle.pg_vec.specs.There.{AreValues}
use Rattle.pg_cells.specs.Storage.{IsStorage, Agrees}
use Rattle.pg_cells.specs.Cells.{known_cells}
use Rattle.pg_ast.specs.declared.tree.Stmt.{Stmt}
use Rattle.pg_lang_meaning.specs.Bodies.{Course, MemTrapped, Trapped, Going, Run, deed_of}
use Rattle.pg_lang_valid.specs.Widths.{LetWidths, Keeps, fare_of}
use Rattle.pg_symex.specs.Flow.{SymEntry, SymRun}
use Rattle.pg_symex.specs.Numbers.{next_psw, entry_value, lets_value, window_value}
use Rattle.pg_symex.specs.There.{AreNext, IsSymEntry, sym_setting, LetsAre, IsFlow}
use Rattle.pg_symex.specs.Follows.{CellsStay}
use Rattle.pg_symex.specs.Stmts.{stmt_made}

-- a body under way as the definitions of bodies have it
abbrev pub run_value : List Bool → List ℕ → SymEntry → SymRun → Run
run_value values storage at r = record { window = window_value values storage at r.writes; next = next_psw values r.next; lets = lets_value values r.lets }

-- a body under way of one circuit, with lets of these widths
pub record IsSymRun (at : SymEntry) (r : SymRun) (ws : LetWidths) : Type 0 where
  pub flow : IsFlow at r.writes r.flow
  pub trap : IsThere (length r.flow.nodes) r.trap
  pub next : AreNext (length r.flow.nodes) at.a r.next
  pub lets : LetsAre (length r.flow.nodes) r.lets ws

-- what a place that is not reached leaves: none of what counts is changed
pub record Skips (values : List Bool) (storage : List ℕ) (at : SymEntry) (old new : SymRun) : Type 0 where
  pub live : gate_value values new.flow.live ≡ false
  pub mem_trap : gate_value values new.flow.mem_trap ≡ gate_value values old.flow.mem_trap
  pub trap : gate_value values new.trap ≡ gate_value values old.trap
  pub window : window_value values storage at new.writes ≡ window_value values storage at old.writes
  pub next : next_psw values new.next ≡ next_psw values old.next

-- what a place that is reached leaves, from the course that is meant: a trap of either kind, which its own guard tells, and no
-- place is reached after it; or a body under way, as the definitions have it
abbrev pub Ends : List Bool → List ℕ → SymEntry → SymRun → SymRun → Course Run → Type 0
Ends values storage at old new MemTrapped =
    (gate_value values new.flow.live ≡ false) × (gate_value values new.flow.mem_trap ≡ true) × (gate_value values new.trap ≡ gate_value values old.trap)
Ends values storage at old new Trapped =
    (gate_value values new.flow.live ≡ false) × (gate_value values new.flow.mem_trap ≡ gate_value values old.flow.mem_trap) × (gate_value values new.trap ≡ true)
Ends values storage at old new (Going s) =
    (gate_value values new.flow.live ≡ true) × (gate_value values new.flow.mem_trap ≡ gate_value values old.flow.mem_trap) × (gate_value values new.trap ≡ gate_value values old.trap)
    × (run_value values storage at new ≡ s)

-- A body under way was made from another; the circuit has grown, and in every circuit that begins with its nodes, whatever the
-- inputs are, and for every storage that agrees with the cells: where the place was not reached nothing that counts is changed,
-- and where it was, all ends as is meant of these values.
pub record Does (at : SymEntry) (old new : SymRun) (after : LetWidths) (meant : List Bool → Run → Course Run) : Type 0 where
  pub run : IsSymRun at new after
  pub front : GrowsTo old.flow.nodes new.flow.nodes
  pub cells : CellsStay old.flow.cells new.flow.cells
  pub skips : (inputs values : List Bool) (storage : List ℕ) → AreValues inputs new.flow.nodes values → IsStorage at.w at.a storage → Agrees storage (known_cells values new.flow.cells) →
      gate_value values old.flow.live ≡ false → Skips values storage at old new
  pub ends : (inputs values : List Bool) (storage : List ℕ) → AreValues inputs new.flow.nodes values → IsStorage at.w at.a storage → Agrees storage (known_cells values new.flow.cells) →
      gate_value values old.flow.live ≡ true → Ends values storage at old new (meant values (run_value values storage at old))

-- a statement that keeps to the table of widths is made right
abbrev pub IsRightStmt : Stmt → Type 0
IsRightStmt s = (at : SymEntry) (r : SymRun) (place : ℕ) (ws : LetWidths) (next : ℕ) (after : LetWidths) →
    IsSymEntry (length r.flow.nodes) at → IsSymRun at r ws → fare_of (sym_setting at) s place ws ≡ Keeps next after →
    Does at r (stmt_made s at r) after (λ values q. deed_of s (entry_value values at) q)
