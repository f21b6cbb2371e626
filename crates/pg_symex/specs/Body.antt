-- What a whole run is made of: the fetch, and the body.
use Rattle.std.specs.Prelude.{true, false, List, [], map}
use Rattle.pg_circuit.specs.declared.node.Gate.{Gate}
use Rattle.pg_circuit.specs.declared.node.Node.{Node}
use Rattle.pg_circuit.specs.Made.{constant_gate}
use Rattle.pg_vec.specs.Strings.{add_made}
use Rattle.pg_cells.specs.declared.cell.Cell.{Cell}
use Rattle.pg_cells.specs.declared.cell.Write.{Write}
use Rattle.pg_cells.specs.Made.{touch_made, cells_after}
use Rattle.pg_ast.specs.declared.tree.Instr.{Instr}
use Rattle.pg_ast.specs.declared.tree.Desc.{Desc}
use Rattle.pg_symex.specs.declared.regs.Regs.{Regs}
use Rattle.pg_symex.specs.Flow.{SymEntry, Flow, SymRun}
use Rattle.pg_symex.specs.Exprs.{literal_bits, with_made}
use Rattle.pg_symex.specs.Stmts.{in_order_made, stmt_made}

-- what a body reads, of a description, an instruction and the word that was fetched
abbrev pub sym_entry : Desc → Instr → Regs → List Gate → SymEntry
sym_entry d i regs word = record { w = d.word; a = d.address; regs = regs; pattern = i.pattern.bytes; word = word }

-- what is kept as a run begins: its place is reached, and no trap has ended it
abbrev pub flow_begun : List Node → List Cell → Flow
flow_begun nodes cells = record { nodes = nodes; cells = cells; live = constant_gate true; mem_trap = constant_gate false }

-- a body begins with the next P, and with no let
abbrev pub run_begun : Regs → List Gate → List Node → List Cell → List Write → SymRun
run_begun regs p nodes cells writes = record {
  flow = flow_begun nodes cells;
  writes = writes;
  trap = constant_gate false;
  next = record { mode = regs.mode; p = p; l = regs.l; b = regs.b };
  lets = [];
}

-- the body of an instruction, of the word that was fetched
unfoldable pub body_made : Desc → Instr → Regs → List Gate → SymRun → SymRun
body_made d i regs word r = in_order_made (map stmt_made i.body) (sym_entry d i regs word) r

-- first the word at P is touched, then P + 1 is made, and then the body
unfoldable pub run_made : Desc → Instr → Regs → List Node → List Cell → List Write → SymRun
run_made d i regs nodes cells writes =
    with_made (touch_made nodes (record { w = d.word; a = d.address; cells = cells; writes = writes }) regs.p) (λ word after_word.
    with_made (add_made after_word regs.p (literal_bits 1 d.address)) (λ p after_p.
    body_made d i regs word (run_begun regs p after_p (cells_after nodes d.word cells regs.p) writes)))
