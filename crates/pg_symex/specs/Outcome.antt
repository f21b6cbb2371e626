-- What a call for a whole run leaves, and what it asks.
use Rattle.std.specs.Prelude.{◌≡◌, ℕ, List, length, slice_get, Some}
use Rattle.pg_circuit.specs.declared.node.Node.{Node}
use Rattle.pg_cells.specs.View.{View}
use Rattle.pg_cells.specs.Over.{IsOver}
use Rattle.pg_ast.specs.declared.tree.Instr.{Instr}
use Rattle.pg_ast.specs.declared.tree.Desc.{Desc}
use Rattle.pg_lang_meaning.specs.declared.decoder.Decoder.{Decoder}
use Rattle.pg_lang_meaning.specs.Decoders.{decoder_of}
use Rattle.pg_symex.specs.declared.regs.Regs.{Regs}
use Rattle.pg_symex.specs.declared.symbolic.SymOutcome.{SymOutcome}
use Rattle.pg_symex.specs.Flow.{SymRun}
use Rattle.pg_symex.specs.There.{AreRegs}

-- an outcome that is all of a run but the gate that its end is reached, over the nodes and cells that there are then
pub record IsOutcome (r : SymRun) (nodes : List Node) (t : View) (o : SymOutcome) : Type 0 where
  pub nodes_are : nodes ≡ r.flow.nodes
  pub cells : t.cells ≡ r.flow.cells
  pub stand : t.writes ≡ r.writes
  pub writes : o.writes.items ≡ r.writes
  pub mem_trap : o.mem_trap ≡ r.flow.mem_trap
  pub trap : o.trap ≡ r.trap
  pub mode : o.mode ≡ r.next.mode
  pub p : o.p ≡ r.next.p
  pub l : o.l ≡ r.next.l
  pub b : o.b ≡ r.next.b

-- an instruction of a description, with its decoder, over cells of its machine
pub record MayRun (d : Desc) (i : Instr) (decoder : Decoder) (nodes : List Node) (t : View) (regs : Regs) : Type 0 where
  pub number : ℕ
  pub found : slice_get d.instrs number ≡ Some i
  pub decoder_is : decoder ≡ decoder_of i.pattern.bytes
  pub word_width : t.w ≡ d.word
  pub address_width : t.a ≡ d.address
  pub over : IsOver nodes t
  pub are_regs : AreRegs (length nodes) d.address regs
