-- Gates that are there, of the widths that a body wants.
use Rattle.std.specs.Prelude.{◌≡◌, ℕ, List, [], ◌∷◌, length}
use Rattle.pg_circuit.specs.declared.node.Gate.{Gate}
use Rattle.pg_circuit.specs.Nodes.{IsCircuit}
use Rattle.pg_circuit.specs.Values.{IsThere}
use Rattle.pg_word.specs.Bits.{IsWidth}
use Rattle.pg_vec.specs.There.{AreThere}
use Rattle.pg_cells.specs.declared.cell.Write.{Write}
use Rattle.pg_cells.specs.Over.{IsOver}
use Rattle.pg_lang_valid.specs.Widths.{Setting, LetWidths}
use Rattle.pg_symex.specs.declared.regs.Regs.{Regs}
use Rattle.pg_symex.specs.declared.regs.Next.{Next}
use Rattle.pg_symex.specs.Flow.{SymEntry, SymLets, Flow, view_of}

-- so many gates that are there, a width that a value can have
pub record AreBits (places width : ℕ) (xs : List Gate) : Type 0 where
  pub there : AreThere places xs
  pub wide : length xs ≡ width
  pub is_width : IsWidth width

-- registers of a machine whose addresses have a bits
pub record AreRegs (places a : ℕ) (r : Regs) : Type 0 where
  pub mode : AreBits places 1 r.mode
  pub p : AreBits places a r.p
  pub l : AreBits places a r.l
  pub b : AreBits places a r.b
  pub v : AreBits places a r.v

pub record AreNext (places a : ℕ) (r : Next) : Type 0 where
  pub mode : AreBits places 1 r.mode
  pub p : AreBits places a r.p
  pub l : AreBits places a r.l
  pub b : AreBits places a r.b

-- what a body reads is there, and the pattern has a place for each bit of a word
pub record IsSymEntry (places : ℕ) (at : SymEntry) : Type 0 where
  pub regs : AreRegs places at.a at.regs
  pub word : AreBits places at.w at.word
  pub pattern : length at.pattern ≡ at.w

-- what widths depend on
abbrev pub sym_setting : SymEntry → Setting
sym_setting at = record { w = at.w; a = at.a; pattern = at.pattern }

-- lets with the names and widths that they were given
abbrev pub LetsAre : ℕ → SymLets → LetWidths → Type 0
LetsAre places [] [] = Unit {0}
LetsAre places [] (w ∷ ws) = ⊥
LetsAre places (l ∷ ls) [] = ⊥
LetsAre places (l ∷ ls) (w ∷ ws) = (l.0 ≡ w.0) × AreBits places w.1 l.1 × LetsAre places ls ws

-- what is kept is of one circuit, over which the cells were touched
pub record IsFlow (at : SymEntry) (writes : List Write) (f : Flow) : Type 0 where
  pub circuit : IsCircuit f.nodes
  pub over : IsOver f.nodes (view_of at writes f.cells)
  pub live : IsThere (length f.nodes) f.live
  pub mem_trap : IsThere (length f.nodes) f.mem_trap
