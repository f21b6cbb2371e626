-- Gates of a question that are there, of the widths that are wanted.
use Rattle.std.specs.Prelude.{ℕ, List, length}
use Rattle.pg_circuit.specs.declared.node.Gate.{Gate}
use Rattle.pg_circuit.specs.declared.node.Node.{Node}
use Rattle.pg_circuit.specs.Values.{IsThere}
use Rattle.pg_circuit.specs.Grown.{GrowsTo}
use Rattle.pg_symex.specs.There.{AreBits}
use Rattle.pg_ask.specs.declared.unknowns.Unknowns.{Unknowns}
use Rattle.pg_ask.specs.declared.ends.End.{End}

-- registers and sizes of a machine whose addresses have a bits
pub record AreUnknowns (places a : ℕ) (u : Unknowns) : Type 0 where
  pub first_mode : AreBits places 1 u.first_mode
  pub second_mode : AreBits places 1 u.second_mode
  pub p : AreBits places a u.p
  pub first_l : AreBits places a u.first_l
  pub second_l : AreBits places a u.second_l
  pub first_b : AreBits places a u.first_b
  pub second_b : AreBits places a u.second_b
  pub first_size : AreBits places a u.first_size
  pub second_size : AreBits places a u.second_size
  pub compared : AreBits places a u.compared

-- what a call leaves of a circuit: the nodes that were there, and a string of a width
pub record LeavesBits (old new : List Node) (width : ℕ) (bits : List Gate) : Type 0 where
  pub front : GrowsTo old new
  pub are_bits : AreBits (length new) width bits

-- the nodes that were there, and a gate
pub record LeavesGate (old new : List Node) (gate : Gate) : Type 0 where
  pub front : GrowsTo old new
  pub there : IsThere (length new) gate

-- an end of a run of a machine with words of w bits and addresses of a
pub record AreEnd (places w a : ℕ) (e : End) : Type 0 where
  pub mem_trap : IsThere places e.mem_trap
  pub trap : IsThere places e.trap
  pub mode : AreBits places 1 e.mode
  pub p : AreBits places a e.p
  pub l : AreBits places a e.l
  pub b : AreBits places a e.b
  pub word : AreBits places w e.word
