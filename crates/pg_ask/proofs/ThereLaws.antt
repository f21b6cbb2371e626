-- What is there stays there in later circuits.
use Rattle.std.proofs.Common.{◌≡◌, ℕ, arith, false, List, length}
use Rattle.std.proofs.lemmas.List.Elements.{All-get_or}
use Rattle.pg_circuit.specs.declared.node.Gate.{Gate}
use Rattle.pg_circuit.specs.declared.node.Node.{Node}
use Rattle.pg_circuit.specs.Grown.{GrowsTo}
use Rattle.pg_vec.proofs.Kept.{there_later, all_there_later}
use Rattle.pg_circuit.specs.Made.{constant_gate}
use Rattle.pg_circuit.specs.Values.{IsThere}
use Rattle.pg_vec.specs.There.{AreThere}
use Rattle.pg_symex.specs.There.{AreBits}
use Rattle.pg_symex.specs.Exprs.{bit_0}
use Rattle.pg_ask.specs.declared.unknowns.Unknowns.{Unknowns}
use Rattle.pg_ask.specs.declared.ends.End.{End}
use Rattle.pg_ask.specs.There.{AreUnknowns, AreEnd}

pub bits_on : (nodes later : List Node) (n : ℕ) (xs : List Gate) → GrowsTo nodes later → AreBits (length nodes) n xs → AreBits (length later) n xs
bits_on nodes later n xs g h = record { there = all_there_later nodes later xs g h.there; wide = h.wide; is_width = h.is_width }

pub unknowns_on : (nodes later : List Node) (a : ℕ) (u : Unknowns) → GrowsTo nodes later → AreUnknowns (length nodes) a u → AreUnknowns (length later) a u
unknowns_on nodes later a u g h = record {
  first_mode = bits_on nodes later 1 u.first_mode g h.first_mode;
  second_mode = bits_on nodes later 1 u.second_mode g h.second_mode;
  p = bits_on nodes later a u.p g h.p;
  first_l = bits_on nodes later a u.first_l g h.first_l;
  second_l = bits_on nodes later a u.second_l g h.second_l;
  first_b = bits_on nodes later a u.first_b g h.first_b;
  second_b = bits_on nodes later a u.second_b g h.second_b;
  first_size = bits_on nodes later a u.first_size g h.first_size;
  second_size = bits_on nodes later a u.second_size g h.second_size;
  compared = bits_on nodes later a u.compared g h.compared;
}

pub end_on : (nodes later : List Node) (w a : ℕ) (e : End) → GrowsTo nodes later → AreEnd (length nodes) w a e → AreEnd (length later) w a e
end_on nodes later w a e g h = record {
  mem_trap = there_later nodes later e.mem_trap g h.mem_trap;
  trap = there_later nodes later e.trap g h.trap;
  mode = bits_on nodes later 1 e.mode g h.mode;
  p = bits_on nodes later a e.p g h.p;
  l = bits_on nodes later a e.l g h.l;
  b = bits_on nodes later a e.b g h.b;
  word = bits_on nodes later w e.word g h.word;
}

-- the bit of a string of one
pub bit_there : (places : ℕ) (xs : List Gate) → AreThere places xs → length xs ≡ 1 → IsThere places (bit_0 xs)
bit_there places xs h e = All-get_or (IsThere places) xs 0 (constant_gate false) (omega (arith, e)) h
