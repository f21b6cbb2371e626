-- What is made of two bits.
use Rattle.std.specs.Prelude.{ℕ, ⊤, List}
use Rattle.pg_circuit.specs.declared.node.Gate.{Gate}
use Rattle.pg_circuit.specs.declared.node.Node.{Node}
use Rattle.pg_circuit.specs.Values.{IsThere}
use Rattle.pg_circuit.specs.Made.{and_made, xor_made}
use Rattle.pg_vec.specs.declared.pairwise.Pairing.{Pairing}
use Rattle.pg_vec.specs.declared.pairwise.Pairing.TheVariants.{And, Or, Xor, Choose}
use Rattle.pg_vec.specs.Gates.{or_made, choice_made}

abbrev pub pair_made : Pairing → List Node → Gate → Gate → Gate × List Node
pair_made And = and_made
pair_made Or = or_made
pair_made Xor = xor_made
pair_made (Choose choice) = choice_made choice

-- what the gates are made with is there
abbrev pub IsReady : ℕ → Pairing → Type 0
IsReady places (Choose choice) = IsThere places choice
IsReady places _ = ⊤
