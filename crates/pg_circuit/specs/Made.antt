-- What each call makes: a gate, and the nodes that there are then.
use Rattle.std.specs.Prelude.{ℕ, Bool, false, not, ◌==◌, if◌then◌else◌, List, [], ◌∷◌, ◌++◌, length, Option, None, Some}
use Rattle.std.proofs.Math.Bool.{beq}
use Rattle.pg_circuit.specs.declared.node.Gate.{Gate}
use Rattle.pg_circuit.specs.declared.node.Node.{Node}
use Rattle.pg_circuit.specs.declared.node.Node.TheVariants.{Input, And, Xor}
use Rattle.pg_circuit.specs.Nodes.{has_node, place_of, input_count}
use Rattle.pg_circuit.specs.Values.{differ}

-- the gate with a number
abbrev pub gate_at : ℕ → Gate
gate_at number = record { number = number; negated = false }

abbrev pub constant_gate : Bool → Gate
constant_gate value = record { number = 0; negated = value }

abbrev pub not_gate : Gate → Gate
not_gate g = record { number = g.number; negated = not g.negated }

abbrev pub not_where : Bool → Gate → Gate
not_where negated g = (if negated then not_gate g else g)

-- the and of two gates where it is the constant or one of them: where one is the constant, or both have one number
abbrev pub and_simplified : Gate → Gate → Option Gate
and_simplified x y =
    (if x.number == 0 then Some (if x.negated then y else constant_gate false) else
    (if y.number == 0 then Some (if y.negated then x else constant_gate false) else
    (if x.number == y.number then Some (if beq x.negated y.negated then x else constant_gate false) else
    None)))

-- the same for the exclusive or, which may be the negation of one of them
abbrev pub xor_simplified : Gate → Gate → Option Gate
xor_simplified x y =
    (if x.number == 0 then Some (not_where x.negated y) else
    (if y.number == 0 then Some (not_where y.negated x) else
    (if x.number == y.number then Some (constant_gate (differ x.negated y.negated)) else
    None)))

-- the nodes with a node that is added at the end, if it is not there
abbrev pub with_node : List Node → Node → List Node
with_node nodes n = (if has_node nodes n then nodes else nodes ++ n ∷ [])

-- the gate of a node, which is looked up
abbrev pub node_made : List Node → Node → Gate × List Node
node_made nodes n = (gate_at (place_of nodes n), with_node nodes n)

abbrev pub made : List Node → Option Gate → Node → Gate × List Node
made nodes None n = node_made nodes n
made nodes (Some g) n = (g, nodes)

unfoldable pub and_made : List Node → Gate → Gate → Gate × List Node
and_made nodes x y = made nodes (and_simplified x y) (And x y)

unfoldable pub xor_made : List Node → Gate → Gate → Gate × List Node
xor_made nodes x y = made nodes (xor_simplified x y) (Xor x y)

-- the next input, at the end
unfoldable pub input_made : List Node → Gate × List Node
input_made nodes = (gate_at (length nodes), nodes ++ Input (input_count nodes) ∷ [])
