-- What single gates are made of: ands and exclusive ors, one after another.
use Rattle.std.specs.Prelude.{List}
use Rattle.pg_circuit.specs.declared.node.Gate.{Gate}
use Rattle.pg_circuit.specs.declared.node.Node.{Node}
use Rattle.pg_circuit.specs.Made.{not_gate, and_made}

-- what is made next of what was made, among the nodes that there are then
abbrev pub then_made : {A B : Type 0} → A × List Node → (A → List Node → B × List Node) → B × List Node
then_made made next = next made.0 made.1

-- the or: not (not x and not y)
unfoldable pub or_made : List Node → Gate → Gate → Gate × List Node
or_made nodes x y =
    then_made (and_made nodes (not_gate x) (not_gate y)) (λ neither after. (not_gate neither, after))

-- one of two gates: (choice and x) or (not choice and y)
unfoldable pub choice_made : Gate → List Node → Gate → Gate → Gate × List Node
choice_made choice nodes x y =
    then_made (and_made nodes choice x) (λ left after_left.
    then_made (and_made after_left (not_gate choice) y) (λ right after_right.
    or_made after_right left right))

-- the carry out of the sum of x, y and a carry, where `half` is x xor y: (x and y) or (half and carry)
unfoldable pub carry_made : List Node → Gate → Gate → Gate → Gate → Gate × List Node
carry_made nodes x y half carry =
    then_made (and_made nodes x y) (λ both after_both.
    then_made (and_made after_both half carry) (λ passed after_passed.
    or_made after_passed both passed))
