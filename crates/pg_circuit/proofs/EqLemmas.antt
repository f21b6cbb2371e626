-- The comparison that the table makes, and the one of the definitions.
use Rattle.std.proofs.Common.{◌≡◌, ◌||◌, List, [], ◌∷◌, refl, ap}
use Rattle.std.specs.List.{list_any}
use Rattle.pg_circuit.specs.declared.node.Node.{Node}
use Rattle.pg_circuit.specs.declared.node.Node.TheVariants.{Constant, Input, And, Xor}
use Rattle.pg_circuit.specs.contracts.node.NodePartialEq.TheImpl.{eq-value}
use Rattle.pg_circuit.specs.Nodes.{same_node, has_node}

eq-same : (n m : Node) → eq-value.it n m ≡ same_node n m
eq-same Constant Constant = refl
eq-same Constant (Input m) = refl
eq-same Constant (And u v) = refl
eq-same Constant (Xor u v) = refl
eq-same (Input n) Constant = refl
eq-same (Input n) (Input m) = refl
eq-same (Input n) (And u v) = refl
eq-same (Input n) (Xor u v) = refl
eq-same (And x y) Constant = refl
eq-same (And x y) (Input m) = refl
eq-same (And x y) (And u v) = refl
eq-same (And x y) (Xor u v) = refl
eq-same (Xor x y) Constant = refl
eq-same (Xor x y) (Input m) = refl
eq-same (Xor x y) (And u v) = refl
eq-same (Xor x y) (Xor u v) = refl

pub has_node-by_eq : (ns : List Node) (n : Node) → list_any (eq-value.it n) ns ≡ has_node ns n
has_node-by_eq [] n = refl
has_node-by_eq (m ∷ ns) n = rw (eq-same n m) (ap (λ b. same_node n m || b) (has_node-by_eq ns n))
