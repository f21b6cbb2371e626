-- What is not known of a pair of states, as gates: inputs, bit 0 first, in this order.
use Rattle.std.specs.Prelude.{ℕ, Bool, true, false, List, [], ◌∷◌}
use Rattle.pg_circuit.specs.declared.node.Gate.{Gate}
use Rattle.pg_circuit.specs.declared.node.Node.{Node}
use Rattle.pg_circuit.specs.Made.{constant_gate}
use Rattle.pg_vec.specs.Gates.{then_made}
use Rattle.pg_cells.specs.Made.{inputs_made}
use Rattle.pg_type.specs.declared.kind.Kind.{Kind}
use Rattle.pg_type.specs.declared.kind.Kind.TheVariants.{Privileged, Control, ModeDep, Location, Bound, UControl, ULocation, UBound}
use Rattle.pg_symex.specs.declared.regs.Regs.{Regs}
use Rattle.pg_ask.specs.declared.unknowns.Unknowns.{Unknowns}

-- the modes of both states: supervisor and user, the same input, or user
abbrev pub modes_made : Kind → List Node → (List Gate × List Gate) × List Node
modes_made Privileged nodes = ((constant_gate false ∷ [], constant_gate true ∷ []), nodes)
modes_made Control nodes = then_made (inputs_made nodes 1) (λ mode after. ((mode, mode), after))
modes_made ModeDep nodes = ((constant_gate false ∷ [], constant_gate true ∷ []), nodes)
modes_made Location nodes = then_made (inputs_made nodes 1) (λ mode after. ((mode, mode), after))
modes_made Bound nodes = then_made (inputs_made nodes 1) (λ mode after. ((mode, mode), after))
modes_made UControl nodes = ((constant_gate true ∷ [], constant_gate true ∷ []), nodes)
modes_made ULocation nodes = ((constant_gate true ∷ [], constant_gate true ∷ []), nodes)
modes_made UBound nodes = ((constant_gate true ∷ [], constant_gate true ∷ []), nodes)

-- whether the two states lie at different places
abbrev pub moves : Kind → Bool
moves Privileged = false
moves Control = false
moves ModeDep = false
moves Location = true
moves Bound = false
moves UControl = false
moves ULocation = true
moves UBound = false

-- whether they have different bounds, and sizes of their own
abbrev pub rebounds : Kind → Bool
rebounds Privileged = false
rebounds Control = false
rebounds ModeDep = false
rebounds Location = false
rebounds Bound = true
rebounds UControl = false
rebounds ULocation = false
rebounds UBound = true

-- what the second state has in the place of these bits: inputs of its own, or the same gates
abbrev pub other_made : Bool → ℕ → List Node → List Gate → List Gate × List Node
other_made false a nodes same = (same, nodes)
other_made true a nodes same = inputs_made nodes a

unfoldable pub unknowns_made : Kind → ℕ → List Node → Unknowns × List Node
unknowns_made kind a nodes =
    then_made (modes_made kind nodes) (λ modes after_modes.
    then_made (inputs_made after_modes a) (λ p after_p.
    then_made (inputs_made after_p a) (λ first_l after_first_l.
    then_made (other_made (moves kind) a after_first_l first_l) (λ second_l after_second_l.
    then_made (inputs_made after_second_l a) (λ first_b after_first_b.
    then_made (other_made (rebounds kind) a after_first_b first_b) (λ second_b after_second_b.
    then_made (inputs_made after_second_b a) (λ first_size after_first_size.
    then_made (other_made (rebounds kind) a after_first_size first_size) (λ second_size after_second_size.
    then_made (inputs_made after_second_size a) (λ compared after_compared. (
      record {
        first_mode = modes.0;
        second_mode = modes.1;
        p = p;
        first_l = first_l;
        second_l = second_l;
        first_b = first_b;
        second_b = second_b;
        first_size = first_size;
        second_size = second_size;
        compared = compared;
      },
      after_compared,
    ))))))))))

-- the registers of each state; both have one number of usable cells
abbrev pub first_regs : Unknowns → List Gate → Regs
first_regs u v = record { mode = u.first_mode; p = u.p; l = u.first_l; b = u.first_b; v = v }

abbrev pub second_regs : Unknowns → List Gate → Regs
second_regs u v = record { mode = u.second_mode; p = u.p; l = u.second_l; b = u.second_b; v = v }
