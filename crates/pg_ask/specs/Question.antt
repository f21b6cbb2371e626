-- *QuestionClauses*: what the question of an instruction and a kind is made of, and its clauses.
use Rattle.std.specs.Prelude.{ℤ, List, [], ◌∷◌}
use Rattle.pg_circuit.specs.declared.node.Gate.{Gate}
use Rattle.pg_circuit.specs.declared.node.Node.{Node}
use Rattle.pg_circuit.specs.declared.node.Node.TheVariants.{Constant}
use Rattle.pg_circuit.specs.Made.{and_made}
use Rattle.pg_cnf.specs.Encoded.{clauses_of}
use Rattle.pg_cells.specs.declared.cell.Cell.{Cell}
use Rattle.pg_cells.specs.Made.{touch_made, cells_after, consistent_made}
use Rattle.pg_ast.specs.declared.tree.Instr.{Instr}
use Rattle.pg_ast.specs.declared.tree.Desc.{Desc}
use Rattle.pg_type.specs.declared.kind.Kind.{Kind}
use Rattle.pg_symex.specs.Exprs.{with_made}
use Rattle.pg_ask.specs.declared.unknowns.Unknowns.{Unknowns}
use Rattle.pg_ask.specs.Unknowns.{unknowns_made}
use Rattle.pg_ask.specs.Fits.{fits_made}
use Rattle.pg_ask.specs.declared.ends.End.{End}
use Rattle.pg_ask.specs.Ends.{view_for, both_made, ends_made}

-- the unknowns, the cell at P, which is touched first of all, and the word there
pub record Begun : Type 0 where
  pub unknowns : Unknowns
  pub word : List Gate
  pub nodes : List Node
  pub cells : List Cell

unfoldable pub begun_made : Desc → Kind → Begun
begun_made d kind =
    with_made (unknowns_made kind d.address (Constant ∷ [])) (λ u after_u.
    with_made (touch_made after_u (view_for d [] []) u.p) (λ word after_word.
    record { unknowns = u; word = word; nodes = after_word; cells = cells_after after_u d.word [] u.p }))

-- the gate that a pair shows the kind, and what a pair is read from: the unknowns, the number of usable cells and the cells
pub record Question : Type 0 where
  pub nodes : List Node
  pub root : Gate
  pub unknowns : Unknowns
  pub usable : List Gate
  pub cells : List Cell

-- all of it: what is asked of registers, sizes and the word at P, that both runs end as the kind asks, and that the touched
-- cells are those of one storage
unfoldable pub root_made : Kind → Unknowns → List Gate → Gate → List Node → List Cell → (first second : End) → Gate × List Node
root_made kind u v fits nodes cells first second =
    with_made (ends_made kind nodes u v first second) (λ ends after_ends.
    with_made (consistent_made after_ends cells) (λ whole after_whole.
    with_made (and_made after_whole fits ends) (λ shown after_shown.
    and_made after_shown shown whole)))

unfoldable pub question_made : Desc → Instr → Kind → Question
question_made d i kind =
    let begun = begun_made d kind in
    let fits = fits_made d i kind begun.unknowns begun.word begun.nodes in
    let both = both_made d i begun.unknowns fits.0.0 fits.1 begun.cells in
    let root = root_made kind begun.unknowns fits.0.0 fits.0.1 both.nodes both.cells both.first both.second in
    record { nodes = root.1; root = root.0; unknowns = begun.unknowns; usable = fits.0.0; cells = both.cells }

-- the clauses: those of all nodes, and that the root is true
abbrev pub question : Desc → Instr → Kind → List (List ℤ)
question d i kind = let q = question_made d i kind in clauses_of q.nodes q.root
