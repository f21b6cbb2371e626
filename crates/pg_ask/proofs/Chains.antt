-- Steps one after another, of the calls that have many.
use Rattle.std.proofs.Common.{◌≡◌, ℕ, true, List, ap, ◌∙◌}
use Rattle.pg_circuit.specs.declared.node.Gate.{Gate}
use Rattle.pg_circuit.specs.declared.node.Node.{Node}
use Rattle.pg_circuit.specs.Made.{constant_gate, and_made}
use Rattle.pg_vec.specs.Strings.{lt_made}
use Rattle.pg_cells.specs.declared.cell.Cell.{Cell}
use Rattle.pg_cells.specs.Made.{inputs_made, consistent_made}
use Rattle.pg_ast.specs.declared.tree.Instr.{Instr}
use Rattle.pg_ast.specs.declared.tree.Desc.{Desc}
use Rattle.pg_type.specs.declared.kind.Kind.{Kind}
use Rattle.pg_symex.specs.Exprs.{bit_0}
use Rattle.pg_ask.specs.declared.unknowns.Unknowns.{Unknowns}
use Rattle.pg_ask.specs.declared.ends.End.{End}
use Rattle.pg_ask.specs.Unknowns.{modes_made, moves, rebounds, other_made, unknowns_made}
use Rattle.pg_ask.specs.Fits.{usable_made, size_made, alike_made, apart_made, matches_made, fits_made}
use Rattle.pg_ask.specs.Ends.{ends_made}
use Rattle.pg_ask.specs.Question.{root_made}

-- unknowns of these strings
abbrev pub unknowns_as : List Gate × List Gate → (p first_l second_l first_b second_b first_size second_size compared : List Gate) → Unknowns
unknowns_as modes p first_l second_l first_b second_b first_size second_size compared = record {
  first_mode = modes.0;
  second_mode = modes.1;
  p = p;
  first_l = first_l;
  second_l = second_l;
  first_b = first_b;
  second_b = second_b;
  first_size = first_size;
  second_size = second_size;
  compared = compared;
}

pub unknowns_chain : (kind : Kind) (a : ℕ) (n0 n1 n2 n3 n4 n5 n6 n7 n8 n9 : List Node) (modes : (List Gate × List Gate)) (p : List Gate) (first_l : List Gate) (second_l : List Gate) (first_b : List Gate) (second_b : List Gate) (first_size : List Gate) (second_size : List Gate) (compared : List Gate) → (modes, n1) ≡ modes_made kind n0 → (p, n2) ≡ inputs_made n1 a → (first_l, n3) ≡ inputs_made n2 a → (second_l, n4) ≡ other_made (moves kind) a n3 first_l → (first_b, n5) ≡ inputs_made n4 a → (second_b, n6) ≡ other_made (rebounds kind) a n5 first_b → (first_size, n7) ≡ inputs_made n6 a → (second_size, n8) ≡ other_made (rebounds kind) a n7 first_size → (compared, n9) ≡ inputs_made n8 a → (unknowns_as modes p first_l second_l first_b second_b first_size second_size compared, n9) ≡ unknowns_made kind a n0
unfolding unknowns_made
unknowns_chain kind a n0 n1 n2 n3 n4 n5 n6 n7 n8 n9 modes p first_l second_l first_b second_b first_size second_size compared e1 e2 e3 e4 e5 e6 e7 e8 e9 =
    let g9 : (List Gate × List Gate) → List Gate → List Gate → List Gate → List Gate → List Gate → List Gate → List Gate → List Gate × List Node → Unknowns × List Node = λ modes p first_l second_l first_b second_b first_size second_size m. (unknowns_as modes p first_l second_l first_b second_b first_size second_size m.0, m.1) in
    let g8 : (List Gate × List Gate) → List Gate → List Gate → List Gate → List Gate → List Gate → List Gate → List Gate × List Node → Unknowns × List Node = λ modes p first_l second_l first_b second_b first_size m. g9 modes p first_l second_l first_b second_b first_size m.0 (inputs_made m.1 a) in
    let g7 : (List Gate × List Gate) → List Gate → List Gate → List Gate → List Gate → List Gate → List Gate × List Node → Unknowns × List Node = λ modes p first_l second_l first_b second_b m. g8 modes p first_l second_l first_b second_b m.0 (other_made (rebounds kind) a m.1 m.0) in
    let g6 : (List Gate × List Gate) → List Gate → List Gate → List Gate → List Gate → List Gate × List Node → Unknowns × List Node = λ modes p first_l second_l first_b m. g7 modes p first_l second_l first_b m.0 (inputs_made m.1 a) in
    let g5 : (List Gate × List Gate) → List Gate → List Gate → List Gate → List Gate × List Node → Unknowns × List Node = λ modes p first_l second_l m. g6 modes p first_l second_l m.0 (other_made (rebounds kind) a m.1 m.0) in
    let g4 : (List Gate × List Gate) → List Gate → List Gate → List Gate × List Node → Unknowns × List Node = λ modes p first_l m. g5 modes p first_l m.0 (inputs_made m.1 a) in
    let g3 : (List Gate × List Gate) → List Gate → List Gate × List Node → Unknowns × List Node = λ modes p m. g4 modes p m.0 (other_made (moves kind) a m.1 m.0) in
    let g2 : (List Gate × List Gate) → List Gate × List Node → Unknowns × List Node = λ modes m. g3 modes m.0 (inputs_made m.1 a) in
    let g1 : (List Gate × List Gate) × List Node → Unknowns × List Node = λ m. g2 m.0 (inputs_made m.1 a) in
    ap (g9 modes p first_l second_l first_b second_b first_size second_size) e9
    ∙ ap (g8 modes p first_l second_l first_b second_b first_size) e8
    ∙ ap (g7 modes p first_l second_l first_b second_b) e7
    ∙ ap (g6 modes p first_l second_l first_b) e6
    ∙ ap (g5 modes p first_l second_l) e5
    ∙ ap (g4 modes p first_l) e4
    ∙ ap (g3 modes p) e3
    ∙ ap (g2 modes) e2
    ∙ ap (g1) e1

pub fits_chain : (d : Desc) (i : Instr) (kind : Kind) (u : Unknowns) (word : List Gate) (n0 n1 n2 n3 n4 n5 n6 n7 n8 n9 : List Node) (v : List Gate) (second_v : List Gate) (one : Gate) (two : Gate) (alike : Gate) (inside : List Gate) (placed : Gate) (related : Gate) (fits : Gate) → (v, n1) ≡ usable_made n0 u.first_l u.first_b u.first_size → (second_v, n2) ≡ usable_made n1 u.second_l u.second_b u.second_size → (one, n3) ≡ size_made d.size d.address n2 (constant_gate true) u.first_size → (two, n4) ≡ size_made d.size d.address n3 one u.second_size → (alike, n5) ≡ alike_made n4 two v second_v → (inside, n6) ≡ lt_made n5 u.p v → (placed, n7) ≡ and_made n6 alike (bit_0 inside) → (related, n8) ≡ apart_made kind n7 placed u → (fits, n9) ≡ matches_made n8 related i.pattern.bytes word → ((v, fits), n9) ≡ fits_made d i kind u word n0
unfolding fits_made
fits_chain d i kind u word n0 n1 n2 n3 n4 n5 n6 n7 n8 n9 v second_v one two alike inside placed related fits e1 e2 e3 e4 e5 e6 e7 e8 e9 =
    let g9 : List Gate → List Gate → Gate → Gate → Gate → List Gate → Gate → Gate → Gate × List Node → (List Gate × Gate) × List Node = λ v second_v one two alike inside placed related m. ((v, m.0), m.1) in
    let g8 : List Gate → List Gate → Gate → Gate → Gate → List Gate → Gate → Gate × List Node → (List Gate × Gate) × List Node = λ v second_v one two alike inside placed m. g9 v second_v one two alike inside placed m.0 (matches_made m.1 m.0 i.pattern.bytes word) in
    let g7 : List Gate → List Gate → Gate → Gate → Gate → List Gate → Gate × List Node → (List Gate × Gate) × List Node = λ v second_v one two alike inside m. g8 v second_v one two alike inside m.0 (apart_made kind m.1 m.0 u) in
    let g6 : List Gate → List Gate → Gate → Gate → Gate → List Gate × List Node → (List Gate × Gate) × List Node = λ v second_v one two alike m. g7 v second_v one two alike m.0 (and_made m.1 alike (bit_0 m.0)) in
    let g5 : List Gate → List Gate → Gate → Gate → Gate × List Node → (List Gate × Gate) × List Node = λ v second_v one two m. g6 v second_v one two m.0 (lt_made m.1 u.p v) in
    let g4 : List Gate → List Gate → Gate → Gate × List Node → (List Gate × Gate) × List Node = λ v second_v one m. g5 v second_v one m.0 (alike_made m.1 m.0 v second_v) in
    let g3 : List Gate → List Gate → Gate × List Node → (List Gate × Gate) × List Node = λ v second_v m. g4 v second_v m.0 (size_made d.size d.address m.1 m.0 u.second_size) in
    let g2 : List Gate → List Gate × List Node → (List Gate × Gate) × List Node = λ v m. g3 v m.0 (size_made d.size d.address m.1 (constant_gate true) u.first_size) in
    let g1 : List Gate × List Node → (List Gate × Gate) × List Node = λ m. g2 m.0 (usable_made m.1 u.second_l u.second_b u.second_size) in
    ap (g9 v second_v one two alike inside placed related) e9
    ∙ ap (g8 v second_v one two alike inside placed) e8
    ∙ ap (g7 v second_v one two alike inside) e7
    ∙ ap (g6 v second_v one two alike) e6
    ∙ ap (g5 v second_v one two) e5
    ∙ ap (g4 v second_v one) e4
    ∙ ap (g3 v second_v) e3
    ∙ ap (g2 v) e2
    ∙ ap (g1) e1

pub root_chain : (kind : Kind) (u : Unknowns) (v : List Gate) (fits : Gate) (cells : List Cell) (first second : End) (n0 n1 n2 n3 : List Node) (ended : Gate) (whole : Gate) (shown : Gate) → (ended, n1) ≡ ends_made kind n0 u v first second → (whole, n2) ≡ consistent_made n1 cells → (shown, n3) ≡ and_made n2 fits ended → and_made n3 shown whole ≡ root_made kind u v fits n0 cells first second
unfolding root_made
root_chain kind u v fits cells first second n0 n1 n2 n3 ended whole shown e1 e2 e3 =
    let g3 : Gate → Gate → Gate × List Node → Gate × List Node = λ ended whole m. and_made m.1 m.0 whole in
    let g2 : Gate → Gate × List Node → Gate × List Node = λ ended m. g3 ended m.0 (and_made m.1 fits ended) in
    let g1 : Gate × List Node → Gate × List Node = λ m. g2 m.0 (consistent_made m.1 cells) in
    ap (g3 ended whole) e3
    ∙ ap (g2 ended) e2
    ∙ ap (g1) e1
