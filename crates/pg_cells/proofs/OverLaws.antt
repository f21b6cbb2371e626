-- A circuit that grows stays the one of the cells and writes over it.
use Rattle.std.proofs.Common.{◌≡◌, ℕ, zero, suc, ◌+◌, ◌<◌, ◌≤◌, List, [], ◌∷◌, ◌++◌, length, take, slice_get, Some, refl, sym, ap, ◌∙◌, arith}
use Rattle.std.specs.List.{All}
use Rattle.std.proofs.lemmas.List.{take-take}
use Rattle.std.proofs.lemmas.List.Elements.{All-weaker, All-push}
use Rattle.pg_circuit.specs.declared.node.Node.{Node}
use Rattle.pg_circuit.specs.declared.node.Node.TheVariants.{Input}
use Rattle.pg_circuit.specs.Nodes.{input_count}
use Rattle.pg_circuit.specs.Grown.{GrowsTo}
use Rattle.pg_vec.proofs.Kept.{front_length, all_there_later}
use Rattle.pg_cells.specs.declared.cell.Cell.{Cell}
use Rattle.pg_cells.specs.declared.cell.Write.{Write}
use Rattle.pg_cells.specs.View.{View}
use Rattle.pg_cells.specs.Over.{place_of, first_input, IsCell, AreCells, IsWrite, IsOver}
use Rattle.pg_cells.proofs.InputLaws.{cells-room}

slice_get-take : (n k : ℕ) (nodes : List Node) → k < n → slice_get (take n nodes) k ≡ slice_get nodes k
slice_get-take zero k nodes l = absurd (omega arith)
slice_get-take (suc n) k [] l = refl
slice_get-take (suc n) zero (x ∷ nodes) l = refl
slice_get-take (suc n) (suc k) (x ∷ nodes) l = slice_get-take n k nodes (omega arith)

node-later : (nodes later : List Node) (k : ℕ) → GrowsTo nodes later → k < length nodes → slice_get later k ≡ slice_get nodes k
node-later nodes later k g l = sym (slice_get-take (length nodes) k later l) ∙ ap (λ (ns : List Node). slice_get ns k) g

first_input-later : (nodes later : List Node) (c : Cell) → GrowsTo nodes later → place_of c ≤ length nodes → first_input later c ≡ first_input nodes c
first_input-later nodes later c g l =
    ap input_count (sym (take-take (place_of c) (length nodes) later l) ∙ ap (take (place_of c)) g)

IsCell-later : (nodes later : List Node) (w a : ℕ) (c : Cell) → GrowsTo nodes later → place_of c + w ≤ length nodes → IsCell nodes w a c → IsCell later w a c
IsCell-later nodes later w a c g l cell = record {
  wide = cell.wide;
  earlier = cell.earlier;
  word = cell.word;
  inputs = λ i li.
      node-later nodes later (place_of c + i) g (omega arith) ∙ cell.inputs i li
      ∙ ap (λ n. Some (Input (n + i))) (sym (first_input-later nodes later c g (omega arith)));
}

pub AreCells-later : (nodes later : List Node) (w a from : ℕ) (cells : List Cell) → GrowsTo nodes later → AreCells nodes w a from cells → AreCells later w a from cells
AreCells-later nodes later w a from [] g h = let l = front_length nodes later g in omega arith
AreCells-later nodes later w a from (c ∷ cells) g h =
    (h.0, IsCell-later nodes later w a c g (cells-room nodes w a (place_of c + w) cells h.2) h.1, AreCells-later nodes later w a (place_of c + w) cells g h.2)

IsWrite-later : (nodes later : List Node) (w a : ℕ) (x : Write) → GrowsTo nodes later → IsWrite (length nodes) w a x → IsWrite (length later) w a x
IsWrite-later nodes later w a x g h = record {
  guard = let l = front_length nodes later g in let b = h.guard in omega arith;
  address = all_there_later nodes later x.address g h.address;
  address_wide = h.address_wide;
  value = all_there_later nodes later x.value g h.value;
  value_wide = h.value_wide;
}

pub AreWrites-later : (nodes later : List Node) (w a : ℕ) (xs : List Write) → GrowsTo nodes later → All (IsWrite (length nodes) w a) xs → All (IsWrite (length later) w a) xs
AreWrites-later nodes later w a xs g h = All-weaker (IsWrite (length nodes) w a) (IsWrite (length later) w a) (λ x. IsWrite-later nodes later w a x g) xs h

pub IsOver-later : (nodes later : List Node) (t : View) → GrowsTo nodes later → IsOver nodes t → IsOver later t
IsOver-later nodes later t g h = record {
  word_width = h.word_width;
  address_least = h.address_least;
  address_most = h.address_most;
  cells = AreCells-later nodes later t.w t.a 0 t.cells g h.cells;
  writes = AreWrites-later nodes later t.w t.a t.writes g h.writes;
}

-- one more cell, made after all others
pub AreCells-push : (old new : List Node) (w a from : ℕ) (cells : List Cell) (c : Cell) → GrowsTo old new → AreCells old w a from cells → length old ≤ place_of c → IsCell new w a c → place_of c + w ≤ length new →
    AreCells new w a from (cells ++ c ∷ [])
AreCells-push old new w a from [] c g h later cell room = (omega arith, cell, room)
AreCells-push old new w a from (d ∷ cells) c g h later cell room =
    (h.0, IsCell-later old new w a d g (cells-room old w a (place_of d + w) cells h.2) h.1, AreCells-push old new w a (place_of d + w) cells c g h.2 later cell room)

-- one more write
pub IsOver-write : (nodes : List Node) (t : View) (x : Write) → IsOver nodes t → IsWrite (length nodes) t.w t.a x → IsOver nodes (record t { writes = t.writes ++ x ∷ [] })
IsOver-write nodes t x h k = record {
  word_width = h.word_width;
  address_least = h.address_least;
  address_most = h.address_most;
  cells = h.cells;
  writes = All-push (IsWrite (length nodes) t.w t.a) t.writes x h.writes k;
}
