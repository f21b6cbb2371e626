-- Cells that stay the first ones.
use Rattle.std.proofs.Common.{◌≡◌, ℕ, Bool, List, [], ◌∷◌, ◌++◌, length, take, get_or, Option, None, Some, refl, ap, ◌∙◌}
use Rattle.std.proofs.lemmas.List.Elements.{All-nil, All-cons, All-head, All-tail}
use Rattle.pg_circuit.specs.declared.node.Gate.{Gate}
use Rattle.pg_circuit.specs.declared.node.Node.{Node}
use Rattle.pg_cells.specs.declared.cell.Cell.{Cell}
use Rattle.pg_cells.specs.Storage.{Known, Agrees}
use Rattle.pg_cells.specs.Cells.{known_of, known_cells}
use Rattle.pg_cells.specs.Made.{found_word, with_found, cells_after}
use Rattle.pg_symex.specs.Follows.{CellsStay}

take-same : (cells : List Cell) → take (length cells) cells ≡ cells
take-same [] = refl
take-same (c ∷ cells) = ap (λ cs. c ∷ cs) (take-same cells)

take-pushed : (cells : List Cell) (c : Cell) → take (length cells) (cells ++ c ∷ []) ≡ cells
take-pushed [] c = refl
take-pushed (d ∷ cells) c = ap (λ cs. d ∷ cs) (take-pushed cells c)

-- the front of a front
take-front : (a b c : List Cell) → take (length a) b ≡ a → take (length b) c ≡ b → take (length a) c ≡ a
take-front [] b c h k = refl
take-front (x ∷ a) [] c h k = absurd (cc h)
take-front (x ∷ a) (y ∷ b) [] h k = absurd (cc k)
take-front (x ∷ a) (y ∷ b) (z ∷ c) h k =
    let zy : z ≡ y = cc k in
    let yx : y ≡ x = cc h in
    let k_tail : take (length b) c ≡ b = cc k in
    let h_tail : take (length a) b ≡ a = cc h in
    ap (λ u. u ∷ take (length a) c) (zy ∙ yx) ∙ ap (λ cs. x ∷ cs) (take-front a b c h_tail k_tail)

pub stay-same : (cells : List Cell) → CellsStay cells cells
stay-same cells = record { front = take-same cells; agrees = λ values storage h. h }

pub stay-then : (a b c : List Cell) → CellsStay a b → CellsStay b c → CellsStay a c
stay-then a b c h k = record { front = take-front a b c h.front k.front; agrees = λ values storage x. h.agrees values storage (k.agrees values storage x) }

cells-front : (cells : List Cell) (c : Cell) (values : List Bool) (storage : List ℕ) → Agrees storage (known_cells values (cells ++ c ∷ [])) → Agrees storage (known_cells values cells)
cells-front [] c values storage h = All-nil (λ (k : Known). get_or storage k.address 0 ≡ k.word)
cells-front (d ∷ cells) c values storage h =
    All-cons (λ k. get_or storage k.address 0 ≡ k.word) (known_of values d) (known_cells values cells)
    (All-head (λ k. get_or storage k.address 0 ≡ k.word) (known_of values d) (known_cells values (cells ++ c ∷ [])) h)
    (cells-front cells c values storage (All-tail (λ k. get_or storage k.address 0 ≡ k.word) (known_of values d) (known_cells values (cells ++ c ∷ [])) h))

stay-pushed : (cells : List Cell) (c : Cell) → CellsStay cells (cells ++ c ∷ [])
stay-pushed cells c = record { front = take-pushed cells c; agrees = λ values storage h. cells-front cells c values storage h }

found-stay : (nodes : List Node) (w : ℕ) (cells : List Cell) (address : List Gate) (o : Option (List Gate)) → CellsStay cells (with_found nodes w cells address o)
found-stay nodes w cells address None = stay-pushed cells _
found-stay nodes w cells address (Some word) = stay-same cells

pub cells-stay : (nodes : List Node) (w : ℕ) (cells : List Cell) (address : List Gate) → CellsStay cells (cells_after nodes w cells address)
unfolding cells_after
cells-stay nodes w cells address = found-stay nodes w cells address (found_word cells address)
