-- The code's steps build agreement as the definitions say.
use Rattle.std.proofs.Common.{◌≡◌, ℕ, ◌+◌, ◌*◌, ◌^◌, ◌<◌, ◌≤◌, Bool, true, false, if◌then◌else◌, List, ◌∷◌, length, take, drop, length-drop, get_or, refl, sym, ap, ◌∙◌, subst, arith, Result}
use Rattle.std.specs.Prelude.{IfOk}
use Rattle.std.specs.List.{All}
use Rattle.std.specs.declared.alloc.AllocError.{AllocError}
use Rattle.std.proofs.lemmas.Nat.{mul-le}
use Rattle.std.proofs.lemmas.List.{drop_more, drop_all, length-take}
use Rattle.std.proofs.lemmas.List.Elements.{All-take, All-drop}
use Rattle.pg_circuit.specs.declared.node.Gate.{Gate}
use Rattle.pg_circuit.specs.declared.node.Node.{Node}
use Rattle.pg_circuit.specs.Nodes.{same_gate, IsCircuit}
use Rattle.pg_circuit.specs.Made.{constant_gate, not_gate, and_made}
use Rattle.pg_vec.specs.AddsNodes.{AddsNodes}
use Rattle.pg_vec.specs.Strings.{same_made}
use Rattle.pg_vec.proofs.Kept.{adds_more, adds_next, adds_rounds}
use Rattle.pg_vec.proofs.Loops.{Folded, no_round}
use Rattle.pg_cells.specs.declared.cell.Cell.{Cell}
use Rattle.pg_cells.specs.View.{View}
use Rattle.pg_cells.specs.Over.{IsWhole, IsOver}
use Rattle.pg_cells.specs.Made.{alike_made, pair_made, row_made, pairs_made, consistent_made}
use Rattle.pg_cells.specs.Means.{each_pair, TellsConsistent}
use Rattle.pg_cells.proofs.ConsistentLaws.{cells-whole, whole-later, all-whole-later, tells}

pub alike_step : (r : Result Gate AllocError) (nodes : List Node) (so_far at : Gate) (xs ys : List Gate) (same differ odd fine : Gate) (n m new : List Node) →
    (same, n) ≡ same_made nodes (constant_gate true) xs ys → differ ≡ not_gate same → (odd, m) ≡ and_made n at differ → fine ≡ not_gate odd →
    IfOk r (λ g. (g, new) ≡ and_made m so_far fine) → IfOk r (λ g. (g, new) ≡ alike_made nodes so_far at xs ys)
unfolding alike_made
alike_step r nodes so_far at xs ys same differ odd fine n m new e1 ed e2 ef h =
    subst (λ (k : Gate × List Node). IfOk r (λ g. (g, new) ≡ k))
    (ap (λ g. and_made m so_far g) ef
    ∙ ap (λ (k : Gate × List Node). and_made k.1 so_far (not_gate k.0)) (e2 ∙ ap (λ g. and_made n at g) ed)
    ∙ ap (λ (k : Gate × List Node). let q = and_made k.1 at (not_gate k.0) in and_made q.1 so_far (not_gate q.0)) e1)
    h

pair_open : (nodes : List Node) (so_far : Gate) (c d : Cell) (at never : Gate) (n : List Node) (xs ys : List Gate) (b : Bool) → xs ≡ c.address → ys ≡ d.address → (at, n) ≡ same_made nodes (constant_gate true) xs ys →
    never ≡ constant_gate false → same_gate at never ≡ b → (if b then (so_far, n) else alike_made n so_far at c.word d.word) ≡ pair_made nodes so_far c d
unfolding pair_made
pair_open nodes so_far c d at never n xs ys b ex ey e en eb =
    ap (λ k. (if k then (so_far, n) else alike_made n so_far at c.word d.word)) (sym eb)
    ∙ ap (λ g. (if same_gate at g then (so_far, n) else alike_made n so_far at c.word d.word)) en
    ∙ ap (λ (k : Gate × List Node). (if same_gate k.0 (constant_gate false) then (so_far, k.1) else alike_made k.1 so_far k.0 c.word d.word))
    (e ∙ ap (λ zs. same_made nodes (constant_gate true) zs ys) ex ∙ ap (λ zs. same_made nodes (constant_gate true) c.address zs) ey)

pub pair_apart : (nodes : List Node) (so_far : Gate) (c d : Cell) (at never : Gate) (n : List Node) (xs ys : List Gate) → xs ≡ c.address → ys ≡ d.address → (at, n) ≡ same_made nodes (constant_gate true) xs ys →
    never ≡ constant_gate false → same_gate at never ≡ true → (so_far, n) ≡ pair_made nodes so_far c d
pair_apart nodes so_far c d at never n xs ys ex ey e en eb = pair_open nodes so_far c d at never n xs ys true ex ey e en eb

pub pair_alike : (r : Result Gate AllocError) (nodes : List Node) (so_far : Gate) (c d : Cell) (at never : Gate) (n new : List Node) (xs ys us vs : List Gate) → xs ≡ c.address → ys ≡ d.address → us ≡ c.word → vs ≡ d.word →
    (at, n) ≡ same_made nodes (constant_gate true) xs ys → never ≡ constant_gate false → same_gate at never ≡ false →
    IfOk r (λ g. (g, new) ≡ alike_made n so_far at us vs) → IfOk r (λ g. (g, new) ≡ pair_made nodes so_far c d)
pair_alike r nodes so_far c d at never n new xs ys us vs ex ey eu ev e en eb h =
    subst (λ (k : Gate × List Node). IfOk r (λ g. (g, new) ≡ k))
    (ap (λ zs. alike_made n so_far at zs vs) eu ∙ ap (λ zs. alike_made n so_far at c.word zs) ev ∙ pair_open nodes so_far c d at never n xs ys false ex ey e en eb) h

pub row_none : (nodes : List Node) (so_far : Gate) (c : Cell) (cells : List Cell) (i : ℕ) → length cells ≤ i → row_made nodes so_far c (drop i cells) ≡ (so_far, nodes)
unfolding row_made
row_none nodes so_far c cells i l = ap (λ zs. row_made nodes so_far c zs) (drop_all i cells l)

pub row_next : (nodes : List Node) (so_far : Gate) (c : Cell) (cells : List Cell) (i : ℕ) (d : Cell) (next : Gate) (new : List Node) → i < length cells → d ≡ get_or cells i d → (next, new) ≡ pair_made nodes so_far c d →
    row_made new next c (drop (i + 1) cells) ≡ row_made nodes so_far c (drop i cells)
unfolding row_made
row_next nodes so_far c cells i d next new l is e =
    ap (λ (k : Gate × List Node). row_made k.1 k.0 c (drop (i + 1) cells)) e
    ∙ ap (λ (zs : List Cell). row_made nodes so_far c zs) (ap (λ (y : Cell). y ∷ drop (i + 1) cells) is ∙ sym (drop_more cells i d l))

pub pairs_none : (nodes : List Node) (so_far : Gate) (cells : List Cell) (i : ℕ) → length cells ≤ i → pairs_made nodes so_far (drop i cells) ≡ (so_far, nodes)
unfolding pairs_made
pairs_none nodes so_far cells i l = ap (λ zs. pairs_made nodes so_far zs) (drop_all i cells l)

pub pairs_next : (nodes : List Node) (so_far : Gate) (cells : List Cell) (i : ℕ) (c : Cell) (others : List Cell) (next : Gate) (new : List Node) → i < length cells → c ≡ get_or cells i c → others ≡ drop (i + 1) cells →
    (next, new) ≡ row_made nodes so_far c others → pairs_made new next (drop (i + 1) cells) ≡ pairs_made nodes so_far (drop i cells)
unfolding pairs_made
pairs_next nodes so_far cells i c others next new l is eo e =
    ap (λ (k : Gate × List Node). pairs_made k.1 k.0 (drop (i + 1) cells)) (e ∙ ap (λ zs. row_made nodes so_far c zs) eo)
    ∙ ap (λ (zs : List Cell). pairs_made nodes so_far zs) (ap (λ (y : Cell). y ∷ drop (i + 1) cells) is ∙ sym (drop_more cells i c l))

-- ---- cells that are lent

pub whole_item : (nodes later : List Node) (most w a : ℕ) (cells : List Cell) (k : ℕ) (d : Cell) → AddsNodes nodes later most → All (IsWhole (length nodes) w a) cells → k < length cells → d ≡ get_or cells k d →
    IsWhole (length later) w a d
whole_item nodes later most w a cells k d g h l e = whole-later nodes later most w a d g (subst (IsWhole (length nodes) w a) (sym e) (h k d l))

own_widths : (places w a : ℕ) (d : Cell) → IsWhole places w a d → IsWhole places (length d.word) (length d.address) d
own_widths places w a d h = record { address = h.address; address_wide = refl; word = h.word; word_wide = refl }

pub own_cell : (nodes later : List Node) (most : ℕ) (t : View) (slice : List Cell) (i : ℕ) (d : Cell) → IsOver nodes t → slice ≡ t.cells → AddsNodes nodes later most → i < length slice → d ≡ get_or slice i d →
    IsWhole (length later) (length d.word) (length d.address) d
own_cell nodes later most t slice i d o e g l is =
    let all = subst (λ (cs : List Cell). All (IsWhole (length nodes) t.w t.a) cs) (sym e) (cells-whole nodes t.w t.a 0 t.cells o.cells) in
    own_widths (length later) t.w t.a d (whole_item nodes later most t.w t.a slice i d g all l is)

-- the widths of a cell are those of all
pub cell_widths : (nodes : List Node) (t : View) (slice : List Cell) (i : ℕ) (d : Cell) → IsOver nodes t → slice ≡ t.cells → i < length slice → d ≡ get_or slice i d → (t.w ≡ length d.word) × (t.a ≡ length d.address)
cell_widths nodes t slice i d o e l is =
    let all = subst (λ (cs : List Cell). All (IsWhole (length nodes) t.w t.a) cs) (sym e) (cells-whole nodes t.w t.a 0 t.cells o.cells) in
    let h = subst (IsWhole (length nodes) t.w t.a) (sym is) (all i d l) in
    (sym h.word_wide, sym h.address_wide)

pub other_cells : (nodes later : List Node) (most : ℕ) (t : View) (slice : List Cell) (i k : ℕ) (w a : ℕ) → IsOver nodes t → slice ≡ t.cells → AddsNodes nodes later most → t.w ≡ w → t.a ≡ a →
    All (IsWhole (length later) w a) (take k (drop (i + 1) slice))
other_cells nodes later most t slice i k w a o e g ew ea =
    let all = subst (λ (cs : List Cell). All (IsWhole (length nodes) t.w t.a) cs) (sym e) (cells-whole nodes t.w t.a 0 t.cells o.cells) in
    let all_later = all-whole-later nodes later most t.w t.a slice g all in
    let some = All-take (IsWhole (length later) t.w t.a) k (drop (i + 1) slice) (All-drop (IsWhole (length later) t.w t.a) (i + 1) slice all_later) in
    let wide = subst (λ n. All (IsWhole (length later) n t.a) (take k (drop (i + 1) slice))) ew some in
    subst (λ n. All (IsWhole (length later) w n) (take k (drop (i + 1) slice))) ea wide

-- ---- rounds over all cells

pub begin : (nodes : List Node) (each : ℕ) (slice : List Cell) (so_far : Gate) → 0 < length nodes → so_far ≡ constant_gate true → Folded nodes (consistent_made nodes slice) each 0 so_far nodes (pairs_made nodes so_far slice)
unfolding consistent_made
begin nodes each slice so_far h e = record {
  made = ap (λ g. pairs_made nodes g slice) e;
  kept = no_round nodes each;
  there = let z : so_far.number ≡ 0 = ap (λ (g : Gate). g.number) e in omega arith;
}

pub row_kept : (nodes new : List Node) (t : View) (slice : List Cell) (i k w a : ℕ) → slice ≡ t.cells → t.w ≡ w → t.a ≡ a → AddsNodes nodes new (length (take k (drop (i + 1) slice)) * each_pair w a) →
    AddsNodes nodes new (length t.cells * each_pair t.w t.a)
row_kept nodes new t slice i k w a e ew ea g =
    let h1 = subst (λ n. AddsNodes nodes new (length (take k (drop (i + 1) slice)) * each_pair n a)) (sym ew) g in
    let h2 = subst (λ n. AddsNodes nodes new (length (take k (drop (i + 1) slice)) * each_pair t.w n)) (sym ea) h1 in
    let same : length slice ≡ length t.cells = ap length e in
    let fewer : length (take k (drop (i + 1) slice)) ≤ length t.cells = omega (arith, length-take k (drop (i + 1) slice), length-drop (i + 1) slice) in
    adds_rounds nodes new (length (take k (drop (i + 1) slice))) (length t.cells) (each_pair t.w t.a) h2 fewer

-- one more row, whether or not it came to its end
pub rows_kept : (old nodes new : List Node) (n each i : ℕ) → AddsNodes old nodes (i * each) → AddsNodes nodes new each → i < n → AddsNodes old new (n * each)
rows_kept old nodes new n each i h g l = adds_rounds old new (i + 1) n each (adds_next old nodes new i each h g) (omega arith)

pub few_kept : (old new : List Node) (t : View) → IsOver old t → AddsNodes old new (length t.cells * (length t.cells * each_pair t.w t.a)) → length t.cells ≤ 256 → AddsNodes old new (2 ^ 24)
few_kept old new t o h l =
    let most = o.word_width.most in
    let address = o.address_most in
    let e : each_pair t.w t.a ≤ 194 = omega arith in
    let row : length t.cells * each_pair t.w t.a ≤ 256 * 194 = mul-le (length t.cells) (each_pair t.w t.a) 256 194 l e in
    let all : length t.cells * (length t.cells * each_pair t.w t.a) ≤ 256 * (256 * 194) = mul-le (length t.cells) (length t.cells * each_pair t.w t.a) 256 (256 * 194) l row in
    adds_more old new (length t.cells * (length t.cells * each_pair t.w t.a)) (2 ^ 24) h (omega arith)

pub told : (old new : List Node) (t : View) (gate : Gate) → IsCircuit old → IsOver old t → (gate, new) ≡ consistent_made old t.cells → TellsConsistent new t.w t.a t.cells gate
told old new t gate h o e =
    subst (λ (k : Gate × List Node). TellsConsistent k.1 t.w t.a t.cells k.0) (sym e) (tells t.cells old t.w t.a h (cells-whole old t.w t.a 0 t.cells o.cells))

pub in_cells : (t : View) (slice : List Cell) (i : ℕ) → slice ≡ t.cells → i < length slice → i < length t.cells
in_cells t slice i e l = subst (λ (cs : List Cell). i < length cs) e l
