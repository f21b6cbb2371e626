-- What loops over bits keep.
use Rattle.std.proofs.Common.{◌≡◌, ℕ, ◌+◌, ◌*◌, ◌<◌, ◌≤◌, false, List, [], ◌∷◌, ◌++◌, length, take, drop, get_or, sym, ap, ◌∙◌, subst, append_assoc}
use Rattle.std.proofs.lemmas.List.{drop_more, drop_all, append-nil, length_push, length-replicate}
use Rattle.std.proofs.Math.Nat.{zero-mul}
use Rattle.std.proofs.lemmas.List.Elements.{All-nil, All-push}
use Rattle.pg_circuit.specs.declared.node.Gate.{Gate}
use Rattle.pg_circuit.specs.declared.node.Node.{Node}
use Rattle.pg_circuit.specs.Values.{IsThere}
use Rattle.pg_circuit.specs.Made.{constant_gate, not_gate, and_made, xor_made}
use Rattle.pg_vec.specs.There.{AreThere}
use Rattle.pg_vec.specs.Gates.{or_made, choice_made, carry_made}
use Rattle.pg_vec.specs.declared.shift.Direction.{Direction}
use Rattle.pg_vec.specs.declared.shift.Direction.TheVariants.{Up, Down}
use Rattle.pg_vec.specs.Direction.{move_of}
use Rattle.pg_vec.proofs.Strings.{length-moved_up, length-moved_down, moved_up-there, moved_down-there, zeros-there}
use Rattle.pg_vec.specs.Strings.{zeros, shift_made, moved_up, carry_into_made, each_made, sum_made, add_made, carry_out_made, same_made, any_made, mux_made, stages_made, row_made, rows_made, mul_made}
use Rattle.pg_vec.specs.AddsNodes.{AddsNodes}
use Rattle.pg_vec.proofs.Kept.{adds_none, adds_next, all_there_later}

-- a bit of a string
abbrev pub bit_at : List Gate → ℕ → Gate
bit_at xs i = get_or xs i (constant_gate false)

-- what is left of a string
pub rest_of : (xs : List Gate) (i : ℕ) → i < length xs → drop i xs ≡ bit_at xs i ∷ drop (i + 1) xs
rest_of xs i l = drop_more xs i (constant_gate false) l

-- before the first round
pub no_round : (nodes : List Node) (each : ℕ) → AddsNodes nodes nodes (0 * each)
no_round nodes each = subst (λ n. AddsNodes nodes nodes n) (sym (zero-mul each)) (adds_none nodes)

-- ---- strings that grow bit by bit

abbrev pub with_front : List Gate → List Gate × List Node → List Gate × List Node
with_front front made = (front ++ made.0, made.1)

-- so many bits were made, and with what is made of the rest they are what is due
pub record Built (old : List Node) (due : List Gate × List Node) (each count : ℕ) (bits : List Gate) (nodes : List Node) (rest : List Gate × List Node) : Type 0 where
  pub made : with_front bits rest ≡ due
  pub kept : AddsNodes old nodes (count * each)
  pub there : AreThere (length nodes) bits
  pub wide : length bits ≡ count

pub built_begin : (old : List Node) (due : List Gate × List Node) (each : ℕ) (bits : List Gate) → bits ≡ [] → Built old due each 0 bits old due
built_begin old due each bits e = record {
  made = ap (λ gs. with_front gs due) e;
  kept = no_round old each;
  there = subst (AreThere (length old)) (sym e) (All-nil (IsThere (length old)));
  wide = ap length e;
}

pub built_next : (old : List Node) (due : List Gate × List Node) (each count : ℕ) (bits : List Gate) (nodes : List Node) (rest : List Gate × List Node) (bit : Gate) (new : List Node) (left : List Gate × List Node) →
    Built old due each count bits nodes rest → AddsNodes nodes new each → bit.number < length new → with_front (bit ∷ []) left ≡ rest →
    Built old due each (count + 1) (bits ++ bit ∷ []) new left
built_next old due each count bits nodes rest bit new left b f t e = record {
  made = ap (λ gs. (gs, left.1)) (append_assoc bits (bit ∷ []) left.0) ∙ ap (with_front bits) e ∙ b.made;
  kept = adds_next old nodes new count each b.kept f;
  there = All-push (IsThere (length new)) bits bit (all_there_later nodes new bits f.front b.there) t;
  wide = length_push bits bit ∙ ap (λ n. n + 1) b.wide;
}

pub built_all : (old : List Node) (due : List Gate × List Node) (each count : ℕ) (bits : List Gate) (nodes : List Node) (rest : List Gate × List Node) →
    Built old due each count bits nodes rest → rest ≡ ([], nodes) → (bits, nodes) ≡ due
built_all old due each count bits nodes rest b e = sym (ap (with_front bits) e ∙ ap (λ gs. (gs, nodes)) (append-nil bits)) ∙ b.made

-- bit by bit
pub each_none : (make : List Node → Gate → Gate → Gate × List Node) (nodes : List Node) (xs ys : List Gate) (i : ℕ) → length xs ≤ i → each_made make nodes (drop i xs) (drop i ys) ≡ ([], nodes)
unfolding each_made
each_none make nodes xs ys i l = ap (λ zs. each_made make nodes zs (drop i ys)) (drop_all i xs l)

pub each_next : (make : List Node → Gate → Gate → Gate × List Node) (nodes : List Node) (xs ys : List Gate) (i : ℕ) (bit : Gate) (new : List Node) →
    i < length xs → i < length ys → (bit, new) ≡ make nodes (bit_at xs i) (bit_at ys i) →
    with_front (bit ∷ []) (each_made make new (drop (i + 1) xs) (drop (i + 1) ys)) ≡ each_made make nodes (drop i xs) (drop i ys)
unfolding each_made
each_next make nodes xs ys i bit new lx ly e =
    let x = bit_at xs i in
    let y = bit_at ys i in
    ap (λ (m : Gate × List Node). with_front (m.0 ∷ []) (each_made make m.1 (drop (i + 1) xs) (drop (i + 1) ys))) e
    ∙ ap (λ zs. each_made make nodes zs (y ∷ drop (i + 1) ys)) (sym (rest_of xs i lx))
    ∙ ap (λ zs. each_made make nodes (drop i xs) zs) (sym (rest_of ys i ly))

-- sums
pub sum_none : (nodes : List Node) (carry : Gate) (xs ys : List Gate) (i : ℕ) → length xs ≤ i → sum_made nodes carry (drop i xs) (drop i ys) ≡ ([], nodes)
unfolding sum_made
sum_none nodes carry xs ys i l = ap (λ zs. sum_made nodes carry zs (drop i ys)) (drop_all i xs l)

pub sum_next : (nodes : List Node) (carry : Gate) (xs ys : List Gate) (i : ℕ) (half bit next : Gate) (n m new : List Node) →
    i < length xs → i < length ys →
    (half, n) ≡ xor_made nodes (bit_at xs i) (bit_at ys i) → (bit, m) ≡ xor_made n half carry → (next, new) ≡ carry_into_made (drop (i + 1) xs) m (bit_at xs i) (bit_at ys i) half carry →
    with_front (bit ∷ []) (sum_made new next (drop (i + 1) xs) (drop (i + 1) ys)) ≡ sum_made nodes carry (drop i xs) (drop i ys)
unfolding sum_made
sum_next nodes carry xs ys i half bit next n m new lx ly e1 e2 e3 =
    let x = bit_at xs i in
    let y = bit_at ys i in
    let us = drop (i + 1) xs in
    let vs = drop (i + 1) ys in
    ap (λ (k : Gate × List Node). with_front (bit ∷ []) (sum_made k.1 k.0 us vs)) e3
    ∙ ap (λ (k : Gate × List Node). let q = carry_into_made us k.1 x y half carry in with_front (k.0 ∷ []) (sum_made q.1 q.0 us vs)) e2
    ∙ ap (λ (k : Gate × List Node). let p = xor_made k.1 k.0 carry in let q = carry_into_made us p.1 x y k.0 carry in with_front (p.0 ∷ []) (sum_made q.1 q.0 us vs)) e1
    ∙ ap (λ zs. sum_made nodes carry zs (y ∷ vs)) (sym (rest_of xs i lx))
    ∙ ap (λ zs. sum_made nodes carry (drop i xs) zs) (sym (rest_of ys i ly))

-- ---- gates that gather bits

-- a gate was made, and with what is made of the rest it is what is due
pub record Folded (old : List Node) (due : Gate × List Node) (each count : ℕ) (gate : Gate) (nodes : List Node) (rest : Gate × List Node) : Type 0 where
  pub made : rest ≡ due
  pub kept : AddsNodes old nodes (count * each)
  pub there : gate.number < length nodes

pub folded_next : (old : List Node) (due : Gate × List Node) (each count : ℕ) (gate : Gate) (nodes : List Node) (rest : Gate × List Node) (next : Gate) (new : List Node) (left : Gate × List Node) →
    Folded old due each count gate nodes rest → AddsNodes nodes new each → next.number < length new → left ≡ rest → Folded old due each (count + 1) next new left
folded_next old due each count gate nodes rest next new left b f t e = record { made = e ∙ b.made; kept = adds_next old nodes new count each b.kept f; there = t }

pub folded_all : (old : List Node) (due : Gate × List Node) (each count : ℕ) (gate : Gate) (nodes : List Node) (rest : Gate × List Node) → Folded old due each count gate nodes rest → rest ≡ (gate, nodes) → (gate, nodes) ≡ due
folded_all old due each count gate nodes rest b e = sym e ∙ b.made

-- the carry out
pub carry_out_none : (nodes : List Node) (carry : Gate) (xs ys : List Gate) (i : ℕ) → length xs ≤ i → carry_out_made nodes carry (drop i xs) (drop i ys) ≡ (carry, nodes)
unfolding carry_out_made
carry_out_none nodes carry xs ys i l = ap (λ zs. carry_out_made nodes carry zs (drop i ys)) (drop_all i xs l)

pub carry_out_next : (nodes : List Node) (carry : Gate) (xs ys : List Gate) (i : ℕ) (half next : Gate) (n new : List Node) →
    i < length xs → i < length ys →
    (half, n) ≡ xor_made nodes (bit_at xs i) (bit_at ys i) → (next, new) ≡ carry_made n (bit_at xs i) (bit_at ys i) half carry →
    carry_out_made new next (drop (i + 1) xs) (drop (i + 1) ys) ≡ carry_out_made nodes carry (drop i xs) (drop i ys)
unfolding carry_out_made
carry_out_next nodes carry xs ys i half next n new lx ly e1 e2 =
    let x = bit_at xs i in
    let y = bit_at ys i in
    let us = drop (i + 1) xs in
    let vs = drop (i + 1) ys in
    ap (λ (k : Gate × List Node). carry_out_made k.1 k.0 us vs) e2
    ∙ ap (λ (k : Gate × List Node). let q = carry_made k.1 x y k.0 carry in carry_out_made q.1 q.0 us vs) e1
    ∙ ap (λ zs. carry_out_made nodes carry zs (y ∷ vs)) (sym (rest_of xs i lx))
    ∙ ap (λ zs. carry_out_made nodes carry (drop i xs) zs) (sym (rest_of ys i ly))

-- the same bits
pub same_none : (nodes : List Node) (so_far : Gate) (xs ys : List Gate) (i : ℕ) → length xs ≤ i → same_made nodes so_far (drop i xs) (drop i ys) ≡ (so_far, nodes)
unfolding same_made
same_none nodes so_far xs ys i l = ap (λ zs. same_made nodes so_far zs (drop i ys)) (drop_all i xs l)

pub same_next : (nodes : List Node) (so_far : Gate) (xs ys : List Gate) (i : ℕ) (apart together next : Gate) (n new : List Node) →
    i < length xs → i < length ys →
    (apart, n) ≡ xor_made nodes (bit_at xs i) (bit_at ys i) → together ≡ not_gate apart → (next, new) ≡ and_made n so_far together →
    same_made new next (drop (i + 1) xs) (drop (i + 1) ys) ≡ same_made nodes so_far (drop i xs) (drop i ys)
unfolding same_made
same_next nodes so_far xs ys i apart together next n new lx ly e1 en e2 =
    let x = bit_at xs i in
    let y = bit_at ys i in
    let us = drop (i + 1) xs in
    let vs = drop (i + 1) ys in
    ap (λ (k : Gate × List Node). same_made k.1 k.0 us vs) (e2 ∙ ap (λ g. and_made n so_far g) en)
    ∙ ap (λ (k : Gate × List Node). let q = and_made k.1 so_far (not_gate k.0) in same_made q.1 q.0 us vs) e1
    ∙ ap (λ zs. same_made nodes so_far zs (y ∷ vs)) (sym (rest_of xs i lx))
    ∙ ap (λ zs. same_made nodes so_far (drop i xs) zs) (sym (rest_of ys i ly))

-- any of the bits
pub any_none : (nodes : List Node) (so_far : Gate) (xs : List Gate) (i : ℕ) → length xs ≤ i → any_made nodes so_far (drop i xs) ≡ (so_far, nodes)
unfolding any_made
any_none nodes so_far xs i l = ap (λ zs. any_made nodes so_far zs) (drop_all i xs l)

pub any_next : (nodes : List Node) (so_far : Gate) (xs : List Gate) (i : ℕ) (next : Gate) (new : List Node) → i < length xs → (next, new) ≡ or_made nodes so_far (bit_at xs i) →
    any_made new next (drop (i + 1) xs) ≡ any_made nodes so_far (drop i xs)
unfolding any_made
any_next nodes so_far xs i next new l e =
    ap (λ (k : Gate × List Node). any_made k.1 k.0 (drop (i + 1) xs)) e ∙ ap (λ zs. any_made nodes so_far zs) (sym (rest_of xs i l))

-- ---- strings that are made anew in stages

-- a string was made, and with what is made of the rest it is what is due
pub record Staged (old : List Node) (due : List Gate × List Node) (each count width : ℕ) (bits : List Gate) (nodes : List Node) (rest : List Gate × List Node) : Type 0 where
  pub made : rest ≡ due
  pub kept : AddsNodes old nodes (count * each)
  pub there : AreThere (length nodes) bits
  pub wide : length bits ≡ width

pub staged_next : (old : List Node) (due : List Gate × List Node) (each count width : ℕ) (bits : List Gate) (nodes : List Node) (rest : List Gate × List Node) (next : List Gate) (new : List Node) (left : List Gate × List Node) →
    Staged old due each count width bits nodes rest → AddsNodes nodes new each → AreThere (length new) next → length next ≡ width → left ≡ rest → Staged old due each (count + 1) width next new left
staged_next old due each count width bits nodes rest next new left b f t w e = record { made = e ∙ b.made; kept = adds_next old nodes new count each b.kept f; there = t; wide = w }

pub staged_all : (old : List Node) (due : List Gate × List Node) (each count width : ℕ) (bits : List Gate) (nodes : List Node) (rest : List Gate × List Node) → Staged old due each count width bits nodes rest → rest ≡ (bits, nodes) → (bits, nodes) ≡ due
staged_all old due each count width bits nodes rest b e = sym e ∙ b.made

-- shifts
pub stages_begin : (move : ℕ → List Gate → List Gate) (nodes : List Node) (each : ℕ) (xs ys bits : List Gate) → AreThere (length nodes) xs → bits ≡ xs →
    Staged nodes (stages_made move nodes 1 xs ys) each 0 (length xs) bits nodes (stages_made move nodes 1 bits ys)
stages_begin move nodes each xs ys bits t e = record {
  made = ap (λ zs. stages_made move nodes 1 zs ys) e;
  kept = no_round nodes each;
  there = subst (AreThere (length nodes)) (sym e) t;
  wide = ap length e;
}

pub stages_none : (move : ℕ → List Gate → List Gate) (nodes : List Node) (step : ℕ) (xs ys : List Gate) (i : ℕ) → length ys ≤ i → stages_made move nodes step xs (drop i ys) ≡ (xs, nodes)
unfolding stages_made
stages_none move nodes step xs ys i l = ap (λ zs. stages_made move nodes step xs zs) (drop_all i ys l)

pub stages_next : (move : ℕ → List Gate → List Gate) (nodes : List Node) (step : ℕ) (xs ys : List Gate) (i : ℕ) (moved far near next : List Gate) (new : List Node) → i < length ys →
    moved ≡ move step xs → far ≡ moved → near ≡ xs → (next, new) ≡ each_made (choice_made (bit_at ys i)) nodes far near →
    stages_made move new (step * 2) next (drop (i + 1) ys) ≡ stages_made move nodes step xs (drop i ys)
unfolding stages_made mux_made
stages_next move nodes step xs ys i moved far near next new l em ef en e =
    ap (λ (k : List Gate × List Node). stages_made move k.1 (step * 2) k.0 (drop (i + 1) ys))
    (e ∙ ap (λ zs. each_made (choice_made (bit_at ys i)) nodes zs near) (ef ∙ em) ∙ ap (λ zs. each_made (choice_made (bit_at ys i)) nodes (move step xs) zs) en)
    ∙ ap (λ zs. stages_made move nodes step xs zs) (sym (rest_of ys i l))

-- rows
pub row_none : (nodes : List Node) (y : Gate) (xs : List Gate) (i : ℕ) → length xs ≤ i → row_made nodes y (drop i xs) ≡ ([], nodes)
unfolding row_made
row_none nodes y xs i l = ap (λ zs. row_made nodes y zs) (drop_all i xs l)

pub row_next : (nodes : List Node) (y : Gate) (xs : List Gate) (i : ℕ) (bit : Gate) (new : List Node) → i < length xs → (bit, new) ≡ and_made nodes y (bit_at xs i) →
    with_front (bit ∷ []) (row_made new y (drop (i + 1) xs)) ≡ row_made nodes y (drop i xs)
unfolding row_made
row_next nodes y xs i bit new l e =
    ap (λ (k : Gate × List Node). with_front (k.0 ∷ []) (row_made k.1 y (drop (i + 1) xs))) e ∙ ap (λ zs. row_made nodes y zs) (sym (rest_of xs i l))

pub rows_begin : (nodes : List Node) (each : ℕ) (xs ys sum moved : List Gate) → 0 < length nodes → sum ≡ zeros (length xs) → moved ≡ xs →
    Staged nodes (mul_made nodes xs ys) each 0 (length xs) sum nodes (rows_made nodes sum moved ys)
unfolding mul_made
rows_begin nodes each xs ys sum moved h e em = record {
  made = ap (λ zs. rows_made nodes zs moved ys) e ∙ ap (λ zs. rows_made nodes (zeros (length xs)) zs ys) em;
  kept = no_round nodes each;
  there = subst (AreThere (length nodes)) (sym e) (zeros-there (length nodes) (length xs) h);
  wide = ap length e ∙ length-replicate (length xs) (constant_gate false);
}

pub rows_none : (nodes : List Node) (sum xs ys : List Gate) (i : ℕ) → length ys ≤ i → rows_made nodes sum xs (drop i ys) ≡ (sum, nodes)
unfolding rows_made
rows_none nodes sum xs ys i l = ap (λ zs. rows_made nodes sum xs zs) (drop_all i ys l)

pub rows_next : (nodes : List Node) (sum xs ys : List Gate) (i : ℕ) (zero : Gate) (at row so_far addend total moved : List Gate) (n new : List Node) → i < length ys → zero ≡ constant_gate false →
    at ≡ xs → (row, n) ≡ row_made nodes (bit_at ys i) at → so_far ≡ sum → addend ≡ row → (total, new) ≡ sum_made n zero so_far addend → moved ≡ moved_up 1 xs →
    rows_made new total moved (drop (i + 1) ys) ≡ rows_made nodes sum xs (drop i ys)
unfolding rows_made add_made
rows_next nodes sum xs ys i zero at row so_far addend total moved n new l ez ea e1 es er e2 em =
    let vs = drop (i + 1) ys in
    ap (λ zs. rows_made new total zs vs) em
    ∙ ap (λ (k : List Gate × List Node). rows_made k.1 k.0 (moved_up 1 xs) vs) (e2 ∙ ap (λ z. sum_made n z so_far addend) ez ∙ ap (λ z. sum_made n (constant_gate false) z addend) es ∙ ap (λ z. sum_made n (constant_gate false) sum z) er)
    ∙ ap (λ (k : List Gate × List Node). let q = sum_made k.1 (constant_gate false) sum k.0 in rows_made q.1 q.0 (moved_up 1 xs) vs) (e1 ∙ ap (λ zs. row_made nodes (bit_at ys i) zs) ea)
    ∙ ap (λ zs. rows_made nodes sum xs zs) (sym (rest_of ys i l))

-- the moves keep width, and what is there
pub moved_wide : (way : Direction) (k : ℕ) (xs : List Gate) → length (move_of way k xs) ≡ length xs
moved_wide Up k xs = length-moved_up k xs
moved_wide Down k xs = length-moved_down k xs

pub moved_there : (way : Direction) (places k : ℕ) (xs : List Gate) → 0 < places → AreThere places xs → AreThere places (move_of way k xs)
moved_there Up places k xs h t = moved_up-there places k xs h t
moved_there Down places k xs h t = moved_down-there places k xs h t

-- a shift, from its three parts
pub shift_parts : (move : ℕ → List Gate → List Gate) (nodes : List Node) (xs ys low high bits near zeros' : List Gate) (far : Gate) (n m : List Node) →
    low ≡ take 6 ys → high ≡ drop 6 ys → (bits, n) ≡ stages_made move nodes 1 xs low → (far, m) ≡ any_made n (constant_gate false) high →
    zeros' ≡ zeros (length xs) → near ≡ bits → each_made (choice_made far) m zeros' near ≡ shift_made move nodes xs ys
unfolding shift_made mux_made
shift_parts move nodes xs ys low high bits near zeros' far n m el eh e1 e2 ez en =
    let rest : List Gate × List Node → List Gate × List Node = λ k. let q = any_made k.1 (constant_gate false) (drop 6 ys) in each_made (choice_made q.0) q.1 (zeros (length xs)) k.0 in
    ap (λ zs. each_made (choice_made far) m zs near) ez
    ∙ ap (λ zs. each_made (choice_made far) m (zeros (length xs)) zs) en
    ∙ ap (λ (k : Gate × List Node). each_made (choice_made k.0) k.1 (zeros (length xs)) bits) (e2 ∙ ap (λ zs. any_made n (constant_gate false) zs) eh)
    ∙ ap rest (e1 ∙ ap (λ zs. stages_made move nodes 1 xs zs) el)
