-- Numbers under an assignment, bit by bit from the highest.
use Rattle.std.proofs.Common.{◌≡◌, ℕ, ◌+◌, ◌-◌, ◌*◌, ◌^◌, ◌<◌, ◌≤◌, Bool, false, List, [], ◌∷◌, ◌++◌, length, drop, get_or, refl, sym, ap, ◌∙◌, subst, arith, append_assoc, append-nil, pow_mono}
use Rattle.std.specs.Prelude.{if◌then◌else◌}
use Rattle.std.proofs.lemmas.List.{drop_more, drop_all, length-drop}
use Rattle.pg_circuit.specs.declared.node.Gate.{Gate}
use Rattle.pg_circuit.specs.Values.{gate_value}
use Rattle.pg_circuit.specs.Made.{constant_gate}
use Rattle.pg_vec.specs.Number.{number, bit_of}
use Rattle.pg_vec.proofs.Sums.{bit_of-if}
use Rattle.pg_vec.proofs.EachLaws.{number-below}
use Rattle.pg_cells.specs.declared.cell.Cell.{Cell}
use Rattle.pg_ask.specs.Means.{named_cells}

pub number_none : (values : List Bool) (gs : List Gate) → 0 ≡ number values (drop (length gs - 0) gs)
number_none values gs = ap (number values) (sym (drop_all (length gs - 0) gs (omega arith)))

pub number_next : (values : List Bool) (gs : List Gate) (k n i : ℕ) (g : Gate) (b : Bool) (x : ℕ) → n ≡ number values (drop (length gs - k) gs) → k < length gs → i ≡ length gs - 1 - k → g ≡ get_or gs i (constant_gate false) → b ≡ gate_value values g → x ≡ (if b then 1 else 0) →
    n * 2 + x ≡ number values (drop (length gs - (k + 1)) gs)
number_next values gs k n i g b x e l ei eg eb ex =
    let at = length gs - (k + 1) in
    let here : drop at gs ≡ get_or gs at (constant_gate false) ∷ drop (at + 1) gs = drop_more gs at (constant_gate false) (omega arith) in
    let next : at + 1 ≡ length gs - k = omega arith in
    let place : i ≡ at = omega arith in
    let bit : x ≡ bit_of (gate_value values (get_or gs at (constant_gate false))) = ex ∙ sym (bit_of-if b) ∙ ap bit_of (eb ∙ ap (gate_value values) (eg ∙ ap (λ j. get_or gs j (constant_gate false)) place)) in
    ap (λ m. m * 2 + x) (e ∙ ap (λ j. number values (drop j gs)) (sym next)) ∙ ap (λ m. number values (drop (at + 1) gs) * 2 + m) bit ∙ ap (number values) (sym here)

pub number_room : (values : List Bool) (gs : List Gate) (k n : ℕ) → n ≡ number values (drop (length gs - k) gs) → k < length gs → length gs ≤ 64 → n * 2 + 1 < 2 ^ 64
number_room values gs k n e l w =
    let b = number-below values (drop (length gs - k) gs) in
    let size : length (drop (length gs - k) gs) ≡ k = omega (arith, length-drop (length gs - k) gs) in
    let below : n < 2 ^ k = subst (λ m. n < 2 ^ m) size (subst (λ m. m < 2 ^ length (drop (length gs - k) gs)) (sym e) b) in
    let most : 2 ^ k ≤ 2 ^ 63 = pow_mono (let q : k ≤ 63 = omega arith in q) in
    omega (arith, below, most)

pub number_all : (values : List Bool) (gs : List Gate) (k n : ℕ) → n ≡ number values (drop (length gs - k) gs) → length gs ≤ k → n ≡ number values gs
number_all values gs k n e l = e ∙ ap (λ j. number values (drop j gs)) (let z : length gs - k ≡ 0 = omega arith in z)

pub number_fits : (values : List Bool) (gs : List Gate) (n : ℕ) → n ≡ number values gs → length gs ≤ 32 → n < 2 ^ 32
number_fits values gs n e w = let b = number-below values gs in let m = pow_mono w in omega (arith, e, b, m)

-- ---- cells

pub named_none : (values : List Bool) (cells : List Cell) → [] ++ named_cells values (drop 0 cells) ≡ named_cells values cells
named_none values cells = refl

pub named_next : (values : List Bool) (cells : List Cell) (i : ℕ) (c : Cell) (all : List (ℕ × ℕ)) (at word : ℕ) → all ++ named_cells values (drop i cells) ≡ named_cells values cells → i < length cells → c ≡ get_or cells i c → at ≡ number values c.address → word ≡ number values c.word →
    (all ++ (at, word) ∷ []) ++ named_cells values (drop (i + 1) cells) ≡ named_cells values cells
named_next values cells i c all at word e l ec ea ew =
    let rest = named_cells values (drop (i + 1) cells) in
    append_assoc all ((at, word) ∷ []) rest
    ∙ ap (λ z. all ++ (z, word) ∷ rest) ea ∙ ap (λ z. all ++ (number values c.address, z) ∷ rest) ew
    ∙ ap (λ (d : Cell). all ++ (number values d.address, number values d.word) ∷ rest) ec
    ∙ ap (λ cs. all ++ named_cells values cs) (sym (drop_more cells i c l))
    ∙ e

pub named_all : (values : List Bool) (cells : List Cell) (i : ℕ) (all : List (ℕ × ℕ)) → all ++ named_cells values (drop i cells) ≡ named_cells values cells → length cells ≤ i → all ≡ named_cells values cells
named_all values cells i all e l = sym (append-nil all) ∙ ap (λ cs. all ++ named_cells values cs) (sym (drop_all i cells l)) ∙ e
