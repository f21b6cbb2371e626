-- Inputs under which cells have the words of a storage: they are set cell by cell, in order.
use Rattle.std.proofs.Common.{◌≡◌, ℕ, zero, suc, ◌+◌, ◌-◌, ◌*◌, ◌/◌, ◌%◌, ◌^◌, ◌<◌, ◌≤◌, inl, inr, Bool, true, false, nat_eq, List, [], ◌∷◌, ◌++◌, length, take, get_or, set, slice_get, Some, refl, sym, ap, ◌∙◌, subst, arith, zero-add}
use Rattle.std.proofs.lemmas.Bool.{eqb-true, eqb-false, cases_lt}
use Rattle.std.proofs.lemmas.Nat.{mod_below, div-add-mod'}
use Rattle.std.proofs.lemmas.List.{length-set, length-take-le, take-take, get_or-set_same, get_or-set_other, get_or-take}
use Rattle.std.proofs.lemmas.List.Elements.{All-nil, All-cons, All-head, All-tail, All-get_or, All-weaker}
use Rattle.pg_circuit.specs.declared.node.Gate.{Gate}
use Rattle.pg_circuit.specs.declared.node.Node.{Node}
use Rattle.pg_circuit.specs.declared.node.Node.TheVariants.{Constant, Input, And, Xor}
use Rattle.pg_circuit.specs.Nodes.{inputs_at, input_count, IsNext, IsAfter, IsCircuit}
use Rattle.pg_circuit.specs.Values.{differ, gate_value, node_value, values_after, values_of, IsThere}
use Rattle.pg_circuit.specs.Made.{gate_at}
use Rattle.pg_circuit.proofs.CircuitLemmas.{input_count-append}
use Rattle.pg_circuit.proofs.ValueLemmas.{value_at}
use Rattle.pg_circuit.proofs.MadeLemmas.{values_of-front, differ_false}
use Rattle.pg_vec.specs.Number.{bit_of, number}
use Rattle.pg_vec.specs.There.{AreThere}
use Rattle.pg_vec.proofs.Sums.{pow-more}
use Rattle.pg_vec.proofs.EachLaws.{number-below}
use Rattle.pg_cells.specs.declared.cell.Cell.{Cell}
use Rattle.pg_cells.specs.Storage.{IsStorage, Agrees}
use Rattle.pg_cells.specs.Cells.{known_of, known_cells}
use Rattle.pg_cells.specs.Over.{gates_from, place_of, first_input, IsCell, AreCells, IsInputOf}
use Rattle.pg_cells.specs.Means.{HasInputs}

-- ---- bits of a number

abbrev pub bits_of : ℕ → ℕ → List Bool
bits_of zero x = []
bits_of (suc w) x = nat_eq (x % 2) 1 ∷ bits_of w (x / 2)

length-bits_of : (w x : ℕ) → length (bits_of w x) ≡ w
length-bits_of zero x = refl
length-bits_of (suc w) x = ap (λ n. suc n) (length-bits_of w (x / 2))

bit_of-odd : (r : ℕ) (b : Bool) → r < 2 → nat_eq r 1 ≡ b → bit_of b ≡ r
bit_of-odd r true l e = sym (eqb-true r 1 e)
bit_of-odd r false l e = let n = eqb-false r 1 e in omega arith

-- gates of nodes one after another, which have the bits of a number as values
number-gates_from : (w : ℕ) (values : List Bool) (k x : ℕ) → x < 2 ^ w → ((i : ℕ) → i < w → get_or values (k + i) false ≡ get_or (bits_of w x) i false) → number values (gates_from k w) ≡ x
number-gates_from zero values k x l h = omega arith
number-gates_from (suc w) values k x l h =
    let half : x / 2 < 2 ^ w = omega (arith, pow-more w, div-add-mod' x 2, mod_below x 2 (omega arith)) in
    let rest = number-gates_from w values (k + 1) (x / 2) half (λ i li. let e : k + 1 + i ≡ k + suc i = omega arith in ap (λ n. get_or values n false) e ∙ h (suc i) (omega arith)) in
    let here : gate_value values (gate_at k) ≡ nat_eq (x % 2) 1 =
    differ_false (get_or values k false) ∙ ap (λ n. get_or values n false) (omega arith) ∙ h 0 (omega arith) in
    let low : bit_of (gate_value values (gate_at k)) ≡ x % 2 = ap bit_of here ∙ bit_of-odd (x % 2) (nat_eq (x % 2) 1) (mod_below x 2 (omega arith)) refl in
    omega (arith, rest, low, div-add-mod' x 2)

-- ---- inputs among nodes

pub input_value : (inputs : List Bool) (nodes : List Node) (p m : ℕ) → IsCircuit nodes → slice_get nodes p ≡ Some (Input m) → get_or (values_of inputs nodes) p false ≡ get_or inputs m false
input_value inputs nodes p m h at = ap (λ k. get_or (values_of inputs nodes) k false) (sym (zero-add p)) ∙ value_at inputs [] [] nodes h.in_order refl p (Input m) at

input_below : (before ns : List Node) (k m : ℕ) → IsAfter before ns → slice_get ns k ≡ Some (Input m) → m < input_count before + input_count ns
input_below before [] k m h at = cc
input_below before (n ∷ ns) zero m h at =
    let e : n ≡ Input m = cc in
    let next = subst (λ q. IsNext before q) e h.0 in
    omega (arith, next.1, ap inputs_at e)
input_below before (n ∷ ns) (suc k) m h at =
    omega (arith, input_below (before ++ n ∷ []) ns k m h.1 at, input_count-append before (n ∷ []))

-- ---- values that do not depend on later inputs

same_node_value : (xs ys before : List Bool) (bn : List Node) (n : Node) → IsNext bn n → ((m : ℕ) → m < input_count bn + inputs_at n → get_or xs m false ≡ get_or ys m false) →
    node_value xs before n ≡ node_value ys before n
same_node_value xs ys before bn Constant h e = refl
same_node_value xs ys before bn (Input m) h e = e m (omega (arith, h.1))
same_node_value xs ys before bn (And x y) h e = refl
same_node_value xs ys before bn (Xor x y) h e = refl

same_values : (xs ys before : List Bool) (bn ns : List Node) → IsAfter bn ns → ((m : ℕ) → m < input_count bn + input_count ns → get_or xs m false ≡ get_or ys m false) →
    values_after xs before ns ≡ values_after ys before ns
same_values xs ys before bn [] h e = refl
same_values xs ys before bn (n ∷ ns) h e =
    ap (λ b. values_after xs (before ++ b ∷ []) ns) (same_node_value xs ys before bn n h.0 (λ m l. e m (omega arith)))
    ∙ same_values xs ys (before ++ node_value ys before n ∷ []) (bn ++ n ∷ []) ns h.1 (λ m l. e m (omega (arith, input_count-append bn (n ∷ []))))

IsAfter-take : (before ns : List Node) (k : ℕ) → IsAfter before ns → IsAfter before (take k ns)
IsAfter-take before ns zero h = tt
IsAfter-take before [] (suc k) h = tt
IsAfter-take before (n ∷ ns) (suc k) h = (h.0, IsAfter-take (before ++ n ∷ []) ns k h.1)

front_value : (xs : List Bool) (nodes : List Node) (k : ℕ) → k ≤ length nodes → take k (values_of xs nodes) ≡ values_of xs (take k nodes)
front_value xs nodes k l =
    let e : length (take k nodes) ≡ k = length-take-le k nodes l in
    ap (λ n. take n (values_of xs nodes)) (sym e) ∙ values_of-front xs (take k nodes) nodes (ap (λ n. take n nodes) e)

pub front_values : (xs ys : List Bool) (nodes : List Node) (k : ℕ) → IsCircuit nodes → k ≤ length nodes → ((m : ℕ) → m < input_count (take k nodes) → get_or xs m false ≡ get_or ys m false) →
    take k (values_of xs nodes) ≡ take k (values_of ys nodes)
front_values xs ys nodes k h l e =
    front_value xs nodes k l
    ∙ same_values xs ys [] [] (take k nodes) (IsAfter-take [] nodes k h.in_order) (λ m b. e m (omega arith))
    ∙ sym (front_value ys nodes k l)

shorter : (m n : ℕ) (xs ys : List Bool) → m ≤ n → take n xs ≡ take n ys → take m xs ≡ take m ys
shorter m n xs ys l e = sym (take-take m n xs l) ∙ ap (take m) e ∙ take-take m n ys l

pub number-front : (vs ws : List Bool) (k : ℕ) (gs : List Gate) → AreThere k gs → take k vs ≡ take k ws → number vs gs ≡ number ws gs
number-front vs ws k [] t e = refl
number-front vs ws k (g ∷ gs) t e =
    let l : g.number < k = All-head (IsThere k) g gs t in
    let b : get_or vs g.number false ≡ get_or ws g.number false =
    sym (get_or-take k vs g.number false l) ∙ ap (λ (zs : List Bool). get_or zs g.number false) e ∙ get_or-take k ws g.number false l in
    let h = number-front vs ws k gs (All-tail (IsThere k) g gs t) e in
    ap (λ n. n * 2 + bit_of (gate_value vs g)) h ∙ ap (λ q. number ws gs * 2 + bit_of (differ q g.negated)) b

-- ---- inputs that are set one after another

put_bits : ℕ → List Bool → List Bool → List Bool
put_bits n [] inputs = inputs
put_bits n (b ∷ bits) inputs = put_bits (n + 1) bits (set inputs n b)

length-put_bits : (bits : List Bool) (n : ℕ) (inputs : List Bool) → length (put_bits n bits inputs) ≡ length inputs
unfolding put_bits
length-put_bits [] n inputs = refl
length-put_bits (b ∷ bits) n inputs = length-put_bits bits (n + 1) (set inputs n b) ∙ length-set inputs n b

put_bits-below : (bits : List Bool) (n : ℕ) (inputs : List Bool) (m : ℕ) → m < n → get_or (put_bits n bits inputs) m false ≡ get_or inputs m false
unfolding put_bits
put_bits-below [] n inputs m l = refl
put_bits-below (b ∷ bits) n inputs m l = put_bits-below bits (n + 1) (set inputs n b) m (omega arith) ∙ get_or-set_other inputs n m b false (λ e. omega arith)

put_bits-above : (bits : List Bool) (n : ℕ) (inputs : List Bool) (m : ℕ) → n + length bits ≤ m → get_or (put_bits n bits inputs) m false ≡ get_or inputs m false
unfolding put_bits
put_bits-above [] n inputs m l = refl
put_bits-above (b ∷ bits) n inputs m l = put_bits-above bits (n + 1) (set inputs n b) m (omega arith) ∙ get_or-set_other inputs n m b false (λ e. omega arith)

put_bits-at : (bits : List Bool) (n : ℕ) (inputs : List Bool) (i : ℕ) → i < length bits → n + length bits ≤ length inputs → get_or (put_bits n bits inputs) (n + i) false ≡ get_or bits i false
unfolding put_bits
put_bits-at [] n inputs i l room = absurd (omega arith)
put_bits-at (b ∷ bits) n inputs zero l room =
    let e : n + 0 ≡ n = omega arith in
    ap (λ k. get_or (put_bits (n + 1) bits (set inputs n b)) k false) e
    ∙ put_bits-below bits (n + 1) (set inputs n b) n (omega arith) ∙ get_or-set_same inputs n b false (omega arith)
put_bits-at (b ∷ bits) n inputs (suc i) l room =
    let e : n + suc i ≡ n + 1 + i = omega arith in
    ap (λ k. get_or (put_bits (n + 1) bits (set inputs n b)) k false) e
    ∙ put_bits-at bits (n + 1) (set inputs n b) i (omega arith) (omega (arith, length-set inputs n b))

-- ---- one cell

-- the word that a cell is to have: what the storage has at its address, as the inputs have it
abbrev due_word : List Node → List ℕ → Cell → List Bool → ℕ
due_word nodes storage c inputs = get_or storage (number (values_of inputs nodes) c.address) 0

with_cell : List Node → ℕ → List ℕ → Cell → List Bool → List Bool
with_cell nodes w storage c inputs = put_bits (first_input nodes c) (bits_of w (due_word nodes storage c inputs)) inputs

pub cells-room : (nodes : List Node) (w a from : ℕ) (cells : List Cell) → AreCells nodes w a from cells → from ≤ length nodes
cells-room nodes w a from [] h = h
cells-room nodes w a from (c ∷ cells) h = let r = cells-room nodes w a (place_of c + w) cells h.2 in let l = h.0 in omega arith

-- what setting one cell's inputs does
record SetsCell (nodes : List Node) (w a : ℕ) (storage : List ℕ) (c : Cell) (inputs given : List Bool) : Type 0 where
  as_many : length given ≡ length inputs
  below : (m : ℕ) → m < first_input nodes c → get_or given m false ≡ get_or inputs m false
  above : (m : ℕ) → first_input nodes c + w ≤ m → get_or given m false ≡ get_or inputs m false
  front : take (place_of c) (values_of given nodes) ≡ take (place_of c) (values_of inputs nodes)
  word : number (values_of given nodes) c.word ≡ get_or storage (number (values_of given nodes) c.address) 0

with_cell-sets : (nodes : List Node) (w a : ℕ) (storage : List ℕ) (c : Cell) (inputs : List Bool) → IsCircuit nodes → length inputs ≡ input_count nodes → 1 ≤ w → IsStorage w a storage →
    IsCell nodes w a c → place_of c + w ≤ length nodes → SetsCell nodes w a storage c inputs (with_cell nodes w storage c inputs)
unfolding with_cell
with_cell-sets nodes w a storage c inputs h many least s cell room =
    let n = first_input nodes c in
    let x = due_word nodes storage c inputs in
    let bits = bits_of w x in
    let wide : length bits ≡ w = length-bits_of w x in
    let given = put_bits n bits inputs in
    let below : (m : ℕ) → m < n → get_or given m false ≡ get_or inputs m false = λ m l. put_bits-below bits n inputs m l in
    let front = front_values given inputs nodes (place_of c) h (omega arith) below in
    let address : number (values_of inputs nodes) c.address < length storage =
    let b = number-below (values_of inputs nodes) c.address in let e : 2 ^ length c.address ≡ 2 ^ a = ap (λ k. 2 ^ k) cell.wide in omega (arith, s.size) in
    let fits : x < 2 ^ w = All-get_or (λ word. word < 2 ^ w) storage (number (values_of inputs nodes) c.address) 0 address s.words in
    let last : n + (w - 1) < input_count nodes = let l = input_below [] nodes (place_of c + (w - 1)) (n + (w - 1)) h.in_order (cell.inputs (w - 1) (omega arith)) in omega arith in
    let bit : (i : ℕ) → i < w → get_or (values_of given nodes) (place_of c + i) false ≡ get_or bits i false =
    λ i l. input_value given nodes (place_of c + i) (n + i) h (cell.inputs i l) ∙ put_bits-at bits n inputs i (omega arith) (omega arith) in
    record {
      as_many = length-put_bits bits n inputs;
      below = below;
      above = λ m l. put_bits-above bits n inputs m (omega arith);
      front = front;
      word =
          ap (number (values_of given nodes)) cell.word
          ∙ number-gates_from w (values_of given nodes) (place_of c) x fits bit
          ∙ ap (λ k. get_or storage k 0) (sym (number-front (values_of given nodes) (values_of inputs nodes) (place_of c) c.address cell.earlier front));
    }

-- ---- all cells

with_cells : List Node → ℕ → List ℕ → List Cell → List Bool → List Bool
with_cells nodes w storage [] inputs = inputs
with_cells nodes w storage (c ∷ cells) inputs = with_cells nodes w storage cells (with_cell nodes w storage c inputs)

record SetsCells (nodes : List Node) (w from : ℕ) (storage : List ℕ) (cells : List Cell) (inputs given : List Bool) : Type 0 where
  as_many : length given ≡ length inputs
  others_stay : (m : ℕ) → ¬ (IsInputOf nodes w cells m) → get_or given m false ≡ get_or inputs m false
  front : take from (values_of given nodes) ≡ take from (values_of inputs nodes)
  agrees : Agrees storage (known_cells (values_of given nodes) cells)

pub gates-there : (k w bound : ℕ) → k + w ≤ bound → AreThere bound (gates_from k w)
gates-there k zero bound l = All-nil (IsThere bound)
gates-there k (suc w) bound l = All-cons (IsThere bound) (gate_at k) (gates_from (k + 1) w) (omega arith) (gates-there (k + 1) w bound (omega arith))

with_cells-sets : (cells : List Cell) (nodes : List Node) (w a from : ℕ) (storage : List ℕ) (inputs : List Bool) → IsCircuit nodes → length inputs ≡ input_count nodes → 1 ≤ w → IsStorage w a storage →
    AreCells nodes w a from cells → SetsCells nodes w from storage cells inputs (with_cells nodes w storage cells inputs)
unfolding with_cells
with_cells-sets [] nodes w a from storage inputs h many least s are =
    record { as_many = refl; others_stay = λ m n. refl; front = refl; agrees = λ k d l. absurd (omega arith) }
with_cells-sets (c ∷ cells) nodes w a from storage inputs h many least s are =
    let p = place_of c in
    let here = are.0 in
    let cell = are.1 in
    let next = with_cell nodes w storage c inputs in
    let one = with_cell-sets nodes w a storage c inputs h many least s cell (cells-room nodes w a (p + w) cells are.2) in
    let rest = with_cells-sets cells nodes w a (p + w) storage next h (one.as_many ∙ many) least s are.2 in
    let given = with_cells nodes w storage cells next in
    let word_there : AreThere (p + w) c.word = subst (AreThere (p + w)) (sym cell.word) (gates-there p w (p + w) (omega arith)) in
    let address_there : AreThere (p + w) c.address = All-weaker (IsThere p) (IsThere (p + w)) (λ g l. omega arith) c.address cell.earlier in
    let word = number-front (values_of given nodes) (values_of next nodes) (p + w) c.word word_there rest.front in
    let address = number-front (values_of given nodes) (values_of next nodes) (p + w) c.address address_there rest.front in
    record {
      as_many = rest.as_many ∙ one.as_many;
      others_stay = λ m n. rest.others_stay m (λ i. n (inr i)) ∙ outside nodes w storage c inputs m one.below one.above (λ i. n (inl i));
      front = shorter from (p + w) (values_of given nodes) (values_of next nodes) (omega arith) rest.front ∙ shorter from p (values_of next nodes) (values_of inputs nodes) here one.front;
      agrees =
          All-cons (λ k. get_or storage k.address 0 ≡ k.word) (known_of (values_of given nodes) c) (known_cells (values_of given nodes) cells)
          (ap (λ k. get_or storage k 0) address ∙ sym one.word ∙ sym word) rest.agrees;
    }
  where
    outside : (nodes : List Node) (w : ℕ) (storage : List ℕ) (c : Cell) (inputs : List Bool) (m : ℕ) →
        ((m : ℕ) → m < first_input nodes c → get_or (with_cell nodes w storage c inputs) m false ≡ get_or inputs m false) →
        ((m : ℕ) → first_input nodes c + w ≤ m → get_or (with_cell nodes w storage c inputs) m false ≡ get_or inputs m false) →
        ¬ ((first_input nodes c ≤ m) × (m < first_input nodes c + w)) → get_or (with_cell nodes w storage c inputs) m false ≡ get_or inputs m false
    outside nodes w storage c inputs m below above n =
        elim (cases_lt m (first_input nodes c)) [
          | inl l ↦ below m l
          | inr g ↦ elim (cases_lt m (first_input nodes c + w)) [ inl l ↦ absurd (n (g, l)) | inr k ↦ above m k ]
        ]

pub has_inputs : (cells : List Cell) (nodes : List Node) (w a : ℕ) (storage : List ℕ) (inputs : List Bool) → IsCircuit nodes → length inputs ≡ input_count nodes → 1 ≤ w → IsStorage w a storage →
    AreCells nodes w a 0 cells → HasInputs nodes w cells storage inputs
has_inputs cells nodes w a storage inputs h many least s are =
    let all = with_cells-sets cells nodes w a 0 storage inputs h many least s are in
    record { given = with_cells nodes w storage cells inputs; as_many = all.as_many; others_stay = all.others_stay; agrees = all.agrees }
