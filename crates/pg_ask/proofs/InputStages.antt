-- Strings of inputs, and strings that are the same as others: which inputs give them a number.
use Rattle.std.proofs.Common.{◌≡◌, ℕ, zero, suc, ◌+◌, ◌/◌, ◌%◌, ◌^◌, ◌<◌, ◌≤◌, nat_eq, Bool, true, false, List, [], ◌∷◌, ◌++◌, length, take, get_or, slice_get, Some, refl, sym, ap, ◌∙◌, subst, arith, append_assoc, length-append}
use Rattle.std.proofs.lemmas.Bool.{eqb-true, eqb-false, true≢false}
use Rattle.std.proofs.lemmas.Nat.{mod_below, div-add-mod'}
use Rattle.std.proofs.lemmas.List.{append-nil, take-take, length-take, take_all, take_at, get_or-take, get_or-append-add}
use Rattle.std.proofs.lemmas.Option.{slice_get-get_or}
use Rattle.pg_circuit.specs.declared.node.Gate.{Gate}
use Rattle.pg_circuit.specs.declared.node.Node.{Node}
use Rattle.pg_circuit.specs.declared.node.Node.TheVariants.{Constant, Input}
use Rattle.pg_circuit.specs.Nodes.{input_count, IsCircuit}
use Rattle.pg_circuit.specs.Grown.{GrowsTo}
use Rattle.pg_circuit.specs.Values.{gate_value}
use Rattle.pg_circuit.specs.Made.{gate_at}
use Rattle.pg_circuit.proofs.CircuitLemmas.{input_count-append, IsCircuit-push}
use Rattle.pg_circuit.proofs.MadeLemmas.{differ_false}
use Rattle.pg_vec.specs.Number.{bit_of, number}
use Rattle.pg_vec.specs.There.{AreThere, AreValues}
use Rattle.pg_vec.proofs.Kept.{front_same}
use Rattle.pg_vec.proofs.Sums.{pow-more}
use Rattle.pg_cells.specs.Over.{gates_from}
use Rattle.pg_cells.specs.Made.{inputs_from, inputs_made}
use Rattle.pg_cells.proofs.InputLaws.{bits_of, input_value, gates-there}
use Rattle.pg_cells.proofs.TouchLaws.{length-gates_from, length-inputs_from, input_count-inputs_from, inputs-front}
use Rattle.pg_ask.specs.Unknowns.{other_made}

-- ---- lists that begin with others

abbrev pub Begins : List Bool → List Bool → Type 0
Begins front whole = take (length front) whole ≡ front

pub begins-same : (xs : List Bool) → Begins xs xs
begins-same xs = take_all (length xs) xs (omega arith)

pub begins-then : (a b c : List Bool) → Begins a b → Begins b c → Begins a c
begins-then a b c h k =
    let l : length a ≤ length b = (let e : length (take (length a) b) ≡ length a = ap length h in omega (arith, length-take (length a) b)) in
    sym (take-take (length a) (length b) c l) ∙ ap (take (length a)) k ∙ h

pub begins-more : (xs ys : List Bool) → Begins xs (xs ++ ys)
begins-more xs ys = take_at xs ys (length xs) refl

-- ---- numbers of inputs

length-bits_of : (w x : ℕ) → length (bits_of w x) ≡ w
length-bits_of zero x = refl
length-bits_of (suc w) x = ap (λ n. suc n) (length-bits_of w (x / 2))

bit_of-odd : (r : ℕ) (b : Bool) → r < 2 → nat_eq r 1 ≡ b → bit_of b ≡ r
bit_of-odd r true l e = sym (eqb-true r 1 e)
bit_of-odd r false l e = let n = eqb-false r 1 e in omega arith

-- gates of nodes one after another, which have the bits of a number as values
number-gates_from : (w : ℕ) (values : List Bool) (k x : ℕ) → x < 2 ^ w → ((i : ℕ) → i < w → get_or values (k + i) false ≡ get_or (bits_of w x) i false) → number values (gates_from k w) ≡ x
number-gates_from zero values k x l h = omega arith
number-gates_from (suc w) values k x l h =
    let half : x / 2 < 2 ^ w = omega (arith, pow-more w, div-add-mod' x 2, mod_below x 2 (omega arith)) in
    let rest = number-gates_from w values (k + 1) (x / 2) half (λ i li. let e : k + 1 + i ≡ k + suc i = omega arith in ap (λ n. get_or values n false) e ∙ h (suc i) (omega arith)) in
    let here : gate_value values (gate_at k) ≡ nat_eq (x % 2) 1 =
    differ_false (get_or values k false) ∙ ap (λ n. get_or values n false) (omega arith) ∙ h 0 (omega arith) in
    let low : bit_of (gate_value values (gate_at k)) ≡ x % 2 = ap bit_of here ∙ bit_of-odd (x % 2) (nat_eq (x % 2) 1) (mod_below x 2 (omega arith)) refl in
    omega (arith, rest, low, div-add-mod' x 2)

get_or-inputs_from : (w n i : ℕ) → i < w → get_or (inputs_from n w) i Constant ≡ Input (n + i)
get_or-inputs_from zero n i l = absurd (omega arith)
get_or-inputs_from (suc w) n zero l = ap (λ k. Input k) (omega arith)
get_or-inputs_from (suc w) n (suc i) l = let e : n + 1 + i ≡ n + suc i = omega arith in get_or-inputs_from w (n + 1) i (omega arith) ∙ ap (λ k. Input k) e

inputs-circuit : (w : ℕ) (nodes : List Node) → IsCircuit nodes → IsCircuit (nodes ++ inputs_from (input_count nodes) w)
inputs-circuit zero nodes h = subst IsCircuit (sym (append-nil nodes)) h
inputs-circuit (suc w) nodes h =
    let n = input_count nodes in
    let next = nodes ++ Input n ∷ [] in
    let e : input_count next ≡ n + 1 = omega (arith, input_count-append nodes (Input n ∷ [])) in
    let r = inputs-circuit w next (IsCircuit-push nodes (Input n) h (h.begun, refl)) in
    subst IsCircuit (ap (λ k. next ++ inputs_from k w) e ∙ append_assoc nodes (Input n ∷ []) (inputs_from (n + 1) w)) r

-- ---- one string

-- inputs that begin with these, and give the string this number; where it is no inputs of its own but the same as another,
-- that has the number
pub record Sets (made : List Gate × List Node) (own : Bool) (same : List Gate) (before : List Bool) (x : ℕ) : Type 0 where
  pub given : List Bool
  pub as_many : length given ≡ input_count made.1
  pub begins : Begins before given
  pub is : (inputs values : List Bool) → Begins given inputs → AreValues inputs made.1 values → (own ≡ false → number values same ≡ x) → number values made.0 ≡ x

pub record Stage (nodes : List Node) (made : List Gate × List Node) (n : ℕ) (own : Bool) (same : List Gate) : Type 0 where
  pub circuit : IsCircuit made.1
  pub front : GrowsTo nodes made.1
  pub there : AreThere (length made.1) made.0
  pub wide : length made.0 ≡ n
  pub sets : (before : List Bool) (x : ℕ) → length before ≡ input_count nodes → x < 2 ^ n → Sets made own same before x

number-inputs : (nodes : List Node) (n x : ℕ) (before inputs values : List Bool) → IsCircuit nodes → length before ≡ input_count nodes → x < 2 ^ n → Begins (before ++ bits_of n x) inputs → AreValues inputs (nodes ++ inputs_from (input_count nodes) n) values →
    number values (gates_from (length nodes) n) ≡ x
number-inputs nodes n x before inputs values h many l b v =
    let ins = inputs_from (input_count nodes) n in
    let new = nodes ++ ins in
    let bits = bits_of n x in
    let long : length new ≡ length nodes + n = omega (arith, length-append nodes ins, length-inputs_from n (input_count nodes)) in
    let given : length (before ++ bits) ≡ input_count nodes + n = omega (arith, length-append before bits, length-bits_of n x) in
    number-gates_from n values (length nodes) x l
    (λ i li.
    let node : slice_get new (length nodes + i) ≡ Some (Input (input_count nodes + i)) =
    slice_get-get_or new (length nodes + i) Constant (omega arith)
    ∙ ap (λ k. Some k) (get_or-append-add nodes ins i Constant ∙ get_or-inputs_from n (input_count nodes) i li) in
    let at : input_count nodes + i ≡ length before + i = ap (λ k. k + i) (sym many) in
    sym (get_or-take (length new) values (length nodes + i) false (omega arith))
    ∙ ap (λ (vs : List Bool). get_or vs (length nodes + i) false) v.begun
    ∙ input_value inputs new (length nodes + i) (input_count nodes + i) (inputs-circuit n nodes h) node
    ∙ sym (get_or-take (length (before ++ bits)) inputs (input_count nodes + i) false (omega arith))
    ∙ ap (λ (vs : List Bool). get_or vs (input_count nodes + i) false) b
    ∙ ap (λ k. get_or (before ++ bits) k false) at
    ∙ get_or-append-add before bits i false)

pub inputs-stage : (nodes : List Node) (n : ℕ) → IsCircuit nodes → Stage nodes (inputs_made nodes n) n true []
unfolding inputs_made
inputs-stage nodes n h =
    let ins = inputs_from (input_count nodes) n in
    let long : length (nodes ++ ins) ≡ length nodes + n = omega (arith, length-append nodes ins, length-inputs_from n (input_count nodes)) in
    record {
      circuit = inputs-circuit n nodes h;
      front = inputs-front nodes n;
      there = gates-there (length nodes) n (length (nodes ++ ins)) (omega arith);
      wide = length-gates_from n (length nodes);
      sets = λ before x many l. record {
        given = before ++ bits_of n x;
        as_many = omega (arith, length-append before (bits_of n x), length-bits_of n x, input_count-append nodes ins, input_count-inputs_from n (input_count nodes));
        begins = begins-more before (bits_of n x);
        is = λ inputs values b v same. number-inputs nodes n x before inputs values h many l b v;
      };
    }

pub other-stage : (own : Bool) (nodes : List Node) (n : ℕ) (same : List Gate) → IsCircuit nodes → AreThere (length nodes) same → length same ≡ n → Stage nodes (other_made own n nodes same) n own same
other-stage false nodes n same h t w = record {
  circuit = h;
  front = front_same nodes;
  there = t;
  wide = w;
  sets = λ before x many l. record { given = before; as_many = many; begins = begins-same before; is = λ inputs values b v e. e refl };
}
other-stage true nodes n same h t w =
    let s = inputs-stage nodes n h in
    record {
      circuit = s.circuit;
      front = s.front;
      there = s.there;
      wide = s.wide;
      sets = λ before x many l.
          let g = s.sets before x many l in
          record { given = g.given; as_many = g.as_many; begins = g.begins; is = λ inputs values b v e. g.is inputs values b v (λ k. absurd (true≢false k)) };
    }
