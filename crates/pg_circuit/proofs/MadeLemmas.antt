-- What follows for the gates that are made, and for those that were there.
use Rattle.std.proofs.Common.{Result, Ok, Err, IfOk, OnErr, ◌≡◌, ℕ, ◌+◌, ◌<◌, Bool, true, false, ◌&&◌, ◌==◌, not, if◌then◌else◌, List, [], ◌∷◌, ◌++◌, length, take, drop, get_or, slice_get, Option, None, Some, IfSome, refl, sym, ap, subst, ◌∙◌, arith, length-append, zero-add}
use Rattle.std.specs.declared.alloc.AllocError.{AllocError}
use Rattle.std.proofs.Math.Bool.{beq}
use Rattle.std.proofs.Math.Seq.{get_or-append_seam, take-append_seam}
use Rattle.std.proofs.lemmas.Bool.{eqb-true}
use Rattle.std.proofs.lemmas.List.{append-nil, take-append-drop}
use Rattle.std.proofs.lemmas.Option.{slice_get_within}
use Rattle.pg_circuit.specs.declared.node.Gate.{Gate}
use Rattle.pg_circuit.specs.declared.node.Node.{Node}
use Rattle.pg_circuit.specs.declared.node.Node.TheVariants.{Constant, Input, And, Xor}
use Rattle.pg_circuit.specs.Nodes.{has_node, place_of, is_input, input_count, IsNext, IsAfter, IsCircuit}
use Rattle.pg_circuit.specs.Values.{differ, gate_value, node_value, values_after, values_of}
use Rattle.pg_circuit.specs.Made.{constant_gate, not_gate, not_where, and_simplified, xor_simplified, with_node, node_made, made, and_made, xor_made, input_made}
use Rattle.pg_circuit.specs.Grown.{GrowsTo, IsMade, made_value}
use Rattle.pg_circuit.proofs.NodeLemmas.{place_of-there, place_of-absent, with_node-there, with_node-absent}
use Rattle.pg_circuit.proofs.CircuitLemmas.{input_count-append, IsCircuit-push, with_node-kept, and_operands, xor_operands}
use Rattle.pg_circuit.proofs.ValueLemmas.{values_after-append, length-values_of, values_after-front, values_after-get, value_at}

-- the nodes stay in front, so their values stay
pub values_of-front : (inputs : List Bool) (old new : List Node) → GrowsTo old new → take (length old) (values_of inputs new) ≡ values_of inputs old
values_of-front inputs old new front =
    let whole : new ≡ old ++ drop (length old) new = sym (take-append-drop (length old) new) ∙ ap (λ ns. ns ++ drop (length old) new) front in
    ap (λ ns. take (length old) (values_of inputs ns)) whole
    ∙ ap (take (length old)) (values_after-append inputs [] old (drop (length old) new))
    ∙ ap (λ n. take n (values_after inputs (values_of inputs old) (drop (length old) new))) (sym (length-values_of inputs old))
    ∙ values_after-front inputs (values_of inputs old) (drop (length old) new)

pub gate_value-front : (inputs : List Bool) (old new : List Node) (x : Gate) → GrowsTo old new → x.number < length old →
    gate_value (values_of inputs new) x ≡ gate_value (values_of inputs old) x
gate_value-front inputs old new x front lt =
    let whole : new ≡ old ++ drop (length old) new = sym (take-append-drop (length old) new) ∙ ap (λ ns. ns ++ drop (length old) new) front in
    let long : x.number < length (values_of inputs old) = omega (arith, length-values_of inputs old) in
    ap (λ ns. gate_value (values_of inputs ns) x) whole
    ∙ ap (λ vs. gate_value vs x) (values_after-append inputs [] old (drop (length old) new))
    ∙ ap (λ b. differ b x.negated) (values_after-get inputs (values_of inputs old) (drop (length old) new) x.number long)

pub GrowsTo-same : (ns : List Node) → GrowsTo ns ns
GrowsTo-same ns = ap (take (length ns)) (sym (append-nil ns)) ∙ take-append_seam ns []

-- the constant
at_first : (before ns : List Node) → IsAfter before ns → length before ≡ 0 → 0 < length ns → slice_get ns 0 ≡ Some Constant
at_first before [] h e lt = absurd (omega arith)
at_first before (Constant ∷ ns) h e lt = refl
at_first before (Input n ∷ ns) h e lt = absurd (omega (arith, h.0.0))
at_first before (And x y ∷ ns) h e lt = absurd (omega (arith, h.0.left_before))
at_first before (Xor x y ∷ ns) h e lt = absurd (omega (arith, h.0.left_before))

pub first_is_constant : (ns : List Node) → IsCircuit ns → slice_get ns 0 ≡ Some Constant
first_is_constant ns h = at_first [] ns h.in_order refl h.begun

pub value_of_first : (inputs : List Bool) (ns : List Node) → IsCircuit ns → get_or (values_of inputs ns) 0 false ≡ false
value_of_first inputs ns h = value_at inputs [] [] ns h.in_order refl 0 Constant (first_is_constant ns h)

pub differ_false : (b : Bool) → differ b false ≡ b
differ_false true = refl
differ_false false = refl

pub constant_value : (inputs : List Bool) (ns : List Node) (b : Bool) → IsCircuit ns → gate_value (values_of inputs ns) (constant_gate b) ≡ b
constant_value inputs ns true h = ap (λ v. differ v true) (value_of_first inputs ns h)
constant_value inputs ns false h = ap (λ v. differ v false) (value_of_first inputs ns h)

differ_not : (a b : Bool) → differ a (not b) ≡ not (differ a b)
differ_not true true = refl
differ_not true false = refl
differ_not false true = refl
differ_not false false = refl

pub not_value : (vs : List Bool) (x : Gate) → gate_value vs (not_gate x) ≡ not (gate_value vs x)
not_value vs x = differ_not (get_or vs x.number false) x.negated

-- a node that is looked up
module _ (inputs : List Bool) (ns : List Node) (n : Node) (h : IsCircuit ns) (next : IsNext ns n) where
  pub node_made-value : made_value inputs (node_made ns n) ≡ node_value inputs (values_of inputs ns) n
  node_made-value = by (has_node ns n) refl
    where
      by : (b : Bool) → has_node ns n ≡ b → made_value inputs (node_made ns n) ≡ node_value inputs (values_of inputs ns) n
      by true e =
          differ_false (get_or (values_of inputs (with_node ns n)) (place_of ns n) false)
          ∙ ap (λ ms. get_or (values_of inputs ms) (place_of ns n) false) (with_node-there ns n e)
          ∙ ap (λ k. get_or (values_of inputs ns) k false) (sym (zero-add (place_of ns n)))
          ∙ value_at inputs [] [] ns h.in_order refl (place_of ns n) n (place_of-there ns n e)
      by false e =
          differ_false (get_or (values_of inputs (with_node ns n)) (place_of ns n) false)
          ∙ ap (λ ms. get_or (values_of inputs ms) (place_of ns n) false) (with_node-absent ns n e)
          ∙ ap (λ vs. get_or vs (place_of ns n) false) (values_after-append inputs [] ns (n ∷ []))
          ∙ ap (λ k. get_or (values_of inputs ns ++ node_value inputs (values_of inputs ns) n ∷ []) k false)
          (place_of-absent ns n e ∙ sym (length-values_of inputs ns))
          ∙ get_or-append_seam (values_of inputs ns) (node_value inputs (values_of inputs ns) n) [] false

  pub node_made-there : is_input n ≡ false → IsMade ns (node_made ns n)
  node_made-there none = by (has_node ns n) refl
    where
      by : (b : Bool) → has_node ns n ≡ b → IsMade ns (node_made ns n)
      by true e = record {
        front = ap (take (length ns)) (with_node-there ns n e) ∙ GrowsTo-same ns;
        circuit = (with_node-kept ns n h next none).circuit;
        there = omega (arith, slice_get_within ns (place_of ns n) n (place_of-there ns n e), ap length (with_node-there ns n e));
      }
      by false e = record {
        front = ap (take (length ns)) (with_node-absent ns n e) ∙ take-append_seam ns (n ∷ []);
        circuit = (with_node-kept ns n h next none).circuit;
        there = omega (arith, place_of-absent ns n e, ap length (with_node-absent ns n e), length-append ns (n ∷ []));
      }

-- what is simplified has the value that its name says, and is there
module _ (vs : List Bool) (first : get_or vs 0 false ≡ false) where
  constant_of : (b : Bool) → gate_value vs (constant_gate b) ≡ b
  constant_of true = ap (λ v. differ v true) first
  constant_of false = ap (λ v. differ v false) first

  and_left_constant : (b : Bool) (y : Gate) → gate_value vs (if b then y else constant_gate false) ≡ differ false b && gate_value vs y
  and_left_constant true y = refl
  and_left_constant false y = constant_of false

  and_right_constant : (b v : Bool) (x : Gate) → gate_value vs x ≡ v → gate_value vs (if b then x else constant_gate false) ≡ v && differ false b
  and_right_constant true true x e = e
  and_right_constant true false x e = e
  and_right_constant false true x e = constant_of false
  and_right_constant false false x e = constant_of false

  and_same_number : (k : ℕ) (v m n : Bool) → get_or vs k false ≡ v →
      gate_value vs (if beq m n then record { number = k; negated = m } else constant_gate false) ≡ differ v m && differ v n
  and_same_number k true true true e = ap (λ b. differ b true) e
  and_same_number k true true false e = constant_of false
  and_same_number k true false true e = constant_of false
  and_same_number k true false false e = ap (λ b. differ b false) e
  and_same_number k false true true e = ap (λ b. differ b true) e
  and_same_number k false true false e = constant_of false
  and_same_number k false false true e = constant_of false
  and_same_number k false false false e = ap (λ b. differ b false) e

  and_choice : (x y g : Gate) (a b c : Bool) → (x.number == 0) ≡ a → (y.number == 0) ≡ b → (x.number == y.number) ≡ c →
      (if a then Some (if x.negated then y else constant_gate false) else
      (if b then Some (if y.negated then x else constant_gate false) else
      (if c then Some (if beq x.negated y.negated then x else constant_gate false) else None))) ≡ Some g →
      gate_value vs g ≡ gate_value vs x && gate_value vs y
  and_choice x y g true b c ea eb ec h =
      let e : g ≡ (if x.negated then y else constant_gate false) = cc in
      let zero_left : get_or vs x.number false ≡ false = ap (λ k. get_or vs k false) (eqb-true x.number 0 ea) ∙ first in
      ap (gate_value vs) e ∙ and_left_constant x.negated y ∙ ap (λ v. differ v x.negated && gate_value vs y) (sym zero_left)
  and_choice x y g false true c ea eb ec h =
      let e : g ≡ (if y.negated then x else constant_gate false) = cc in
      let zero_right : get_or vs y.number false ≡ false = ap (λ k. get_or vs k false) (eqb-true y.number 0 eb) ∙ first in
      ap (gate_value vs) e ∙ and_right_constant y.negated (gate_value vs x) x refl ∙ ap (λ v. gate_value vs x && differ v y.negated) (sym zero_right)
  and_choice x y g false false true ea eb ec h =
      let e : g ≡ (if beq x.negated y.negated then x else constant_gate false) = cc in
      ap (gate_value vs) e ∙ and_same_number x.number (get_or vs x.number false) x.negated y.negated refl
      ∙ ap (λ k. gate_value vs x && differ (get_or vs k false) y.negated) (eqb-true x.number y.number ec)
  and_choice x y g false false false ea eb ec h = cc

  pub and_simplified-value : (x y g : Gate) → and_simplified x y ≡ Some g → gate_value vs g ≡ gate_value vs x && gate_value vs y
  and_simplified-value x y g h = and_choice x y g (x.number == 0) (y.number == 0) (x.number == y.number) refl refl refl h

  not_where-left : (b : Bool) (y : Gate) → gate_value vs (not_where b y) ≡ differ (differ false b) (gate_value vs y)
  not_where-left true y = by (get_or vs y.number false) y.negated
    where
      by : (v n : Bool) → differ v (not n) ≡ differ true (differ v n)
      by true true = refl
      by true false = refl
      by false true = refl
      by false false = refl
  not_where-left false y = by (gate_value vs y)
    where
      by : (v : Bool) → v ≡ differ false v
      by true = refl
      by false = refl

  differ-swap : (a b : Bool) → differ a b ≡ differ b a
  differ-swap true true = refl
  differ-swap true false = refl
  differ-swap false true = refl
  differ-swap false false = refl

  differ-both : (v m n : Bool) → differ m n ≡ differ (differ v m) (differ v n)
  differ-both true true true = refl
  differ-both true true false = refl
  differ-both true false true = refl
  differ-both true false false = refl
  differ-both false true true = refl
  differ-both false true false = refl
  differ-both false false true = refl
  differ-both false false false = refl

  xor_choice : (x y g : Gate) (a b c : Bool) → (x.number == 0) ≡ a → (y.number == 0) ≡ b → (x.number == y.number) ≡ c →
      (if a then Some (not_where x.negated y) else
      (if b then Some (not_where y.negated x) else
      (if c then Some (constant_gate (differ x.negated y.negated)) else None))) ≡ Some g →
      gate_value vs g ≡ differ (gate_value vs x) (gate_value vs y)
  xor_choice x y g true b c ea eb ec h =
      let e : g ≡ not_where x.negated y = cc in
      let zero_left : get_or vs x.number false ≡ false = ap (λ k. get_or vs k false) (eqb-true x.number 0 ea) ∙ first in
      ap (gate_value vs) e ∙ not_where-left x.negated y ∙ ap (λ v. differ (differ v x.negated) (gate_value vs y)) (sym zero_left)
  xor_choice x y g false true c ea eb ec h =
      let e : g ≡ not_where y.negated x = cc in
      let zero_right : get_or vs y.number false ≡ false = ap (λ k. get_or vs k false) (eqb-true y.number 0 eb) ∙ first in
      ap (gate_value vs) e ∙ not_where-left y.negated x ∙ ap (λ v. differ (differ v y.negated) (gate_value vs x)) (sym zero_right)
      ∙ differ-swap (gate_value vs y) (gate_value vs x)
  xor_choice x y g false false true ea eb ec h =
      let e : g ≡ constant_gate (differ x.negated y.negated) = cc in
      ap (gate_value vs) e ∙ constant_of (differ x.negated y.negated) ∙ differ-both (get_or vs x.number false) x.negated y.negated
      ∙ ap (λ k. differ (gate_value vs x) (differ (get_or vs k false) y.negated)) (eqb-true x.number y.number ec)
  xor_choice x y g false false false ea eb ec h = cc

  pub xor_simplified-value : (x y g : Gate) → xor_simplified x y ≡ Some g → gate_value vs g ≡ differ (gate_value vs x) (gate_value vs y)
  xor_simplified-value x y g h = xor_choice x y g (x.number == 0) (y.number == 0) (x.number == y.number) refl refl refl h

-- and its node is the constant's or that of an operand
module _ (size : ℕ) (begun : 0 < size) where
  of_two : (b : Bool) (x y : Gate) → x.number < size → y.number < size → (if b then x else y).number < size
  of_two true x y lx ly = lx
  of_two false x y lx ly = ly

  not_where-there : (b : Bool) (x : Gate) → x.number < size → (not_where b x).number < size
  not_where-there true x lx = lx
  not_where-there false x lx = lx

  one_of_three : (a b c : Bool) (p q r g : Gate) → p.number < size → q.number < size → r.number < size →
      (if a then Some p else (if b then Some q else (if c then Some r else None))) ≡ Some g → g.number < size
  one_of_three true b c p q r g lp lq lr h = let e : p ≡ g = cc in subst (λ (x : Gate). x.number < size) e lp
  one_of_three false true c p q r g lp lq lr h = let e : q ≡ g = cc in subst (λ (x : Gate). x.number < size) e lq
  one_of_three false false true p q r g lp lq lr h = let e : r ≡ g = cc in subst (λ (x : Gate). x.number < size) e lr
  one_of_three false false false p q r g lp lq lr h = cc

  pub and_simplified-there : (x y g : Gate) → x.number < size → y.number < size → and_simplified x y ≡ Some g → g.number < size
  and_simplified-there x y g lx ly = one_of_three (x.number == 0) (y.number == 0) (x.number == y.number) _ _ _ g
      (of_two x.negated y (constant_gate false) ly begun) (of_two y.negated x (constant_gate false) lx begun)
      (of_two (beq x.negated y.negated) x (constant_gate false) lx begun)

  pub xor_simplified-there : (x y g : Gate) → x.number < size → y.number < size → xor_simplified x y ≡ Some g → g.number < size
  xor_simplified-there x y g lx ly = one_of_three (x.number == 0) (y.number == 0) (x.number == y.number) _ _ _ g
      (not_where-there x.negated y ly) (not_where-there y.negated x lx) begun

-- what is made of a node, or of the gate that stands for it
module _ (ns : List Node) (h : IsCircuit ns) (n : Node) (none : is_input n ≡ false) where
  pub made-is_made : (o : Option Gate) → (o ≡ None → IsNext ns n) → ((g : Gate) → o ≡ Some g → g.number < length ns) → IsMade ns (made ns o n)
  made-is_made None next there = node_made-there [] ns n h (next refl) none
  made-is_made (Some g) next there = record { front = GrowsTo-same ns; circuit = h; there = there g refl }

  made-inputs : (o : Option Gate) → (o ≡ None → IsNext ns n) → input_count (made ns o n).1 ≡ input_count ns
  made-inputs None next = (with_node-kept ns n h (next refl) none).inputs
  made-inputs (Some g) next = refl

  made-value : (inputs : List Bool) (o : Option Gate) → (o ≡ None → IsNext ns n)
      → ((g : Gate) → o ≡ Some g → gate_value (values_of inputs ns) g ≡ node_value inputs (values_of inputs ns) n)
      → made_value inputs (made ns o n) ≡ node_value inputs (values_of inputs ns) n
  made-value inputs None next value = node_made-value inputs ns n h (next refl)
  made-value inputs (Some g) next value = value g refl

-- the gates that the calls make
module _ (ns : List Node) (h : IsCircuit ns) (x y : Gate) (lx : x.number < length ns) (ly : y.number < length ns) where
  pub and_next : and_simplified x y ≡ None → IsNext ns (And x y)
  and_next e = and_operands x y (length ns) e lx ly

  pub xor_next : xor_simplified x y ≡ None → IsNext ns (Xor x y)
  xor_next e = xor_operands x y (length ns) e lx ly

  pub and_made-there : IsMade ns (and_made ns x y)
  unfolding and_made
  and_made-there = made-is_made ns h (And x y) refl (and_simplified x y) and_next (λ g e. and_simplified-there (length ns) h.begun x y g lx ly e)

  pub and_made-inputs : input_count (and_made ns x y).1 ≡ input_count ns
  unfolding and_made
  and_made-inputs = made-inputs ns h (And x y) refl (and_simplified x y) and_next

  pub and_made-value : (inputs : List Bool) → made_value inputs (and_made ns x y) ≡ gate_value (values_of inputs ns) x && gate_value (values_of inputs ns) y
  unfolding and_made
  and_made-value inputs = made-value ns h (And x y) refl inputs (and_simplified x y) and_next
      (λ g e. and_simplified-value (values_of inputs ns) (value_of_first inputs ns h) x y g e)

  pub xor_made-there : IsMade ns (xor_made ns x y)
  unfolding xor_made
  xor_made-there = made-is_made ns h (Xor x y) refl (xor_simplified x y) xor_next (λ g e. xor_simplified-there (length ns) h.begun x y g lx ly e)

  pub xor_made-inputs : input_count (xor_made ns x y).1 ≡ input_count ns
  unfolding xor_made
  xor_made-inputs = made-inputs ns h (Xor x y) refl (xor_simplified x y) xor_next

  pub xor_made-value : (inputs : List Bool) →
      made_value inputs (xor_made ns x y) ≡ differ (gate_value (values_of inputs ns) x) (gate_value (values_of inputs ns) y)
  unfolding xor_made
  xor_made-value inputs = made-value ns h (Xor x y) refl inputs (xor_simplified x y) xor_next
      (λ g e. xor_simplified-value (values_of inputs ns) (value_of_first inputs ns h) x y g e)

module _ (ns : List Node) (h : IsCircuit ns) where
  pub input_made-there : IsMade ns (input_made ns)
  unfolding input_made
  input_made-there = record {
    front = take-append_seam ns (Input (input_count ns) ∷ []);
    circuit = IsCircuit-push ns (Input (input_count ns)) h (h.begun, refl);
    there = omega (arith, length-append ns (Input (input_count ns) ∷ []));
  }

  pub input_made-inputs : input_count (input_made ns).1 ≡ input_count ns + 1
  unfolding input_made
  input_made-inputs = input_count-append ns (Input (input_count ns) ∷ [])

  pub input_made-value : (inputs : List Bool) → made_value inputs (input_made ns) ≡ get_or inputs (input_count ns) false
  unfolding input_made
  input_made-value inputs =
      differ_false (get_or (values_of inputs (ns ++ Input (input_count ns) ∷ [])) (length ns) false)
      ∙ ap (λ vs. get_or vs (length ns) false) (values_after-append inputs [] ns (Input (input_count ns) ∷ []))
      ∙ ap (λ k. get_or (values_of inputs ns ++ get_or inputs (input_count ns) false ∷ []) k false) (sym (length-values_of inputs ns))
      ∙ get_or-append_seam (values_of inputs ns) (get_or inputs (input_count ns) false) [] false

-- a gate that stands for a node is there
pub some_there : (o p : Option Gate) (k : ℕ) → p ≡ o → ((g : Gate) → o ≡ Some g → g.number < k) → IfSome p (λ g. g.number < k)
some_there o p k e there = subst (λ (q : Option Gate). IfSome q (λ g. g.number < k)) (sym e) (by o there)
  where
    by : (q : Option Gate) → ((g : Gate) → q ≡ Some g → g.number < k) → IfSome q (λ g. g.number < k)
    by None at = tt
    by (Some g) at = at g refl

-- what a call that may fail says of it
pub made-there : (r : Result Gate AllocError) (old new : List Node) (m : Gate × List Node) → IsMade old m → IfOk r (λ g. (g, new) ≡ m) →
    IfOk r (λ g. g.number < length new)
made-there (Err e) old new m h made = tt
made-there (Ok g) old new m h made = subst (λ (p : Gate × List Node). p.0.number < length p.1) (sym made) h.there

pub made-kept : (r : Result Gate AllocError) (old new : List Node) (m : Gate × List Node) → IsMade old m → IfOk r (λ g. (g, new) ≡ m) →
    OnErr r (new ≡ old) → GrowsTo old new
made-kept (Err e) old new m h made err = subst (GrowsTo old) (sym err) (GrowsTo-same old)
made-kept (Ok g) old new m h made err = subst (λ (p : Gate × List Node). GrowsTo old p.1) (sym made) h.front
