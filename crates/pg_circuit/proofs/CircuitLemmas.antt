-- Lists of nodes stay circuits.
use Rattle.std.proofs.Common.{◌≡◌, ℕ, ◌+◌, ◌<◌, ◌≤◌, Bool, true, false, ◌==◌, if◌then◌else◌, List, [], ◌∷◌, ◌++◌, length, None, Some, Result, Ok, Err, IfOk, OnErr, refl, sym, ap, subst, ◌∙◌, arith, true≢false, append_assoc, length-append}
use Rattle.std.proofs.lemmas.List.{append-nil}
use Rattle.std.specs.declared.alloc.AllocError.{AllocError}
use Rattle.std.proofs.lemmas.Bool.{eqb-true, eqb-false}
use Rattle.pg_circuit.specs.declared.node.Gate.{Gate}
use Rattle.pg_circuit.specs.declared.node.Node.{Node}
use Rattle.pg_circuit.specs.declared.node.Node.TheVariants.{Constant, Input, And, Xor}
use Rattle.pg_circuit.specs.Nodes.{same_node, has_node, is_input, inputs_at, input_count, AreOperands, IsNext, IsAfter, IsCircuit}
use Rattle.pg_circuit.specs.Made.{gate_at, node_made, with_node, and_simplified, xor_simplified}
use Rattle.pg_circuit.proofs.NodeLemmas.{place_of-absent, with_node-there, with_node-absent}

pub input_count-append : (ns ms : List Node) → input_count (ns ++ ms) ≡ input_count ns + input_count ms
input_count-append [] ms = omega arith
input_count-append (n ∷ ns) ms = omega (arith, input_count-append ns ms)

inputs_at-le : (n : Node) → inputs_at n ≤ 1
inputs_at-le Constant = omega arith
inputs_at-le (Input n) = omega arith
inputs_at-le (And x y) = omega arith
inputs_at-le (Xor x y) = omega arith

-- no more inputs than nodes
pub input_count-le : (ns : List Node) → input_count ns ≤ length ns
input_count-le [] = omega arith
input_count-le (n ∷ ns) = omega (arith, inputs_at-le n, input_count-le ns)

pub inputs_at-none : (n : Node) → is_input n ≡ false → inputs_at n ≡ 0
inputs_at-none Constant h = refl
inputs_at-none (Input n) h = absurd (true≢false h)
inputs_at-none (And x y) h = refl
inputs_at-none (Xor x y) h = refl

-- a node that may follow may be added
pub IsAfter-push : (before ns : List Node) (n : Node) → IsAfter before ns → IsNext (before ++ ns) n → IsAfter before (ns ++ n ∷ [])
IsAfter-push before [] n h next = (subst (λ ms. IsNext ms n) (append-nil before) next, tt)
IsAfter-push before (m ∷ ns) n h next =
    (h.0, IsAfter-push (before ++ m ∷ []) ns n h.1 (subst (λ ms. IsNext ms n) (sym (append_assoc before (m ∷ []) ns)) next))

pub IsCircuit-push : (ns : List Node) (n : Node) → IsCircuit ns → IsNext ns n → IsCircuit (ns ++ n ∷ [])
IsCircuit-push ns n h next = record { begun = omega (arith, h.begun, length-append ns (n ∷ [])); in_order = IsAfter-push [] ns n h.in_order next }

-- an input that is not there yet
differs_from_input : (before : List Node) (n : Node) (m : ℕ) → IsNext before n → input_count before + inputs_at n ≤ m → same_node (Input m) n ≡ false
differs_from_input before Constant m next le = refl
differs_from_input before (Input k) m next le = by (m == k) refl
  where
    by : (b : Bool) → (m == k) ≡ b → (m == k) ≡ false
    by true e = absurd (omega (arith, eqb-true m k e, next.1))
    by false e = e
differs_from_input before (And x y) m next le = refl
differs_from_input before (Xor x y) m next le = refl

inputs_below : (before ns : List Node) (m : ℕ) → IsAfter before ns → input_count before + input_count ns ≤ m → has_node ns (Input m) ≡ false
inputs_below before [] m h le = refl
inputs_below before (n ∷ ns) m h le =
    rw (differs_from_input before n m h.0 (omega arith))
    (inputs_below (before ++ n ∷ []) ns m h.1 (omega (arith, input_count-append before (n ∷ []))))

pub input-new : (ns : List Node) → IsCircuit ns → has_node ns (Input (input_count ns)) ≡ false
input-new ns h = inputs_below [] ns (input_count ns) h.in_order (omega arith)

-- what holds of a circuit with a node that is no input
pub record Kept (ns new : List Node) : Type 0 where
  pub circuit : IsCircuit new
  pub inputs : input_count new ≡ input_count ns

pub with_node-kept : (ns : List Node) (n : Node) → IsCircuit ns → IsNext ns n → is_input n ≡ false → Kept ns (with_node ns n)
with_node-kept ns n h next none = by (has_node ns n) refl
  where
    by : (b : Bool) → has_node ns n ≡ b → Kept ns (with_node ns n)
    by true e = subst (Kept ns) (sym (with_node-there ns n e)) (record { circuit = h; inputs = refl })
    by false e = subst (Kept ns) (sym (with_node-absent ns n e))
        (record { circuit = IsCircuit-push ns n h next; inputs = omega (arith, input_count-append ns (n ∷ []), inputs_at-none n none) })

-- a node is only looked up
pub has_of_same : (ns : List Node) (n : Node) → with_node ns n ≡ ns → has_node ns n ≡ true
has_of_same ns n h = by (has_node ns n) refl
  where
    by : (b : Bool) → has_node ns n ≡ b → has_node ns n ≡ true
    by true e = e
    by false e = absurd (omega (arith, ap length (sym (with_node-absent ns n e) ∙ h), length-append ns (n ∷ [])))

-- what is not simplified has two operands
none_held : (a b c : Bool) (p q r : Gate) → (if a then Some p else (if b then Some q else (if c then Some r else None))) ≡ None
    → (a ≡ false) × (b ≡ false) × (c ≡ false)
none_held true b c p q r h = cc
none_held false true c p q r h = cc
none_held false false true p q r h = cc
none_held false false false p q r h = (refl, refl, refl)

operands : (x y : Gate) (k : ℕ) → ((x.number == 0) ≡ false) × ((y.number == 0) ≡ false) × ((x.number == y.number) ≡ false)
    → x.number < k → y.number < k → AreOperands k x y
operands x y k h lx ly =
    let nx = eqb-false x.number 0 h.0 in
    let ny = eqb-false y.number 0 h.1 in
    record { left_varies = omega arith; left_before = lx; right_varies = omega arith; right_before = ly; apart = eqb-false x.number y.number h.2 }

pub and_operands : (x y : Gate) (k : ℕ) → and_simplified x y ≡ None → x.number < k → y.number < k → AreOperands k x y
and_operands x y k h = operands x y k (none_held _ _ _ _ _ _ h)

pub xor_operands : (x y : Gate) (k : ℕ) → xor_simplified x y ≡ None → x.number < k → y.number < k → AreOperands k x y
xor_operands x y k h = operands x y k (none_held _ _ _ _ _ _ h)

-- a node that was not there, and is added
pub added-made : (r : Result Gate AllocError) (ns new : List Node) (n : Node) → has_node ns n ≡ false
    → IfOk r (λ g. g ≡ gate_at (length ns)) → IfOk r (λ g. new ≡ ns ++ n ∷ []) → IfOk r (λ g. (g, new) ≡ node_made ns n)
added-made (Err e) ns new n absent gate nodes = tt
added-made (Ok g) ns new n absent gate nodes =
    let at = gate ∙ ap gate_at (sym (place_of-absent ns n absent)) in
    let after = nodes ∙ sym (with_node-absent ns n absent) in
    λ i. (at i, after i)

-- and one that is looked up, whether or not it was there
pub placed-kept : (r : Result Gate AllocError) (ns new : List Node) (n : Node) → IsCircuit ns → IsNext ns n → is_input n ≡ false
    → IfOk r (λ g. (g, new) ≡ node_made ns n) → OnErr r (new ≡ ns) → Kept ns new
placed-kept (Err e) ns new n h next none made err = subst (Kept ns) (sym err) (record { circuit = h; inputs = refl })
placed-kept (Ok g) ns new n h next none made err = subst (Kept ns) (sym (ap (λ p. p.1) made)) (with_node-kept ns n h next none)
