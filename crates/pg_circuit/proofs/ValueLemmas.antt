-- What nodes are worth, one after the other.
use Rattle.std.proofs.Common.{◌≡◌, ℕ, zero, suc, ◌+◌, ◌<◌, ◌≤◌, Bool, false, ◌&&◌, List, [], ◌∷◌, ◌++◌, length, take, drop, get_or, slice_get, Some, refl, sym, ap, subst, ◌∙◌, arith, length-append, length-take, drop-cons, add-zero}
use Rattle.std.proofs.Math.Seq.{get_or-append_seam, take-append_seam}
use Rattle.std.proofs.lemmas.List.{append-nil, take-take, take-append-drop, get_or_append_left}
use Rattle.pg_circuit.specs.declared.node.Gate.{Gate}
use Rattle.pg_circuit.specs.declared.node.Node.{Node}
use Rattle.pg_circuit.specs.declared.node.Node.TheVariants.{Constant, Input, And, Xor}
use Rattle.pg_circuit.specs.Nodes.{inputs_at, input_count, IsNext, IsAfter}
use Rattle.pg_circuit.specs.Values.{differ, gate_value, node_value, IsKnown, values_after, values_of}
use Rattle.pg_circuit.proofs.CircuitLemmas.{input_count-append}

-- what follows is over what is there
next_known : (before : List Node) (n : Node) (m p : ℕ) → IsNext before n → input_count before + inputs_at n ≤ m → length before ≡ p → IsKnown m p n
next_known before Constant m p next le e = tt
next_known before (Input k) m p next le e = omega (arith, next.1)
next_known before (And x y) m p next le e = (omega (arith, next.left_before), omega (arith, next.right_before))
next_known before (Xor x y) m p next le e = (omega (arith, next.left_before), omega (arith, next.right_before))

pub IsNext-at : (ns : List Node) (k : ℕ) → k < length ns → IsAfter (take k ns) (drop k ns) → IsNext (take k ns) (get_or ns k Constant)
IsNext-at ns k lt h = let e = drop-cons ns k Constant lt in (subst (IsAfter (take k ns)) e h).0

pub known_at : (ns : List Node) (k m p : ℕ) → k < length ns → IsAfter (take k ns) (drop k ns) → m ≡ input_count ns → p ≡ k
    → IsKnown m p (get_or ns k Constant)
known_at ns k m p lt h inputs places =
    let rest = ap input_count (drop-cons ns k Constant lt) in
    let all = ap input_count (sym (take-append-drop k ns)) ∙ input_count-append (take k ns) (drop k ns) in
    next_known (take k ns) (get_or ns k Constant) m p (IsNext-at ns k lt h) (omega (arith, rest, all)) (omega (arith, length-take k ns))

-- the values of a list in two parts
pub values_after-append : (inputs before : List Bool) (ns ms : List Node) →
    values_after inputs before (ns ++ ms) ≡ values_after inputs (values_after inputs before ns) ms
values_after-append inputs before [] ms = refl
values_after-append inputs before (n ∷ ns) ms = values_after-append inputs (before ++ node_value inputs before n ∷ []) ns ms

pub length-values_after : (inputs before : List Bool) (ns : List Node) → length (values_after inputs before ns) ≡ length before + length ns
length-values_after inputs before [] = omega arith
length-values_after inputs before (n ∷ ns) =
    let v = node_value inputs before n in
    omega (arith, length-values_after inputs (before ++ v ∷ []) ns, length-append before (v ∷ []))

pub length-values_of : (inputs : List Bool) (ns : List Node) → length (values_of inputs ns) ≡ length ns
length-values_of inputs ns = omega (arith, length-values_after inputs [] ns)

-- a value that is there stays
pub values_after-front : (inputs before : List Bool) (ns : List Node) → take (length before) (values_after inputs before ns) ≡ before
values_after-front inputs before [] = ap (take (length before)) (sym (append-nil before)) ∙ take-append_seam before []
values_after-front inputs before (n ∷ ns) =
    let v = node_value inputs before n in
    let after = values_after inputs (before ++ v ∷ []) ns in
    sym (take-take (length before) (length (before ++ v ∷ [])) after (omega (arith, length-append before (v ∷ []))))
    ∙ ap (take (length before)) (values_after-front inputs (before ++ v ∷ []) ns) ∙ take-append_seam before (v ∷ [])

pub values_after-get : (inputs before : List Bool) (ns : List Node) (k : ℕ) → k < length before →
    get_or (values_after inputs before ns) k false ≡ get_or before k false
values_after-get inputs before [] k lt = refl
values_after-get inputs before (n ∷ ns) k lt =
    let v = node_value inputs before n in
    values_after-get inputs (before ++ v ∷ []) ns k (omega (arith, length-append before (v ∷ [])))
    ∙ get_or_append_left before (v ∷ []) false k lt

-- a gate is worth the same where its node is worth the same
pub gate_value-same : (vs ws : List Bool) (x : Gate) → get_or vs x.number false ≡ get_or ws x.number false → gate_value vs x ≡ gate_value ws x
gate_value-same vs ws x e = ap (λ b. differ b x.negated) e

pub node_value-same : (inputs vs ws : List Bool) (before : List Node) (n : Node) → IsNext before n →
    ((k : ℕ) → k < length before → get_or vs k false ≡ get_or ws k false) → node_value inputs vs n ≡ node_value inputs ws n
node_value-same inputs vs ws before Constant next same = refl
node_value-same inputs vs ws before (Input m) next same = refl
node_value-same inputs vs ws before (And x y) next same =
    let left = gate_value-same vs ws x (same x.number next.left_before) in
    let right = gate_value-same vs ws y (same y.number next.right_before) in
    λ i. left i && right i
node_value-same inputs vs ws before (Xor x y) next same =
    let left = gate_value-same vs ws x (same x.number next.left_before) in
    let right = gate_value-same vs ws y (same y.number next.right_before) in
    λ i. differ (left i) (right i)

-- each node has its value, from those of all nodes
pub value_at : (inputs vs : List Bool) (before ns : List Node) → IsAfter before ns → length vs ≡ length before → (k : ℕ) (n : Node) →
    slice_get ns k ≡ Some n → get_or (values_after inputs vs ns) (length before + k) false ≡ node_value inputs (values_after inputs vs ns) n
value_at inputs vs before [] h e k n at = cc
value_at inputs vs before (m ∷ ns) h e zero n at =
    let v = node_value inputs vs m in
    let long : length vs < length (vs ++ v ∷ []) = omega (arith, length-append vs (v ∷ [])) in
    let mn : m ≡ n = cc in
    let kept : (k : ℕ) → k < length before → get_or (values_after inputs (vs ++ v ∷ []) ns) k false ≡ get_or vs k false =
    λ k lt. values_after-get inputs vs (m ∷ ns) k (omega arith) in
    ap (λ k. get_or (values_after inputs (vs ++ v ∷ []) ns) k false) (add-zero (length before) ∙ sym e)
    ∙ values_after-get inputs (vs ++ v ∷ []) ns (length vs) long ∙ get_or-append_seam vs v [] false
    ∙ sym (node_value-same inputs (values_after inputs (vs ++ v ∷ []) ns) vs before m h.0 kept)
    ∙ ap (node_value inputs (values_after inputs (vs ++ v ∷ []) ns)) mn
value_at inputs vs before (m ∷ ns) h e (suc k) n at =
    let v = node_value inputs vs m in
    let here : length before + suc k ≡ length (before ++ m ∷ []) + k = omega (arith, length-append before (m ∷ [])) in
    ap (λ j. get_or (values_after inputs vs (m ∷ ns)) j false) here
    ∙ value_at inputs (vs ++ v ∷ []) (before ++ m ∷ []) ns h.1 (omega (arith, length-append before (m ∷ []), length-append vs (v ∷ []))) k n at
