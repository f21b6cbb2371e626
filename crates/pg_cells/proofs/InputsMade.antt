-- Inputs that are made one after another.
use Rattle.std.proofs.Common.{◌≡◌, ℕ, zero, suc, ◌+◌, ◌≤◌, List, [], ◌∷◌, ◌++◌, length, refl, sym, ap, ◌∙◌, subst, arith, append_assoc, length-append}
use Rattle.std.proofs.lemmas.List.{append-nil}
use Rattle.pg_circuit.specs.declared.node.Gate.{Gate}
use Rattle.pg_circuit.specs.declared.node.Node.{Node}
use Rattle.pg_circuit.specs.declared.node.Node.TheVariants.{Input}
use Rattle.pg_circuit.specs.Nodes.{input_count}
use Rattle.pg_circuit.specs.Made.{gate_at, input_made}
use Rattle.pg_circuit.proofs.CircuitLemmas.{input_count-append}
use Rattle.pg_cells.specs.Over.{gates_from}
use Rattle.pg_cells.specs.Made.{inputs_from, inputs_made}
use Rattle.pg_cells.specs.Means.{GrowsBy}
use Rattle.pg_cells.proofs.TouchLaws.{inputs-front, length-inputs_from, input_count-inputs_from}

gates_more : (i k : ℕ) → gates_from k (i + 1) ≡ gates_from k i ++ gate_at (k + i) ∷ []
gates_more zero k = ap (λ n. gate_at n ∷ []) (omega arith)
gates_more (suc i) k =
    let e : suc i + 1 ≡ suc (i + 1) = omega arith in
    let f : k + 1 + i ≡ k + suc i = omega arith in
    ap (gates_from k) e ∙ ap (λ gs. gate_at k ∷ gs) (gates_more i (k + 1) ∙ ap (λ n. gates_from (k + 1) i ++ gate_at n ∷ []) f)

inputs_more : (i k : ℕ) → inputs_from k (i + 1) ≡ inputs_from k i ++ Input (k + i) ∷ []
inputs_more zero k = ap (λ n. Input n ∷ []) (omega arith)
inputs_more (suc i) k =
    let e : suc i + 1 ≡ suc (i + 1) = omega arith in
    let f : k + 1 + i ≡ k + suc i = omega arith in
    ap (inputs_from k) e ∙ ap (λ ns. Input k ∷ ns) (inputs_more i (k + 1) ∙ ap (λ n. inputs_from (k + 1) i ++ Input n ∷ []) f)

-- so many inputs were made
pub record InputsSoFar (old : List Node) (i : ℕ) (bits : List Gate) (nodes : List Node) : Type 0 where
  pub bits_are : bits ≡ gates_from (length old) i
  pub nodes_are : nodes ≡ old ++ inputs_from (input_count old) i

pub none_so_far : (old : List Node) → InputsSoFar old 0 [] old
none_so_far old = record { bits_are = refl; nodes_are = sym (append-nil old) }

pub one_more : (old : List Node) (i : ℕ) (bits : List Gate) (nodes : List Node) (bit : Gate) (new : List Node) → InputsSoFar old i bits nodes → (bit, new) ≡ input_made nodes → InputsSoFar old (i + 1) (bits ++ bit ∷ []) new
unfolding input_made
one_more old i bits nodes bit new h e =
    let n = input_count old in
    let here : length nodes ≡ length old + i = ap length h.nodes_are ∙ length-append old (inputs_from n i) ∙ ap (λ k. length old + k) (length-inputs_from i n) in
    let count : input_count nodes ≡ n + i = ap input_count h.nodes_are ∙ input_count-append old (inputs_from n i) ∙ ap (λ k. n + k) (input_count-inputs_from i n) in
    record {
      bits_are = ap (λ gs. gs ++ bit ∷ []) h.bits_are ∙ ap (λ (m : Gate × List Node). gates_from (length old) i ++ m.0 ∷ []) e ∙ ap (λ k. gates_from (length old) i ++ gate_at k ∷ []) here ∙ sym (gates_more i (length old));
      nodes_are = ap (λ (m : Gate × List Node). m.1) e ∙ ap (λ k. nodes ++ Input k ∷ []) count ∙ ap (λ ns. ns ++ Input (n + i) ∷ []) h.nodes_are ∙ append_assoc old (inputs_from n i) (Input (n + i) ∷ []) ∙ ap (λ ns. old ++ ns) (sym (inputs_more i n));
    }

pub grown_so_far : (old : List Node) (i : ℕ) (bits : List Gate) (nodes : List Node) (count : ℕ) → InputsSoFar old i bits nodes → i ≤ count → GrowsBy old nodes count count
grown_so_far old i bits nodes count h l =
    let n = input_count old in
    subst (λ (ns : List Node). GrowsBy old ns count count) (sym h.nodes_are)
    (record {
      front = inputs-front old i;
      few = omega (arith, length-append old (inputs_from n i), length-inputs_from i n);
      few_inputs = omega (arith, input_count-append old (inputs_from n i), input_count-inputs_from i n);
    })

pub all_so_far : (old : List Node) (i : ℕ) (bits : List Gate) (nodes : List Node) (count : ℕ) → InputsSoFar old i bits nodes → i ≡ count → (bits, nodes) ≡ inputs_made old count
unfolding inputs_made
all_so_far old i bits nodes count h e =
    let b = h.bits_are ∙ ap (gates_from (length old)) e in
    let n = h.nodes_are ∙ ap (λ k. old ++ inputs_from (input_count old) k) e in
    λ j. (b j, n j)
