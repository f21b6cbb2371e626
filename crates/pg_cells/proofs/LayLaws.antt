-- The code's steps lay writes as the definitions say.
use Rattle.std.proofs.Common.{◌≡◌, ℕ, ◌+◌, ◌<◌, ◌≤◌, List, ◌∷◌, length, drop, get_or, sym, ap, ◌∙◌, subst, Result, true}
use Rattle.std.specs.Prelude.{IfOk}
use Rattle.std.specs.declared.alloc.AllocError.{AllocError}
use Rattle.std.proofs.lemmas.List.{drop_more, drop_all}
use Rattle.pg_circuit.specs.declared.node.Gate.{Gate}
use Rattle.pg_circuit.specs.declared.node.Node.{Node}
use Rattle.pg_circuit.specs.Made.{constant_gate, and_made}
use Rattle.pg_vec.specs.Strings.{mux_made, same_made}
use Rattle.pg_cells.specs.declared.cell.Write.{Write}
use Rattle.pg_cells.specs.Made.{hit_made, over_made, laid_made}

pub hit_step : (r : Result Gate AllocError) (nodes : List Node) (address : List Gate) (x : Write) (at : List Gate) (same : Gate) (n new : List Node) →
    at ≡ x.address → (same, n) ≡ same_made nodes (constant_gate true) address at → IfOk r (λ g. (g, new) ≡ and_made n x.guard same) → IfOk r (λ g. (g, new) ≡ hit_made nodes address x)
unfolding hit_made
hit_step r nodes address x at same n new ea e h =
    subst (λ (k : Gate × List Node). IfOk r (λ g. (g, new) ≡ k))
    (ap (λ (k : Gate × List Node). and_made k.1 x.guard k.0) (e ∙ ap (λ zs. same_made nodes (constant_gate true) address zs) ea)) h

pub laid_none : (nodes : List Node) (address : List Gate) (writes : List Write) (word : List Gate) (i : ℕ) → length writes ≤ i → laid_made nodes address (drop i writes) word ≡ (word, nodes)
unfolding laid_made
laid_none nodes address writes word i l = ap (λ zs. laid_made nodes address zs word) (drop_all i writes l)

pub laid_next : (nodes : List Node) (address : List Gate) (writes : List Write) (word : List Gate) (i : ℕ) (x : Write) (next : List Gate) (new : List Node) →
    i < length writes → x ≡ get_or writes i x → (next, new) ≡ over_made nodes address x word →
    laid_made new address (drop (i + 1) writes) next ≡ laid_made nodes address (drop i writes) word
unfolding laid_made
laid_next nodes address writes word i x next new l is e =
    ap (λ (k : List Gate × List Node). laid_made k.1 address (drop (i + 1) writes) k.0) e
    ∙ ap (λ (zs : List Write). laid_made nodes address zs word) (ap (λ (y : Write). y ∷ drop (i + 1) writes) is ∙ sym (drop_more writes i x l))

pub over_step : (nodes : List Node) (address : List Gate) (x : Write) (value word : List Gate) (hit : Gate) (n : List Node) → value ≡ x.value → (hit, n) ≡ hit_made nodes address x →
    mux_made n hit value word ≡ over_made nodes address x word
unfolding over_made
over_step nodes address x value word hit n ev e =
    ap (λ zs. mux_made n hit zs word) ev ∙ ap (λ (k : Gate × List Node). mux_made k.1 k.0 x.value word) e

pub over_write : (nodes new : List Node) (address : List Gate) (x : Write) (at word next : List Gate) → at ≡ word → (next, new) ≡ over_made nodes address x at → (next, new) ≡ over_made nodes address x word
over_write nodes new address x at word next ea e = e ∙ ap (λ zs. over_made nodes address x zs) ea
