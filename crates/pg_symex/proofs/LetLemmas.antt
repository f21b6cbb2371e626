-- Lets, the newest first.
use Rattle.std.proofs.Common.{◌≡◌, ℕ, ◌-◌, ◌≤◌, List, length, take, drop, reverse, ap, sym, ◌∙◌, arith, map}
use Rattle.std.proofs.lemmas.List.{length-reverse, take-map}
use Rattle.pg_lang_valid.proofs.GrowLemmas.{oldest}
use Rattle.pg_symex.specs.Flow.{SymLets}
use Rattle.pg_circuit.specs.declared.node.Gate.{Gate}

-- the oldest lets of a buffer, as they are seen
pub oldest_seen : {X : Type 0} (f : X → List ℕ × List Gate) (xs ys : List X) (n : ℕ) (seen : SymLets) →
    ys ≡ take n xs → reverse (map f xs) ≡ seen → n ≤ length seen → reverse (map f ys) ≡ drop (length seen - n) seen
oldest_seen f xs ys n seen e v h =
    let room : n ≤ length (map f xs) = omega (arith, ap length v, length-reverse (map f xs)) in
    ap (λ zs. reverse (map f zs)) e ∙ ap reverse (sym (take-map f n xs)) ∙ oldest (map f xs) n room
    ∙ ap (λ zs. drop (length zs - n) zs) v
