use Rattle.std.proofs.Common.{◌≡◌, drop}
use Rattle.std.specs.List.{list_any}
use Rattle.pg_proof.specs.Places.{is_marked, place}
use Rattle.pg_proof.specs.Covered.{place_passes, hung_of}
use Rattle.pg_proof.proofs.cover.any_passes.Given as goal

abbrev pub invariant-loop-literal : goal.invariant-loop-literal
invariant-loop-literal l =
    list_any (λ z. place_passes (is_marked l.flags) l.clauses (hung_of l.hung.heads.items l.hung.links.items) (place z)) (drop l.literal-index l.literals)
    ≡ list_any (λ z. place_passes (is_marked l.flags) l.clauses (hung_of l.hung.heads.items l.hung.links.items) (place z)) l.literals
