use Rattle.std.proofs.Common.{◌≡◌, ◌∙◌, ◌<◌, [], ℕ, ℤ, List, length, get_or, ap, subst, sym, arith}
use Rattle.std.proofs.lemmas.List.{get_or_read}
use Rattle.pg_cnf.specs.Literals.{IsClause}
use Rattle.pg_watch.specs.Trail.{Trail}
use Rattle.pg_sat_search.proofs.HeldLemmas.{clause_right}
use Rattle.pg_sat_search.proofs.rebuild.hold_each.Goals as goal

pub hold_one-requires-clause-clause : goal.hold_one-requires-clause-clause
hold_one-requires-clause-clause c =
    let kept = c.args.learned.now.clauses in
    let place = c.loop-place.place in
    let clause = c.index-clauses-place.result in
    let lt : place < length kept.clauses = omega (arith, c.loop-place-test.true, c.len-place-end.ensures, c.requires.as_many) in
    let here = c.index-clauses-place.is ∙ ap (λ (cs : List (List ℤ)). get_or cs place clause) c.as_slice-clauses.ensures in
    let same : clause ≡ get_or kept.clauses place [] = get_or_read kept.clauses place clause lt here [] in
    let over : c.loop-place.held.watches.trail.variables ≡ kept.variables =
    ap (λ (t : Trail). t.variables) c.loop-place.invariant.trail ∙ c.requires.variables in
    subst (λ (n : ℕ). IsClause n clause) (sym over)
    (subst (IsClause kept.variables) (sym same) (clause_right kept.variables kept.clauses place kept.are_clauses lt))
