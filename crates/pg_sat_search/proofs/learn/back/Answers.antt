use Rattle.std.proofs.Common.{◌≡◌, ◌∙◌, ◌+◌, ◌++◌, ◌∷◌, [], ℕ, List, Some, None, length, map, arith, ap, sym, subst}
use Rattle.std.proofs.lemmas.List.{length-append}
use Rattle.std.proofs.lemmas.Option.{get_or_from_slice_get}
use Rattle.pg_cnf.specs.Literals.{IsClause}
use Rattle.pg_watch.proofs.WatchedLemmas.{assigned-within}
use Rattle.pg_proof.specs.declared.step.Step.{Step}
use Rattle.pg_proof.specs.State.{variables_of}
use Rattle.pg_sat_search.specs.Held.{renumbered, IsForgetting}
use Rattle.pg_sat_search.proofs.HeldLemmas.{lits_clause}
use Rattle.pg_sat_search.proofs.ForgettingLemmas.{room, taught, on_ok}
use Rattle.pg_sat_search.proofs.learn.back.Goals as goal

pub free_from-requires : goal.free_from-requires
free_from-requires c =
    let old = c.args.held.now.watches in
    assigned-within old.clauses old.trail c.in_ok-lesson.lesson.jump c.trail-trail.ensures.right c.in_ok-lesson.ensures.cut.assigned

pub hold-requires-clause-within : goal.hold-requires-clause-within
hold-requires-clause-within c =
    let old = c.args.held.now.watches in
    assigned-within old.clauses old.trail c.in_ok-lesson.lesson.jump c.trail-trail.ensures.right c.in_ok-lesson.ensures.cut.assigned

pub hold-requires-clause-assigned : goal.hold-requires-clause-assigned
hold-requires-clause-assigned c =
    get_or_from_slice_get c.args.held.now.watches.trail.reasons c.in_ok-lesson.lesson.jump None None c.in_ok-lesson.ensures.cut.assigned

pub hold-requires-clause-room : goal.hold-requires-clause-room
hold-requires-clause-room c =
    let cnf = c.args.cnf.now in
    let held = c.args.held.now in
    room cnf.clauses cnf.variables held.watches held.numbers.items c.args.steps.now.items c.requires.forgetting cnf.few_clauses c.requires.few

pub hold-requires-clause-clause : goal.hold-requires-clause-clause
hold-requires-clause-clause c =
    let cnf = c.args.cnf.now in
    let old = c.args.held.now.watches in
    let kept = c.requires.forgetting in
    let went = c.in_ok-lesson.ensures in
    subst (λ (n : ℕ). IsClause n c.in_ok-lesson.lesson.clause) (sym kept.over.same)
    (subst (IsClause cnf.variables) (sym went.clause_is)
    (lits_clause (variables_of cnf.clauses) cnf.variables (map Some old.clauses) went.step kept.greatest went.valid))

pub renew-requires-clause-forgetting : goal.renew-requires-clause-forgetting
renew-requires-clause-forgetting c =
    let cnf = c.args.cnf.now in
    let held = c.args.held.now in
    let new = c.hold.new.held in
    let before = c.args.steps.now.items in
    let went = c.in_ok-lesson.ensures in
    let more : length (before ++ renumbered held.numbers.items went.step ∷ []) ≡ length before + 1 =
    length-append before (renumbered held.numbers.items went.step ∷ []) in
    subst (λ (ss : List Step). IsForgetting cnf.clauses cnf.variables new.watches new.numbers.items ss) (sym c.as_slice.ensures.value)
    (taught cnf.clauses cnf.variables held.watches new.watches held.numbers.items new.numbers.items before c.log_step.new.steps.items
    c.in_ok-lesson.lesson.clause c.in_ok-lesson.lesson.jump (c.len.result + c.len-2.result) c.requires.forgetting c.trail-trail.ensures.right went
    c.in_ok-hold.ensures.clauses c.hold.ensures.trail c.in_ok-hold.ensures.numbers
    (omega (arith, c.len.ensures, c.len-2.ensures, ap length went.logged, more)))

pub renew-requires-clause-few : goal.renew-requires-clause-few
renew-requires-clause-few c =
    let held = c.args.held.now in
    let before = c.args.steps.now.items in
    let went = c.in_ok-lesson.ensures in
    omega (arith, c.requires.few, ap length c.as_slice.ensures.value, ap length went.logged, length-append before (renumbered held.numbers.items went.step ∷ []))

pub returns-clause-steps : goal.returns-clause-steps
returns-clause-steps c =
    let held = c.args.held.now in
    let before = c.args.steps.now.items in
    let went = c.in_ok-lesson.ensures in
    on_ok c.settle.result (length c.log_step.new.steps.items ≡ length before + 1)
    (ap length went.logged ∙ length-append before (renumbered held.numbers.items went.step ∷ []))
