use Rattle.std.proofs.Common.{◌≡◌, ◌∙◌, ◌++◌, ◌∷◌, [], ℕ, ℤ, List, arith, ap, sym, subst, take, pos, slice_index_or, None}
use Rattle.pg_cnf.specs.Literals.{IsClause}
use Rattle.pg_watch.specs.Trail.{Trail, IsTrail, Extends, cut}
use Rattle.std.proofs.lemmas.Option.{get_or_from_slice_get}
use Rattle.pg_watch.proofs.WatchedLemmas.{assigned-within}
use Rattle.pg_proof.specs.declared.step.Step.{Step}
use Rattle.pg_sat.specs.Solving.{IsSolving}
use Rattle.pg_sat.proofs.SolvingLemmas.{if_done}
use Rattle.pg_sat.proofs.ConflictLemmas.{lits_clause, backed}
use Rattle.pg_sat.proofs.conflict.back.Goals as goal

pub add-requires-clause-clause : goal.add-requires-clause-clause
add-requires-clause-clause c =
    let old = c.args.watches.now in
    let same : c.undo.new.self.trail.variables ≡ c.args.cnf.now.variables = ap (λ (t : Trail). t.variables) c.undo.ensures.trail ∙ c.requires.solving.over.same in
    let went = c.in_ok-lesson.ensures in
    subst (λ (n : ℕ). IsClause n c.in_ok-lesson.lesson.clause) (sym same)
    (subst (IsClause c.args.cnf.now.variables) (sym went.held)
    (lits_clause c.args.cnf.now.clauses c.args.cnf.now.variables old.clauses old.trail c.args.steps.now.items c.requires.solving
    went.taught.set went.step went.taught.learned c.args.cnf.now.variables (omega arith)))

pub returns-clause-solving : goal.returns-clause-solving
returns-clause-solving c =
    let cnf = c.args.cnf.now in
    let old = c.args.watches.now in
    let went = c.in_ok-lesson.ensures in
    let step = went.step in
    let jump = c.in_ok-lesson.lesson.jump in
    let ds = c.settle.new.self.clauses in
    let cut_trail : c.add.new.self.trail ≡ cut old.trail jump = c.add.ensures.trail ∙ c.undo.ensures.trail in
    let held : c.add.new.self.clauses ≡ old.clauses ++ step.lits ∷ [] =
    c.in_ok-add.ensures.clauses ∙ ap (λ (xs : List (List ℤ)). xs ++ c.in_ok-lesson.lesson.clause ∷ []) c.undo.ensures.clauses
    ∙ ap (λ (zs : List ℤ). old.clauses ++ zs ∷ []) went.held in
    let right : IsTrail c.settle.new.self.clauses (cut old.trail jump) =
    subst (λ (xs : List (List ℤ)). IsTrail xs (cut old.trail jump)) (sym c.settle.ensures.clauses)
    (subst (λ (t : Trail). IsTrail c.add.new.self.clauses t) cut_trail c.trail-cut.ensures.right) in
    if_done c.settle.result (Extends c.add.new.self.trail c.settle.new.self.trail)
    (IsSolving cnf.clauses cnf.variables c.settle.new.self.clauses c.settle.new.self.trail c.log_step.new.steps.items) c.settle.ensures.trail
    (λ extends. subst (λ (ss : List Step). IsSolving cnf.clauses cnf.variables c.settle.new.self.clauses c.settle.new.self.trail ss) (sym went.logged)
    (backed cnf.clauses cnf.variables old.clauses old.trail c.args.steps.now.items c.requires.solving went.taught.set step
    went.taught.learned c.settle.new.self.clauses c.settle.new.self.trail jump (slice_index_or old.trail.literals went.place (pos 0))
    (take c.args.last old.trail.literals) c.trail-trail.ensures.right went.taught.asserting went.taught.fresh went.taught.uncovered
    went.cut (c.settle.ensures.clauses ∙ held) right (subst (λ (t : Trail). Extends t c.settle.new.self.trail) cut_trail extends)))

pub undo-requires-clause-within : goal.undo-requires-clause-within
undo-requires-clause-within c =
    assigned-within c.args.watches.now.clauses c.args.watches.now.trail c.in_ok-lesson.lesson.jump c.trail-trail.ensures.right c.in_ok-lesson.ensures.cut.assigned

pub undo-requires-clause-assigned : goal.undo-requires-clause-assigned
undo-requires-clause-assigned c = get_or_from_slice_get c.args.watches.now.trail.reasons c.in_ok-lesson.lesson.jump None None c.in_ok-lesson.ensures.cut.assigned

pub free_from-requires : goal.free_from-requires
free_from-requires c =
    assigned-within c.args.watches.now.clauses c.args.watches.now.trail c.in_ok-lesson.lesson.jump c.trail-trail.ensures.right c.in_ok-lesson.ensures.cut.assigned
