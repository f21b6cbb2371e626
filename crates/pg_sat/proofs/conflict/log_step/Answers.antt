use Rattle.std.proofs.Common.{◌∙◌, arith, sym, subst}
use Rattle.pg_cnf.specs.Literals.{IsClause}
use Rattle.pg_watch.proofs.WatchedLemmas.{assigned-within}
use Rattle.pg_sat.proofs.ConflictLemmas.{lits_within, lits_clause}
use Rattle.pg_sat.proofs.conflict.log_step.Goals as goal

pub learn_at-requires-clause-there : goal.learn_at-requires-clause-there
learn_at-requires-clause-there c =
    assigned-within c.args.watches.now.clauses c.args.watches.now.trail c.args.last c.trail-trail.ensures.right c.requires.last.assigned

pub cut_place-requires-clause-there : goal.cut_place-requires-clause-there
cut_place-requires-clause-there c =
    assigned-within c.args.watches.now.clauses c.args.watches.now.trail c.args.last c.trail-trail.ensures.right c.requires.last.assigned

pub cut_place-requires-clause-within : goal.cut_place-requires-clause-within
cut_place-requires-clause-within c =
    let old = c.args.watches.now in
    lits_within c.args.cnf.now.clauses c.args.cnf.now.variables old.clauses old.trail c.args.steps.now.items c.requires.solving
    c.in_ok-learned.ensures.set c.in_ok-learned.learned.step c.in_ok-learned.ensures.learned

pub clause_of-requires : goal.clause_of-requires
clause_of-requires c =
    let old = c.args.watches.now in
    subst (IsClause 2147483647) (sym c.as_slice.ensures)
    (lits_clause c.args.cnf.now.clauses c.args.cnf.now.variables old.clauses old.trail c.args.steps.now.items c.requires.solving
    c.in_ok-learned.ensures.set c.in_ok-learned.learned.step c.in_ok-learned.ensures.learned 2147483647 (omega (arith, c.requires.solving.over.few)))

pub returns : goal.returns
returns c = record {
  place = c.in_ok-learned.learned.place;
  step = c.in_ok-learned.learned.step;
  taught = c.in_ok-learned.ensures;
  logged = c.in_ok-push.ensures.items;
  held = c.in_ok-clause.ensures ∙ c.as_slice.ensures;
  cut = c.in_ok-jump.ensures;
}
