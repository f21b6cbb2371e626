use Rattle.std.proofs.Common.{List, ℤ, length, subst, sym, ap, ◌∙◌, ◌++◌, ◌∷◌, [], Bool}
use Rattle.pg_watch.specs.Trail.{clause_at}
use Rattle.pg_proof.specs.Places.{AreWithin}
use Rattle.pg_proof.specs.Marked.{marked}
use Rattle.pg_sat.proofs.TraceLemmas.{begun, conflict_within}
use Rattle.pg_sat.proofs.trace.begin.Goals as goal

pub show-requires : goal.show-requires
show-requires c =
    subst (λ (zs : List ℤ). AreWithin (length c.in_ok-flags.flags) zs) (sym c.clause-clause.ensures)
    (conflict_within c.args.variables c.args.conflict c.args.watches.now.clauses c.in_ok-flags.flags c.requires.over.right c.requires.conflict.numbered c.in_ok-flags.ensures)

pub mark-requires : goal.mark-requires
mark-requires c =
    subst (λ (zs : List ℤ). AreWithin (length c.in_ok-flags.flags) zs) (sym c.clause-clause.ensures)
    (conflict_within c.args.variables c.args.conflict c.args.watches.now.clauses c.in_ok-flags.flags c.requires.over.right c.requires.conflict.numbered c.in_ok-flags.ensures)

pub returns : goal.returns
returns c =
    begun c.args.variables c.args.watches.now.clauses c.args.watches.now.trail.literals c.args.conflict c.mark.new.self c.push.new.self.items c.requires.over.right
    c.requires.conflict (c.mark.ensures ∙ ap (λ (zs : List ℤ). marked c.in_ok-flags.flags zs) c.clause-clause.ensures
    ∙ ap (λ (fs : List Bool). marked fs (clause_at c.args.watches.now.clauses c.args.conflict)) c.in_ok-flags.ensures)
    (c.in_ok-push.ensures.items ∙ ap (λ xs. xs ++ c.args.conflict ∷ []) c.new-hints.ensures.items)
