use Rattle.std.proofs.Common.{length, sym, ap, ◌∙◌}
use Rattle.pg_proof.specs.Covered.{hung_of}
use Rattle.pg_proof.specs.Marked.{marked}
use Rattle.pg_proof.proofs.CoverLemmas.{covered_first, covered_rest}
use Rattle.pg_proof.proofs.cover.is_covered.Goals as goal

pub returns-then-place_passes-clause-covered : goal.returns-then-place_passes-clause-covered
returns-then-place_passes-clause-covered c =
    covered_first (length c.args.flags.now) c.mark_known.new.flags c.args.clauses.now (hung_of c.args.hung.now.heads.items c.args.hung.now.links.items) c.args.literals.now
    (c.mark_known.ensures.marked ∙ ap (λ fs. marked fs c.args.literals.now) c.clear.ensures.down) c.requires.held (c.requires.hung.hangs c.requires.made)
    (sym c.place_passes.ensures ∙ c.if-place_passes.true)

pub returns-clause-covered : goal.returns-clause-covered
returns-clause-covered c =
    c.any_passes.ensures
    ∙ covered_rest (length c.args.flags.now) c.mark_known.new.flags c.args.clauses.now (hung_of c.args.hung.now.heads.items c.args.hung.now.links.items) c.args.literals.now
    (c.mark_known.ensures.marked ∙ ap (λ fs. marked fs c.args.literals.now) c.clear.ensures.down) c.requires.held (c.requires.hung.hangs c.requires.made)
    (sym c.place_passes.ensures ∙ c.if-place_passes.false)
