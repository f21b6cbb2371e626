use Rattle.std.proofs.Common.{ℕ, subst}
use Rattle.pg_prog_explain.specs.Explaining.{HaltsAt, explain_words}
use Rattle.pg_prog_explain.proofs.ExplainLemmas.{halts-later}
use Rattle.pg_prog_explain.proofs.found.find.Goals as goal

pub returns-in-Err-tell-clause-halts : goal.returns-in-Err-tell-clause-halts
returns-in-Err-tell-clause-halts g c =
    let w = explain_words c.args.request.now in
    let was = g.F.Shelf.files c.args.shelf.now in
    let now = g.F.Shelf.files c.tell.new.shelf in
    let before = g.F.Shelf.reads c.args.shelf.now in
    let later = g.F.Shelf.reads c.tell.new.shelf in
    let after = g.F.Shelf.saves c.tell.new.shelf in
    let reads = c.load.ensures.reads in
    subst (λ (saves : ℕ). HaltsAt w was now before later saves after c.in-Err-tell.halt) reads.same_saves
    (halts-later w was _ now before _ later _ after c.in-Err-tell.halt reads.same_files reads.later c.in-Err-tell.ensures.halts)
