use Rattle.std.proofs.Common.{SFits, w32, rules, sym, subst}
use Rattle.std.proofs.lemmas.Int.{to_z-of_z}
use Rattle.pg_watch.specs.Watching.{literals_at, IsPair}
use Rattle.pg_watch.proofs.VisitLemmas.{literal_there, pair_read, pair_found}
use Rattle.pg_watch.proofs.visit.visit_clause.Goals as goal

pub value-requires : goal.value-requires
value-requires c =
    let fits : SFits w32 c.args.watch.blocker = search rules in
    simp to_z-of_z (literal_there _ _ c.args.watch.clause c.args.watch.blocker c.requires.index.right c.requires.entry.clause c.requires.entry.blocker)

pub visit_beside-requires-clause-pair : goal.visit_beside-requires-clause-pair
visit_beside-requires-clause-pair c =
    let fits : SFits w32 c.args.gone = c.ranges.gone in
    let ps = c.args.index.now.pairs.items in
    let has = simp to_z-of_z at c.in-Some.ensures.has_gone in
    let e = pair_read _ ps c.args.watch.clause _ c.requires.index.pairs_long c.requires.entry.clause c.index-pair.ensures in
    let h = pair_found _ _ ps c.args.watch.clause _ c.args.gone c.requires.index.pairs c.requires.index.pairs_long c.requires.entry.clause c.index-pair.ensures c.requires.literal has in
    subst (IsPair (literals_at c.args.clauses.now c.args.watch.clause)) (sym e) h

pub visit_beside-requires-clause-apart : goal.visit_beside-requires-clause-apart
visit_beside-requires-clause-apart c =
    let fits : SFits w32 c.args.gone = c.ranges.gone in
    let fits_other : SFits w32 c.in-Some.other = search rules in
    let ps = c.args.index.now.pairs.items in
    let has = simp to_z-of_z at c.in-Some.ensures.has_gone in
    let apart = simp to_z-of_z at c.in-Some.ensures.apart in
    let h = pair_found _ _ ps c.args.watch.clause _ c.args.gone c.requires.index.pairs c.requires.index.pairs_long c.requires.entry.clause c.index-pair.ensures c.requires.literal has in
    simp to_z-of_z (apart h.apart)
