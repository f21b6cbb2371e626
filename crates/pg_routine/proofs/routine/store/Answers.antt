use Rattle.std.proofs.Common.{slice_index_or, ◌∙◌, arith}
use Rattle.std.proofs.lemmas.List.{drop_more}
use Rattle.pg_interp.specs.declared.effect.Write.{Write}
use Rattle.pg_routine.proofs.StoreLemmas.{Storing-next, Storing-all}
use Rattle.pg_routine.proofs.routine.store.Goals as goal

pub loop-write-preserved : goal.loop-write-preserved
loop-write-preserved g c =
    let writes = c.args.writes.now in
    let n = c.loop-write.write-index in
    let d : Write = record { at = 0; cell = 0 } in
    record {
      stores = Storing-next c.args.span.from c.args.span.len writes n (slice_index_or writes n d) _ _ _ c.loop-write.invariant.stores
          (drop_more writes n d c.loop-write-test.true) c.requires.within (c.requires.inside n d c.loop-write-test.true) c.poke.ensures.poked;
      fixed = c.poke.ensures.fixed ∙ c.loop-write.invariant.fixed;
    }

pub returns-clause-grant : goal.returns-clause-grant
returns-clause-grant g c =
    Storing-all c.args.span.from c.args.span.len c.args.writes.now c.loop-write.write-index _ _ c.loop-write.invariant.stores
    (omega (arith, c.loop-write-test.false)) c.requires.within
