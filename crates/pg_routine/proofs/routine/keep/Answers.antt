use Rattle.std.proofs.Common.{◌≡◌, ℕ, List, length, take, drop, slice_index_or, sym, ◌∙◌, ap, subst, arith, take_all}
use Rattle.std.proofs.lemmas.List.Elements.{All-nil, All-more, All-same}
use Rattle.pg_interp.specs.declared.effect.Write.{Write}
use Rattle.pg_interp.specs.Writes.{overlaid}
use Rattle.pg_routine.proofs.GrantLaws.{guest-cell, guest-length}
use Rattle.pg_routine.proofs.KeepLemmas.{IsKept, written-kept, written-changed}
use Rattle.pg_routine.proofs.routine.keep.Goals as goal

pub loop-write-init : goal.loop-write-init
loop-write-init g c = record { kept = All-nil (IsKept (take c.args.span.len (drop c.args.span.from (g.H.Hardware.machinery c.args.hw.now).state.cells)) c.args.writes.now) }

pub returns-then-overlaid-held-clause-changed : goal.returns-then-overlaid-held-clause-changed
returns-then-overlaid-held-clause-changed g c _ =
    let cells = (g.H.Hardware.machinery c.args.hw.now).state.cells in
    let d : Write = record { at = 0; cell = 0 } in
    let inside = c.requires.inside c.loop-write.write-index d c.loop-write-test.true in
    let is = guest-cell cells c.args.span.from c.args.span.len _ c.peek-held.result inside c.peek-held.ensures in
    written-changed _ c.overlaid.result c.args.writes.now (take c.args.span.len (drop c.args.span.from cells))
    (let long = guest-length cells c.args.span.from c.args.span.len c.requires.within in omega (arith, long, inside))
    (c.overlaid.ensures ∙ ap (overlaid c.args.writes.now (slice_index_or c.args.writes.now c.loop-write.write-index d).at) (sym is))
    (λ same. c.if-overlaid-held.true (same ∙ is))

pub loop-write-preserved : goal.loop-write-preserved
loop-write-preserved g c =
    let cells = (g.H.Hardware.machinery c.args.hw.now).state.cells in
    let d : Write = record { at = 0; cell = 0 } in
    let inside = c.requires.inside c.loop-write.write-index d c.loop-write-test.true in
    let is = guest-cell cells c.args.span.from c.args.span.len _ c.peek-held.result inside c.peek-held.ensures in
    record {
      kept = All-more (IsKept (take c.args.span.len (drop c.args.span.from cells)) c.args.writes.now) c.args.writes.now c.loop-write.write-index d c.loop-write-test.true c.loop-write.invariant.kept
          (ap (overlaid c.args.writes.now (slice_index_or c.args.writes.now c.loop-write.write-index d).at) is ∙ sym c.overlaid.ensures ∙ c.if-overlaid-held.false ∙ sym is);
    }

pub returns-clause-kept : goal.returns-clause-kept
returns-clause-kept g c _ =
    let cells = (g.H.Hardware.machinery c.args.hw.now).state.cells in
    let kept = IsKept (take c.args.span.len (drop c.args.span.from cells)) c.args.writes.now in
    let all = take_all c.loop-write.write-index c.args.writes.now (omega (arith, c.loop-write-test.false)) in
    written-kept c.args.writes.now (take c.args.span.len (drop c.args.span.from cells)) (All-same kept _ _ (sym all) c.loop-write.invariant.kept)
