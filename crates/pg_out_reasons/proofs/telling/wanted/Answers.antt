-- A mark is true only where the instruction is broken, and there is one for each.
use Rattle.std.proofs.Common.{◌≡◌, ℕ, List, Bool, true, length, slice_get, Some, sym, subst, arith}
use Rattle.std.proofs.lemmas.Grind.{common_steps}
use Rattle.pg_out_guarded.specs.Broken.{AreBroken}
use Rattle.pg_out_reasons.proofs.WantedLemmas.{wanted-next, are-wanted}
use Rattle.pg_out_reasons.proofs.telling.wanted.Goals as goal

pub loop-instr-preserved : goal.loop-instr-preserved
loop-instr-preserved c =
    let items : List Bool = c.deref-is_broken-items.result.now in
    record {
      within = omega (arith, c.loop-instr-test.true);
      count = grind (arith, common_steps, c.in_ok-push.ensures.items, c.loop-instr.invariant.count);
      broken = subst (λ xs. (k : ℕ) → slice_get xs k ≡ Some true → slice_get items k ≡ Some true) (sym c.in_ok-push.ensures.items)
          (wanted-next items c.loop-instr.marks.items c.is_wanted.result c.loop-instr.instr c.loop-instr.invariant.count c.loop-instr-test.true
          c.loop-instr.invariant.broken c.is_wanted.ensures);
    }

pub returns : goal.returns
returns c =
    let d = c.args.m.now.desc in
    let items : List Bool = c.deref-is_broken-items.result.now in
    let all : AreBroken c.args.report.now (length d.instrs) items =
    subst (AreBroken c.args.report.now (length d.instrs)) (sym c.deref-is_broken-items.ensures.value) c.in_ok-broken.ensures in
    let whole = all.whole in
    are-wanted c.args.report.now (length d.instrs) items c.loop-instr.marks.items all
    (omega (arith, c.loop-instr.invariant.count, c.loop-instr.invariant.within, c.loop-instr-test.false, whole)) c.loop-instr.invariant.broken
