use Rattle.std.proofs.Common.{◌≡◌, ◌+◌, ◌<◌, ℕ, Bool, length, slice_get, Some, sym, ap, ◌∙◌, subst, arith}
use Rattle.std.proofs.lemmas.Grind.{common_steps}
use Rattle.pg_cert.specs.Verdicts.{breaks, kind_count, marks_of}
use Rattle.pg_out_guarded.proofs.BrokenLemmas.{each-next}
use Rattle.pg_out_guarded.proofs.broken.broken_instrs.Goals as goal

pub loop-instr-preserved : goal.loop-instr-preserved
loop-instr-preserved c =
    let n = c.loop-instr.instr in
    let f : ℕ → Bool = λ k. breaks (marks_of (kind_count c.args.report.now.family) c.args.report.now.marks k) in
    record {
      count = grind (arith, common_steps, c.in_ok-push.ensures.items, c.loop-instr.invariant.count);
      each = subst (λ xs. (k : ℕ) → k < n + 1 → slice_get xs k ≡ Some (f k)) (sym c.in_ok-push.ensures.items)
          (each-next c.loop-instr.list.items c.breaks.result n f c.loop-instr.invariant.count c.loop-instr.invariant.each (c.breaks.ensures ∙ ap breaks c.marks_at.ensures.marks));
    }
