-- One store more is one cell changed.
use Rattle.std.proofs.Common.{◌+◌, get_or, slice_set, sym, ap, ◌∙◌, arith}
use Rattle.pg_word.specs.Sparse.{storage_of}
use Rattle.pg_word.specs.declared.sparse.Sparse.{Sparse}
use Rattle.pg_interp.specs.declared.effect.Write.{Write}
use Rattle.pg_type.specs.Listed.{state_of}
use Rattle.pg_replay.proofs.PutLemmas.{put_back-none, put_back-more, usable_within}
use Rattle.pg_replay.proofs.stored.after_stores.Goals as goal

pub loop-w-init : goal.loop-w-init
loop-w-init c = record {
  cells = ap (λ (t : Sparse). storage_of t.size t.cells) c.in_ok-state.ensures.same ∙ sym (put_back-none (state_of c.args.s.now) c.args.writes.now);
  size = ap (λ (t : Sparse). t.size) c.in_ok-state.ensures.same;
}

pub overflow_add-s : goal.overflow_add-s
overflow_add-s c =
    let inside = c.requires c.loop-w.w-index (record { at = 0; cell = 0 }) c.loop-w-test.true in
    omega (arith, usable_within c.args.s.now.size c.args.s.now.psw c.args.s.now.cells _ inside, c.in_ok-state.ensures.size)

pub stored-requires : goal.stored-requires
stored-requires c =
    let inside = c.requires c.loop-w.w-index (record { at = 0; cell = 0 }) c.loop-w-test.true in
    omega (arith, usable_within c.args.s.now.size c.args.s.now.psw c.args.s.now.cells _ inside, c.loop-w.invariant.size)

pub loop-w-preserved : goal.loop-w-preserved
loop-w-preserved c =
    let x : Write = get_or c.args.writes.now c.loop-w.w-index (record { at = 0; cell = 0 }) in
    let inside = c.requires c.loop-w.w-index (record { at = 0; cell = 0 }) c.loop-w-test.true in
    record {
      cells =
          c.in_ok-next.ensures.cells ∙ ap (λ cells. slice_set cells (c.args.s.now.psw.l + x.at) x.cell) c.loop-w.invariant.cells
          ∙ sym (put_back-more (state_of c.args.s.now) c.args.writes.now c.loop-w.w-index (record { at = 0; cell = 0 }) c.loop-w-test.true inside);
      size = c.in_ok-next.ensures.size ∙ c.loop-w.invariant.size;
    }
