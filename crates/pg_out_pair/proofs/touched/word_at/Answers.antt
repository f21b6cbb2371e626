-- An address below the length is that of a cell of the storage.
use Rattle.std.proofs.Common.{Some, sym, ap, ◌∙◌, arith}
use Rattle.pg_type.specs.Listed.{state_of}
use Rattle.pg_replay.proofs.WindowLemmas.{window-in, window-out}
use Rattle.pg_out_pair.proofs.touched.word_at.Goals as goal

pub overflow_add-state : goal.overflow_add-state
overflow_add-state c = omega (arith, c.length_of.ensures.within c.args.a c.if-a-length_of.false, c.length_of.ensures.size)

pub cell-requires : goal.cell-requires
cell-requires c = c.length_of.ensures.within c.args.a c.if-a-length_of.false

pub returns-then-a-length_of : goal.returns-then-a-length_of
returns-then-a-length_of c = sym (window-out (state_of c.args.state.now) c.args.a (omega (arith, c.length_of.ensures.value, c.if-a-length_of.true)))

pub returns : goal.returns
returns c = ap Some c.cell.ensures ∙ sym (window-in (state_of c.args.state.now) c.args.a (omega (arith, c.length_of.ensures.value, c.if-a-length_of.false)))
