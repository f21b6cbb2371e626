use Rattle.std.proofs.Common.{◌≡◌, take}
use Rattle.pg_lang_meaning.specs.States.{window, put_back}
use Rattle.pg_interp.specs.Writes.{written}
use Rattle.pg_type.specs.Listed.{state_of}
use Rattle.pg_replay.proofs.stored.after_stores.Given as goal

abbrev pub invariant-loop-w : goal.invariant-loop-w
invariant-loop-w l = record {
  cells : (state_of l.state).cells ≡ put_back (state_of l.s) (written (take l.w-index l.writes) (window (state_of l.s)));
  size : l.state.size ≡ l.s.size;
}
