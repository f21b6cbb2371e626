use Rattle.std.proofs.Common.{◌≡◌}
use Rattle.pg_cert_drawn.proofs.PushedRows.{IsListedSoFar}
use Rattle.pg_cert_drawn.proofs.rows.push_words.Given as goal

abbrev pub invariant-loop-word : goal.invariant-loop-word
invariant-loop-word l = record {
  so_far : IsListedSoFar l.fn.state.cells l.state.cells l.first l.words l.at l.word-index;
  same_size : l.state.size ≡ l.fn.state.size;
  same_psw : l.state.psw ≡ l.fn.state.psw;
}
