-- Words that are put into a grant.
use Rattle.std.specs.Prelude.{ℕ, List, length}
use Rattle.pg_hw.specs.Machinery.{Machinery}
use Rattle.pg_hw.specs.Running.{after_pokes}
use Rattle.pg_routine.specs.Granting.{with_grant}

-- a hardware into which words were poked, from a cell on
abbrev pub with_words : ℕ → List ℕ → Machinery → Machinery
with_words base words h = record h {
  state = record h.state { cells = with_grant h.state.cells base words };
  tally = after_pokes h.tally (length words);
}
