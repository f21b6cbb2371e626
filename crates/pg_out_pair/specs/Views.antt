-- The window that is seen of a storage, as plain data.
use Rattle.std.specs.Prelude.{ℕ, List}
use Rattle.pg_lang_meaning.specs.States.{window}
use Rattle.pg_type.specs.Listed.{state_of}
use Rattle.pg_out_pair.specs.declared.seen.Seen.{Seen}
use Rattle.pg_out_pair.specs.Telling.{seen}

abbrev pub seen_window : Seen → List ℕ
seen_window x = window (seen x.psw (state_of x.state.now))
