-- States of which only the cells that are not zero are listed.
use Rattle.pg_word.specs.declared.sparse.Sparse.{Sparse}
use Rattle.pg_word.specs.Sparse.{storage_of}
use Rattle.pg_lang_meaning.specs.States.{State}

-- the state that is listed: its listed words at their addresses, zeros elsewhere
abbrev pub state_of : Sparse → State
state_of s = record { cells = storage_of s.size s.cells; psw = s.psw }
