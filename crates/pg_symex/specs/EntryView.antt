-- An entry of the code as one of the definitions.
use Rattle.pg_symex.specs.Flow.{SymEntry}
use Rattle.pg_symex.specs.declared.entry.Entry.{Entry}

abbrev pub entry_as : Entry → SymEntry
entry_as e = record { w = e.w; a = e.a; regs = e.regs.now; pattern = e.pattern.now; word = e.word.now }
