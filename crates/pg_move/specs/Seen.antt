-- The values of the code as the definitions have them.
use Rattle.std.specs.Prelude.{◌≡◌, ◌≢◌, Result, Ok, Err}
use Rattle.pg_type.specs.Listed.{state_of}
use Rattle.pg_cert_drawn.specs.Drawn.{drawn_of}
use Rattle.pg_move.specs.declared.fault.SavedFault.{SavedFault}
use Rattle.pg_move.specs.declared.fault.SavedFault.TheVariants.{Memory}
use Rattle.pg_move.specs.declared.saved.Saved.{Saved}
use Rattle.pg_move.specs.declared.reader.Reader.{Reader}
use Rattle.pg_move.specs.declared.reader.Reader.TheVariants as reader
use Rattle.pg_move.specs.Texts.{SavedGuest}
use Rattle.pg_move.specs.Reading.{SavedReader, Fresh, Begun, Counted, Sized, Drawing, Over}

-- what is saved, as it is kept
abbrev pub guest_of : Saved → SavedGuest
guest_of saved = record { steps = saved.steps; state = state_of saved.state }

abbrev pub reader_of : Reader → SavedReader
reader_of reader.Fresh = Fresh
reader_of reader.Begun = Begun
reader_of (reader.Counted steps) = Counted steps
reader_of (reader.Sized steps size) = Sized steps size
reader_of (reader.Drawing steps s) = Drawing steps (drawn_of s)
reader_of (reader.Over steps s) = Over steps (drawn_of s)

-- what is answered where a reader is due or a refusal. Lack of memory says nothing of the text
abbrev pub IsNext : Result SavedReader SavedFault → Result Reader SavedFault → Type 0
IsNext due (Ok r) = due ≡ Ok (reader_of r)
IsNext due (Err f) = f ≢ Memory → due ≡ Err f

-- the same of a saved guest
abbrev pub IsAnswer : Result SavedGuest SavedFault → Result Saved SavedFault → Type 0
IsAnswer due (Ok saved) = due ≡ Ok (guest_of saved)
IsAnswer due (Err f) = f ≢ Memory → due ≡ Err f
