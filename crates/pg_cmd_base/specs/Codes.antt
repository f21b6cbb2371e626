-- The numbers of statuses.
use Rattle.std.specs.Prelude.{ℕ}
use Rattle.pg_cmd_base.specs.declared.status.Status.{Status}
use Rattle.pg_cmd_base.specs.declared.status.Status.TheVariants.{Done, Refused, Unsettled, Words, Description, Image, Certificate, Room, ReadFault, WriteFault, Memory, Missing, Source, Saved}

abbrev pub code_of : Status → ℕ
code_of Done = 0
code_of Refused = 1
code_of Unsettled = 2
code_of Words = 3
code_of Description = 4
code_of Image = 5
code_of Certificate = 6
code_of Room = 7
code_of ReadFault = 8
code_of WriteFault = 9
code_of Memory = 10
code_of Missing = 11
code_of Source = 12
code_of Saved = 13
