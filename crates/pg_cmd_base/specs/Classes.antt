-- The classes of statuses: what a status says of the way in which a command ended.
use Rattle.pg_cmd_base.specs.declared.status.Status.{Status}
use Rattle.pg_cmd_base.specs.declared.status.Status.TheVariants.{Done, Refused, Unsettled, Words, Description, Image, Certificate, Room, ReadFault, WriteFault, Memory, Missing, Source, Saved}

pub data Class : Type 0 where
  -- the command came to its end, and its text is whole
  Ended : Class
  -- something could not be written
  Unwritten : Class
  -- something could not be read
  Unread : Class
  -- memory was refused
  OutOfMemory : Class

abbrev pub class_of : Status → Class
class_of Done = Ended
class_of Refused = Ended
class_of Unsettled = Ended
class_of Words = Ended
class_of Description = Ended
class_of Image = Ended
class_of Certificate = Ended
class_of Room = Ended
class_of ReadFault = Unread
class_of WriteFault = Unwritten
class_of Memory = OutOfMemory
class_of Missing = Ended
class_of Source = Ended
class_of Saved = Ended
