-- Which refusals are of a file.
use Rattle.std.specs.Prelude.{Bool, true, false}
use Rattle.pg_report.specs.declared.line.RefusalLine.{RefusalLine}
use Rattle.pg_report.specs.declared.line.RefusalLine.TheVariants.{Description, Image, Certificate, Room, Source, Saved}

-- every refusal but that of room is of what a file holds
abbrev pub is_of_file : RefusalLine → Bool
is_of_file (Description why) = true
is_of_file (Image number why) = true
is_of_file (Certificate why) = true
is_of_file (Room wanted free) = false
is_of_file (Source why) = true
is_of_file (Saved why) = true
