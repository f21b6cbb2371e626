-- How a command is called, as plain data, and the line of usage that this makes.
use Rattle.std.specs.Prelude.{ℕ, List, [], ◌∷◌, ◌++◌, codes, map}
use Rattle.pg_cli_table.specs.declared.synopsis.Argument as declared
use Rattle.pg_cli_table.specs.declared.synopsis.Argument.TheVariants as variant
use Rattle.pg_cli_table.specs.declared.synopsis.Range.{Range}
use Rattle.pg_cli_table.specs.declared.synopsis.Synopsis as code

abbrev pub Text : Type 0
Text = List ℕ

-- an argument, by its name, and where it is an option by the word that the line of usage has for its value
pub data Argument : Type 0 where
  -- the name of a file, in its place
  File : (name : Text) → Argument
  -- the names of files, one or more, in their place
  Files : (name : Text) → Argument
  -- a number of the range, in its place
  Number : (name : Text) (range : Range) → Argument
  -- the name of a file after `--name`, which has to be there
  FileOption : (name value : Text) → Argument
  -- a number of the range after `--name`, which has to be there
  NumberOption : (name value : Text) (range : Range) → Argument
  -- a number of the range after `--name`, which may be left out
  OptionalNumber : (name value : Text) (range : Range) → Argument

-- how a command is called: its name, and its arguments in order
pub record Synopsis : Type 0 where
  pub name : Text
  pub arguments : List Argument

-- ---- the line of usage

abbrev pub option_usage : Text → Text → Text
option_usage name value = codes "--" ++ name ++ codes " " ++ value

abbrev pub argument_usage : Argument → Text
argument_usage (File name) = name
argument_usage (Files name) = name ++ codes ".."
argument_usage (Number name range) = name
argument_usage (FileOption name value) = option_usage name value
argument_usage (NumberOption name value range) = option_usage name value
argument_usage (OptionalNumber name value range) = codes "[" ++ option_usage name value ++ codes "]"

abbrev pub arguments_usage : List Argument → Text
arguments_usage [] = []
arguments_usage (a ∷ more) = codes " " ++ argument_usage a ++ arguments_usage more

-- the line, with its LF
abbrev pub usage : Synopsis → Text
usage s = codes "pgv " ++ s.name ++ arguments_usage s.arguments ++ 10 ∷ []

-- ---- what the code holds

abbrev pub argument_of : declared.Argument → Argument
argument_of (variant.File name) = File name.now
argument_of (variant.Files name) = Files name.now
argument_of (variant.Number name range) = Number name.now range
argument_of (variant.FileOption name value) = FileOption name.now value.now
argument_of (variant.NumberOption name value range) = NumberOption name.now value.now range
argument_of (variant.OptionalNumber name value range) = OptionalNumber name.now value.now range

abbrev pub synopsis_of : code.Synopsis → Synopsis
synopsis_of s = record { name = s.name.now; arguments = map argument_of s.arguments.now }
