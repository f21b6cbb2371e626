-- What the words of a command line ask for.
use Rattle.std.specs.Prelude.{◌≡◌, ◌⊎◌, List, [], ◌∷◌, Option, Some, None, option_and_then, option_map}
use Rattle.clap.specs.Walk.{Row, Text}
use Rattle.clap.specs.Simple.{subcommand_of}
use Rattle.clap.specs.Faults.{fault_of}
use Rattle.clap.specs.Kinds.{Kinds}
use Rattle.pg_cli_table.specs.Commands.{commands, named, synopsis}
use Rattle.pg_cli_table.specs.declared.ask.Request.{Request}
use Rattle.pg_cli_table.specs.declared.ask.Request.TheVariants as request
use Rattle.pg_cli_table.specs.declared.names.CommandName.{CommandName}
use Rattle.pg_cli_table.specs.declared.names.CommandName.TheVariants.{Asm, Bare, Check, Disasm, Gen, Hcheck, Hybrid, Migrate, Nest, Print, Replay, Resume, Run, Save, Verify}
use Rattle.pg_cli_parse.specs.Line.{line}
use Rattle.pg_cli_parse.specs.Bare.{bare_of}
use Rattle.pg_cli_parse.specs.Check.{check_of}
use Rattle.pg_cli_parse.specs.Verify.{verify_of}
use Rattle.pg_cli_parse.specs.Replay.{replay_of}
use Rattle.pg_cli_parse.specs.Run.{HasTooManyImages, run_of}
use Rattle.pg_cli_parse.specs.Print.{print_of}
use Rattle.pg_cli_parse.specs.Generating.{gen_of}
use Rattle.pg_cli_parse.specs.Migrate.{migrate_of}
use Rattle.pg_cli_parse.specs.Nest.{nest_of}
use Rattle.pg_cli_parse.specs.Asm.{asm_of}
use Rattle.pg_cli_parse.specs.Disasm.{disasm_of}
use Rattle.pg_cli_parse.specs.Save.{save_of}
use Rattle.pg_cli_parse.specs.Resume.{resume_of}

-- what a command asks for, by the values of its arguments
abbrev pub asked_of : CommandName → List Row → Option Request
asked_of Bare rows = option_map request.Bare (bare_of rows)
asked_of Check rows = option_map request.Check (check_of rows)
asked_of Verify rows = option_map request.Verify (verify_of rows)
asked_of Replay rows = option_map request.Replay (replay_of rows)
asked_of Run rows = option_map request.Run (run_of rows)
asked_of Print rows = option_map request.Print (print_of rows)
asked_of Gen rows = option_map request.Gen (gen_of rows)
asked_of Migrate rows = option_map request.Migrate (migrate_of rows)
asked_of Hcheck rows = option_map request.Hcheck (check_of rows)
asked_of Hybrid rows = option_map request.Hybrid (run_of rows)
asked_of Nest rows = option_map request.Nest (nest_of rows)
asked_of Asm rows = option_map request.Asm (asm_of rows)
asked_of Disasm rows = option_map request.Disasm (disasm_of rows)
asked_of Save rows = option_map request.Save (save_of rows)
asked_of Resume rows = option_map request.Resume (resume_of rows)

-- what the command of a name asks for
abbrev pub named_as : Option (Text × List Row) → Option Request
named_as = option_and_then (λ p. option_and_then (λ command. asked_of command p.1) (named commands p.0))

-- nothing, where there is a fault
abbrev pub unless_fault : {X : Type 0} → Kinds → Option X → Option X
unless_fault [] asked = asked
unless_fault (fault ∷ more) asked = None

-- what the words ask for, of which the first is the program's name: nothing where the line refuses them, and else
-- what the command that they name asks for, which is nothing where one that runs images is named with too many
unfoldable pub request_of : List Text → Option Request
request_of words = unless_fault (fault_of line words) (named_as (subcommand_of line words))

-- a command that takes several images
abbrev pub RunsImages : CommandName → Type 0
RunsImages command = (command ≡ Run) ⊎ (command ≡ Hybrid)

-- the words name such a command, with more than 8 images
pub record NamesTooManyImages (words : List Text) : Type 0 where
  pub command : CommandName
  pub rows : List Row
  pub runs : RunsImages command
  pub is_named : subcommand_of line words ≡ Some ((synopsis command).name, rows)
  pub are_too_many : HasTooManyImages rows
