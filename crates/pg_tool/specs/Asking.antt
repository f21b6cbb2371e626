-- The command that words ask for.
use Rattle.std.specs.Prelude.{◌≡◌, ℕ, List, Option, None, Some}
use Rattle.pg_cert.specs.declared.cert.Family.TheVariants.{Plain, Hybrid}
use Rattle.pg_cli_parse.specs.Asked.{request_of}
use Rattle.pg_cli_table.specs.declared.ask.Fault.{Fault}
use Rattle.pg_cli_table.specs.declared.ask.Fault.TheVariants as words
use Rattle.pg_cli_table.specs.declared.ask.Request.{Request}
use Rattle.pg_cli_table.specs.declared.ask.Request.TheVariants as request
use Rattle.pg_cmd_base.specs.declared.refusal.Refusal.{Refusal}
use Rattle.pg_cmd_base.specs.declared.refusal.Refusal.TheVariants.{Words}
use Rattle.pg_cmd_base.specs.declared.refusal.Stop.{Stop}
use Rattle.pg_cmd_base.specs.declared.refusal.Stop.TheVariants as stop
use Rattle.pg_cmd_base.specs.Commands.{Command}
use Rattle.pg_cmd_base.specs.Steps.{Step, Came, Refused, Misread}
use Rattle.pg_cmd_plain.specs.Bare.{bare_command}
use Rattle.pg_cmd_run.specs.Run.{run_command}
use Rattle.pg_cmd_run.specs.Hybrid.{hybrid_command}
use Rattle.pg_cmd_run.specs.Nest.{nest_command}
use Rattle.pg_cmd_plain.specs.Print.{print_command}
use Rattle.pg_cmd_check.specs.Verify.{verify_command}
use Rattle.pg_cmd_check.specs.Replay.{replay_command}
use Rattle.pg_cmd_check.specs.Migrate.{migrate_command}
use Rattle.pg_cmd_check.specs.Check.{check_command}
use Rattle.pg_cmd_gen.specs.Generating.{gen_command}
use Rattle.pg_cmd_plain.specs.Asm.{asm_command}
use Rattle.pg_cmd_plain.specs.Disasm.{disasm_command}
use Rattle.pg_cmd_save.specs.Save.{save_command}
use Rattle.pg_cmd_save.specs.Resume.{resume_command}

-- words that are refused come to that and nothing else
abbrev pub WordsRefused : Step Refusal ⊥
WordsRefused (Came x) = ⊥
WordsRefused (Refused why) = why ≡ Words
WordsRefused Misread = ⊥

-- why a command goes no further of whose words nothing was made
abbrev pub stop_of_words : Fault → Stop
stop_of_words words.Refused = stop.Refused Words
stop_of_words words.Memory = stop.Memory

abbrev pub no_command : Command
no_command = record {
  Work = ⊥;
  due = λ told. WordsRefused;
  saved = None;
  ends = λ w old new given text. ⊥;
  unsaved = λ w old new. ⊥;
  starved = λ w old new. ⊥;
}

-- a line for each command
abbrev pub command_of : Request → Command
command_of (request.Bare b) = bare_command b
command_of (request.Check c) = check_command Plain c
command_of (request.Verify v) = verify_command v
command_of (request.Replay r) = replay_command r
command_of (request.Run r) = run_command r
command_of (request.Print p) = print_command p
command_of (request.Gen g) = gen_command g
command_of (request.Migrate m) = migrate_command m
command_of (request.Hcheck c) = check_command Hybrid c
command_of (request.Hybrid r) = hybrid_command r
command_of (request.Nest n) = nest_command n
command_of (request.Asm a) = asm_command a
command_of (request.Disasm a) = disasm_command a
command_of (request.Save s) = save_command s
command_of (request.Resume r) = resume_command r

abbrev pub command_or_none : Option Request → Command
command_or_none None = no_command
command_or_none (Some asked) = command_of asked

-- the words are read first: what they ask for is carried out, or they are refused
unfoldable pub command_for : List (List ℕ) → Command
command_for words = command_or_none (request_of words)
