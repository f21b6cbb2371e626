-- The commands of the program: how each is called, and the text that says it of all.
use Rattle.std.specs.Prelude.{List, [], ◌∷◌, ◌++◌, Option, find}
use Rattle.std.specs.Str.{bytes_eq}
use Rattle.pg_cli_table.specs.Synopses.{Synopsis, Text, usage}
use Rattle.pg_cli_table.specs.Bare.{bare}
use Rattle.pg_cli_table.specs.Check.{check}
use Rattle.pg_cli_table.specs.Verify.{verify}
use Rattle.pg_cli_table.specs.Replay.{replay}
use Rattle.pg_cli_table.specs.Run.{run}
use Rattle.pg_cli_table.specs.Print.{print}
use Rattle.pg_cli_table.specs.Generating.{gen}
use Rattle.pg_cli_table.specs.Migrate.{migrate}
use Rattle.pg_cli_table.specs.Hcheck.{hcheck}
use Rattle.pg_cli_table.specs.Hybrid.{hybrid}
use Rattle.pg_cli_table.specs.Nest.{nest}
use Rattle.pg_cli_table.specs.Asm.{asm}
use Rattle.pg_cli_table.specs.Disasm.{disasm}
use Rattle.pg_cli_table.specs.Save.{save}
use Rattle.pg_cli_table.specs.Resume.{resume}
use Rattle.pg_cli_table.specs.declared.names.CommandName.{CommandName}
use Rattle.pg_cli_table.specs.declared.names.CommandName.TheVariants.{Asm, Bare, Check, Disasm, Gen, Hcheck, Hybrid, Migrate, Nest, Print, Replay, Resume, Run, Save, Verify}

-- the commands, in the order in which they are told
abbrev pub commands : List CommandName
commands = Bare ∷ Check ∷ Verify ∷ Replay ∷ Run ∷ Print ∷ Gen ∷ Migrate ∷ Hcheck ∷ Hybrid ∷ Nest ∷ Asm ∷ Disasm ∷ Save ∷ Resume ∷ []

-- how a command is called
abbrev pub synopsis : CommandName → Synopsis
synopsis Bare = bare
synopsis Check = check
synopsis Verify = verify
synopsis Replay = replay
synopsis Run = run
synopsis Print = print
synopsis Gen = gen
synopsis Migrate = migrate
synopsis Hcheck = hcheck
synopsis Hybrid = hybrid
synopsis Nest = nest
synopsis Asm = asm
synopsis Disasm = disasm
synopsis Save = save
synopsis Resume = resume

-- the command of a name, among these
abbrev pub named : List CommandName → Text → Option CommandName
named cs name = find (λ c. bytes_eq (synopsis c).name name) cs

-- the lines of usage of these commands
abbrev pub usages : List CommandName → Text
usages [] = []
usages (c ∷ more) = usage (synopsis c) ++ usages more

-- one line for each command
unfoldable pub usage_text : Text
usage_text = usages commands
