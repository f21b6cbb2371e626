-- A command line comes to one thing, for told files.
use Rattle.std.proofs.Common.{List, ℕ, Option, Some, None, Ok, Err, sym, ◌∙◌, ap}
use Rattle.pg_cert.specs.declared.cert.Family.TheVariants.{Plain, Hybrid}
use Rattle.pg_cli_parse.specs.Asked.{request_of}
use Rattle.pg_cli_table.specs.declared.ask.Request.{Request}
use Rattle.pg_cli_table.specs.declared.ask.Request.TheVariants as request
use Rattle.pg_edge.specs.Shelf.{Files}
use Rattle.pg_cmd_base.proofs.OneInput.{one-desc}
use Rattle.pg_cmd_certs.proofs.OneJudged.{one-judged}
use Rattle.pg_cmd_base.specs.Steps.{IsOne}
use Rattle.pg_cmd_plain.proofs.OneBare.{one-bare, one-print}
use Rattle.pg_cmd_gen.proofs.OneGenerated.{one-gen}
use Rattle.pg_cmd_run.proofs.OneRun.{one-run}
use Rattle.pg_cmd_run.proofs.OneNested.{one-nest}
use Rattle.pg_cmd_plain.proofs.OneAssembled.{one-asm, one-disasm}
use Rattle.pg_cmd_save.proofs.OneSaved.{one-save, one-resume}
use Rattle.pg_tool.specs.Asking.{WordsRefused, command_of, command_or_none, command_for}

-- a line for each command
one-command : (files : Files) (asked : Request) → IsOne ((command_of asked).due (Some files))
one-command files (request.Bare b) = one-bare files b
one-command files (request.Check c) = one-desc files c.desc
one-command files (request.Verify v) = one-judged Plain files v.desc v.cert
one-command files (request.Replay r) = one-judged Plain files r.desc r.cert
one-command files (request.Run r) = one-run Plain files r
one-command files (request.Print p) = one-print files p
one-command files (request.Gen g) = one-gen files g
one-command files (request.Migrate m) = one-judged Plain files m.desc m.cert
one-command files (request.Hcheck c) = one-desc files c.desc
one-command files (request.Hybrid r) = one-run Hybrid files r
one-command files (request.Nest n) = one-nest files n
one-command files (request.Asm a) = one-asm files a
one-command files (request.Disasm a) = one-disasm files a
one-command files (request.Save s) = one-save files s
one-command files (request.Resume r) = one-resume files r

one-refused : IsOne WordsRefused
one-refused (Ok a) b h k = absurd a
one-refused (Err why) (Ok b) h k = absurd b
one-refused (Err why) (Err other) h k = ap (λ w. Err w) (h ∙ sym k)

one-asked : (files : Files) (o : Option Request) → IsOne ((command_or_none o).due (Some files))
one-asked files None = one-refused
one-asked files (Some asked) = one-command files asked

-- what is due for told files is one thing
pub due_is_one : (files : Files) (words : List (List ℕ)) → IsOne ((command_for words).due (Some files))
unfolding command_for
due_is_one files words = one-asked files (request_of words)
