-- `migrate`: a certificate of a description, trimmed and in the spelling of today, and its verdict.
use Rattle.std.specs.Prelude.{ℕ, List, Option, Some}
use Rattle.pg_ast.specs.declared.tree.Desc.{Desc}
use Rattle.pg_cert.specs.declared.cert.Cert.{Cert}
use Rattle.pg_cert.specs.declared.cert.Family.TheVariants.{Plain}
use Rattle.pg_cert.specs.declared.report.Report.{Report}
use Rattle.pg_cli_table.specs.declared.migrate.MigrateWords.{MigrateWords}
use Rattle.pg_edge.specs.Shelf.{Files}
use Rattle.pg_cert_migrate.specs.Migrated.{IsMigrated}
use Rattle.pg_verify.specs.Feeding.{most_bytes}
use Rattle.pg_cmd_base.specs.declared.status.Status.{Status}
use Rattle.pg_cmd_base.specs.Commands.{Command}
use Rattle.pg_cmd_base.specs.FileSteps.{HoldsWithin}
use Rattle.pg_cmd_certs.specs.Judged.{Judged, JudgedDue}
use Rattle.pg_cmd_certs.specs.Saving.{IsWritten, EndsSaved, LeavesUnsaved}
use Rattle.pg_cmd_base.specs.World.{World}

-- a certificate that is made of the one that a file holds: it has the same findings, with its refutations trimmed
pub record MigratesFile (told : Option Files) (name : List ℕ) (d : Desc) (cert : Cert) : Type 0 where
  pub was : List ℕ
  pub held : HoldsWithin told name most_bytes was
  pub migrated : IsMigrated d Plain was cert

-- the text of such a one, and what is kept of it
pub record IsMigratedText (told : Option Files) (name : List ℕ) (d : Desc) (bytes : List ℕ) (report : Report) : Type 0 where
  pub written : IsWritten d Plain bytes report
  pub from_file : MigratesFile told name d written.cert

-- such a certificate is saved
pub record MigrateEnds (m : MigrateWords) (j : Judged) (old new : World) (given : Status) (text : List ℕ) : Type 0 where
  pub bytes : List ℕ
  pub migrated : IsMigratedText old.files m.cert j.desc bytes j.report
  pub saved : EndsSaved m.file Plain bytes j old new given text

-- or the save of it failed
pub record MigrateUnsaved (m : MigrateWords) (j : Judged) (old new : World) : Type 0 where
  pub bytes : List ℕ
  pub migrated : IsMigratedText old.files m.cert j.desc bytes j.report
  pub unsaved : LeavesUnsaved m.file bytes old new

-- memory is refused before the save alone
abbrev pub migrate_command : MigrateWords → Command
migrate_command m = record {
  Work = Judged;
  due = JudgedDue Plain m.desc m.cert;
  saved = Some m.file;
  ends = MigrateEnds m;
  unsaved = MigrateUnsaved m;
  starved = λ j old new. ⊥;
}
