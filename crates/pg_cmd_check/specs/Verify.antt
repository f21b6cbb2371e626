-- `verify`: a certificate of a description, and its verdict.
use Rattle.std.specs.Prelude.{None}
use Rattle.pg_cert.specs.declared.cert.Family.TheVariants.{Plain}
use Rattle.pg_cli_table.specs.declared.verify.VerifyWords.{VerifyWords}
use Rattle.pg_cmd_certs.specs.Judged.{Judged, JudgedDue}
use Rattle.pg_cmd_certs.specs.Telling.{VerdictEnds}
use Rattle.pg_cmd_base.specs.Commands.{Command}

-- no memory is taken once the certificate was read
abbrev pub verify_command : VerifyWords → Command
verify_command v = record {
  Work = Judged;
  due = JudgedDue Plain v.desc v.cert;
  saved = None;
  ends = VerdictEnds Plain;
  unsaved = λ j old new. ⊥;
  starved = λ j old new. ⊥;
}
