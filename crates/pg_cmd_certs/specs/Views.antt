-- What a machine with a certificate is, as plain data.
use Rattle.pg_cmd_certs.specs.Judged.{Judged}
use Rattle.pg_cmd_certs.specs.declared.machine.JudgedMachine.{JudgedMachine}

abbrev pub judged : JudgedMachine → Judged
judged m = record { desc = m.machine.desc; report = m.report }
