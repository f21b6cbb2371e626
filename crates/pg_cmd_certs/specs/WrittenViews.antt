-- What a written certificate is, as plain data.
use Rattle.pg_cmd_certs.specs.Judged.{Judged}
use Rattle.pg_cmd_certs.specs.Views.{judged}
use Rattle.pg_cmd_certs.specs.declared.written.WrittenCert.{WrittenCert}

abbrev pub written : WrittenCert → Judged
written w = judged w.judged
