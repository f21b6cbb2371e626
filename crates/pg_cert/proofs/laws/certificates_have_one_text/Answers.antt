use Rattle.pg_cert.proofs.OneCert.{cert_once}
use Rattle.pg_cert.proofs.laws.certificates_have_one_text.Goals as goal

pub returns : goal.returns
returns c = cert_once
