use Rattle.pg_lang_valid.proofs.ValidFacts.{IsShape-of_valid}
use Rattle.pg_cert.proofs.InRange.{cert_in_range}
use Rattle.pg_cert.proofs.laws.valid_certificates_are_in_range.Goals as goal

pub returns : goal.returns
returns c = λ question heading d cert valid certified numbered.
    cert_in_range d (IsShape-of_valid d valid) question heading cert certified numbered
