use Rattle.pg_cert.proofs.Fits.{cert_fits}
use Rattle.pg_cert.proofs.laws.valid_certificates_fit.Goals as goal

pub returns : goal.returns
returns c = cert_fits
