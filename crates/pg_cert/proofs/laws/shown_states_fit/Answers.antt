use Rattle.pg_cert.proofs.Fits.{shown_fit}
use Rattle.pg_cert.proofs.laws.shown_states_fit.Goals as goal

pub returns : goal.returns
returns c = shown_fit
