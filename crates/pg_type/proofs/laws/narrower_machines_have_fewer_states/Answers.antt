use Rattle.pg_type.proofs.AgreeLemmas.{agree-state}
use Rattle.pg_type.proofs.laws.narrower_machines_have_fewer_states.Goals as goal

pub returns : goal.returns
returns c = agree-state c.args.desc.now c.args.narrow.now c.requires.agrees c.requires.narrower
