use Rattle.pg_type.proofs.AgreeLemmas.{agree-accepted, agree-hybrid}
use Rattle.pg_type.proofs.laws.narrower_machines_are_accepted.Goals as goal

pub returns : goal.returns
returns c = record {
  accepted = agree-accepted c.args.desc.now c.args.narrow.now c.requires.agrees c.requires.narrower;
  hybrid = agree-hybrid c.args.desc.now c.args.narrow.now c.requires.agrees c.requires.narrower;
}
