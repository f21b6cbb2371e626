use Rattle.pg_type.proofs.AgreeLemmas.{agree-ending, agree-step, agree-steps}
use Rattle.pg_type.proofs.laws.agreeing_machines_step_alike.Goals as goal

pub returns : goal.returns
returns c = record {
  ending_alike = agree-ending c.args.desc.now c.args.other.now c.requires;
  step_alike = agree-step c.args.desc.now c.args.other.now c.requires;
  steps_alike = agree-steps c.args.desc.now c.args.other.now c.requires;
}
