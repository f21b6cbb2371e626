use Rattle.pg_hw.proofs.BurstLaws.{untrapped_among-add}
use Rattle.pg_hw.proofs.laws.untrapped_steps_add_up.Goals as goal

pub returns : goal.returns
returns c = untrapped_among-add
