use Rattle.pg_hw.proofs.BurstLaws.{burst_length-most, burst_length-some, burst_length-goes_on, burst_length-ends}
use Rattle.pg_hw.proofs.laws.bursts_end_with_a_trap_or_whole.Goals as goal

pub returns : goal.returns
returns c = record { most = burst_length-most; some = burst_length-some; goes_on = burst_length-goes_on; ends = burst_length-ends }
