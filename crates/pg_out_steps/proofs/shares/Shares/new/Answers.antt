use Rattle.std.proofs.Common.{refl}
use Rattle.pg_out_steps.proofs.HandlingLemmas.{shares-none}
use Rattle.pg_out_steps.proofs.shares.Shares.new.Goals as goal

pub returns-clause-shares : goal.returns-clause-shares
returns-clause-shares c = λ monitor d s. shares-none monitor d s (record { direct = 0; emulated = 0 }) refl refl
