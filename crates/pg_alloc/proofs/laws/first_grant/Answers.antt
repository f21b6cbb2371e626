use Rattle.std.proofs.Common.{[]}
use Rattle.pg_alloc.proofs.FitLemmas.{free_base-first, free_base-full}
use Rattle.pg_alloc.proofs.laws.first_grant.Goals as goal

pub returns-clause-placed : goal.returns-clause-placed
returns-clause-placed c = free_base-first

pub returns-clause-refused : goal.returns-clause-refused
returns-clause-refused c = λ q size full. free_base-full q [] size full
