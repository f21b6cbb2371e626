use Rattle.std.proofs.Common.{rules}
use Rattle.pg_hw.specs.Serving.{blank}
use Rattle.pg_hw.proofs.memory.MemoryHardware.install.Goals as goal

pub returns-clause-installed : goal.returns-clause-installed
unfolding blank
returns-clause-installed g c = search rules
