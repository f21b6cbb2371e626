use Rattle.std.proofs.Common.{◌≤◌, length}
use Rattle.std.specs.Io.KnownBytes.{Consumes}
use Rattle.pg_io_host.proofs.streams.fill.Given as goal

abbrev pub invariant-loop : goal.invariant-loop
invariant-loop g l = (length l.into.items ≤ l.most)
    × Consumes (g.R.Read.remaining l.initial.from) (g.R.Read.remaining l.from) l.into.items
