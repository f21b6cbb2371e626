use Rattle.std.proofs.Common.{◌≡◌, drop}
use Rattle.pg_interp.specs.Writes.{overlaid}
use Rattle.pg_interp.proofs.overlay.overlaid.Given as goal

abbrev pub invariant-loop-write : goal.invariant-loop-write
invariant-loop-write l = overlaid (drop l.write-index l.writes) l.a l.held ≡ overlaid l.writes l.a l.cell
