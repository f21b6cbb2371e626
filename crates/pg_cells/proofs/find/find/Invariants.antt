use Rattle.std.proofs.Common.{◌≡◌, drop}
use Rattle.pg_cells.specs.Made.{found_word}
use Rattle.pg_cells.proofs.find.find.Given as goal

abbrev pub invariant-loop-place : goal.invariant-loop-place
invariant-loop-place l = found_word (drop l.place l.cells) l.address ≡ found_word l.cells l.address
