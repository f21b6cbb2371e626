use Rattle.std.proofs.Common.{◌≡◌, length}
use Rattle.pg_prog_go.proofs.request.images_of.Given as goal

-- each name so far was copied
abbrev pub invariant-loop-name : goal.invariant-loop-name
invariant-loop-name l = record { count : length l.copies.items ≡ l.name-index }
