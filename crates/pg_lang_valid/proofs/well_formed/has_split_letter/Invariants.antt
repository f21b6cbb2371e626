use Rattle.std.proofs.Common.{◌≡◌, length}
use Rattle.pg_lang_valid.specs.Overlaps.{has_split_letter}
use Rattle.pg_lang_valid.proofs.well_formed.has_split_letter.Given as goal

abbrev pub invariant-loop-left : goal.invariant-loop-left
invariant-loop-left l = has_split_letter l.left ≡ has_split_letter l.fn.pattern

abbrev pub decreases-loop-left : goal.decreases-loop-left
decreases-loop-left l = length l.left
