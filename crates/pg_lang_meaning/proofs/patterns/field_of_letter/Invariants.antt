use Rattle.std.proofs.Common.{◌≡◌, length}
use Rattle.pg_lang_meaning.specs.Patterns.{field_of_letter}
use Rattle.pg_lang_meaning.proofs.patterns.field_of_letter.Given as goal

abbrev pub invariant-loop-left : goal.invariant-loop-left
invariant-loop-left l = field_of_letter l.letter l.left ≡ field_of_letter l.letter l.fn.pattern

abbrev pub decreases-loop-left : goal.decreases-loop-left
decreases-loop-left l = length l.left
