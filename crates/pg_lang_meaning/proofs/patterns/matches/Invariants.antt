use Rattle.std.proofs.Common.{◌≡◌, length}
use Rattle.pg_lang_meaning.specs.Patterns.{matches}
use Rattle.pg_lang_meaning.proofs.patterns.matches.Given as goal

abbrev pub invariant-loop-left : goal.invariant-loop-left
invariant-loop-left l = matches l.left l.word ≡ matches l.fn.pattern l.word

abbrev pub decreases-loop-left : goal.decreases-loop-left
decreases-loop-left l = length l.left
