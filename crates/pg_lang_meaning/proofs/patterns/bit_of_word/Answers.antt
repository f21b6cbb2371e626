use Rattle.std.proofs.Common.{sym}
use Rattle.pg_lang_meaning.proofs.PatternLemmas.{bit_above}
use Rattle.pg_lang_meaning.proofs.patterns.bit_of_word.Goals as goal

pub returns-else-at-lt64 : goal.returns-else-at-lt64
returns-else-at-lt64 c = sym (bit_above c.args.word c.args.at c.ranges.word.fits c.if-at-lt64.false)
