use Rattle.std.proofs.Common.{◌+◌, ◌*◌}
use Rattle.pg_read.proofs.exprs.+exprs.Given as goal

abbrev pub decreases-expr : goal.decreases-expr
decreases-expr l = 8 * l.levels

abbrev pub decreases-boxed : goal.decreases-boxed
decreases-boxed l = 8 * l.levels + 1

abbrev pub decreases-boxed_behind : goal.decreases-boxed_behind
decreases-boxed_behind l = 8 * l.levels + 2

abbrev pub decreases-level : goal.decreases-level
decreases-level l = 8 * l.inner + 6

abbrev pub decreases-word : goal.decreases-word
decreases-word l = 8 * l.inner + 5

abbrev pub decreases-keyword : goal.decreases-keyword
decreases-keyword l = 8 * l.inner + 4

abbrev pub decreases-signed : goal.decreases-signed
decreases-signed l = 8 * l.inner + 4

abbrev pub decreases-load : goal.decreases-load
decreases-load l = 8 * l.inner + 3

abbrev pub decreases-not : goal.decreases-not
decreases-not l = 8 * l.inner + 3

abbrev pub decreases-bin : goal.decreases-bin
decreases-bin l = 8 * l.inner + 3

abbrev pub decreases-cat : goal.decreases-cat
decreases-cat l = 8 * l.inner + 3

abbrev pub decreases-cut : goal.decreases-cut
decreases-cut l = 8 * l.inner + 3

abbrev pub decreases-ext : goal.decreases-ext
decreases-ext l = 8 * l.inner + 3

abbrev pub decreases-sext : goal.decreases-sext
decreases-sext l = 8 * l.inner + 3

abbrev pub decreases-sel : goal.decreases-sel
decreases-sel l = 8 * l.inner + 3
