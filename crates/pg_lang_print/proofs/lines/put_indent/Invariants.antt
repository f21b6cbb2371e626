use Rattle.std.proofs.Common.{◌≡◌, ◌++◌}
use Rattle.pg_lang_print.specs.Layout.{indent}
use Rattle.pg_lang_print.proofs.lines.put_indent.Given as goal

abbrev pub invariant-loop-left : goal.invariant-loop-left
invariant-loop-left l = l.text.items ++ indent l.left ≡ l.initial.text.items ++ indent l.braces

abbrev pub decreases-loop-left : goal.decreases-loop-left
decreases-loop-left l = l.left
