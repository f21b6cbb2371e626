use Rattle.std.proofs.Common.{◌≡◌, ◌≤◌, ◌++◌, true, drop}
use Rattle.std.specs.Prelude.{All}
use Rattle.pg_lang_print.specs.Numbers.{FitsNumber}
use Rattle.pg_lang_print.specs.Layout.{layout}
use Rattle.pg_lang_print.proofs.lines.layout.Given as goal

abbrev pub invariant-loop-tok : goal.invariant-loop-tok
invariant-loop-tok l = record {
  so_far : l.text.items ++ layout l.begins l.braces (drop l.tok-index l.toks) ≡ layout true 0 l.toks;
  fits : All FitsNumber (drop l.tok-index l.toks) → All FitsNumber l.toks;
  within : l.braces ≤ l.tok-index;
}
