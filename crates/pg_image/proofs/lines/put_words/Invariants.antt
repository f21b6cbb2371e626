use Rattle.std.proofs.Common.{◌≡◌, ◌≤◌, ◌+◌, ◌*◌, ◌++◌, length, drop}
use Rattle.pg_image.specs.Lines.{words_text}
use Rattle.pg_image.proofs.lines.put_words.Given as goal

abbrev pub invariant-loop-word : goal.invariant-loop-word
invariant-loop-word l = record {
  so_far : l.line.items ++ words_text l.w (drop l.word-index l.words) ≡ l.initial.line.items ++ words_text l.w l.words;
  len : length l.line.items ≤ length l.initial.line.items + 17 * l.word-index;
}
