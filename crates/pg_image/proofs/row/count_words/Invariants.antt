use Rattle.std.proofs.Common.{◌≡◌, ◌+◌, ◌≤◌, length}
use Rattle.std.specs.List.{list_all}
use Rattle.pg_image.specs.Images.{parts_of, is_word}
use Rattle.pg_image.proofs.row.count_words.Given as goal

abbrev pub invariant-loop-part : goal.invariant-loop-part
invariant-loop-part l = record {
  words : list_all (is_word l.w) (parts_of l.left) ≡ list_all (is_word l.w) (parts_of l.text);
  room : l.count + length l.left ≤ length l.text;
  count : l.count + length (parts_of l.left) ≡ length (parts_of l.text);
}

abbrev pub decreases-loop-part : goal.decreases-loop-part
decreases-loop-part l = length (parts_of l.left)
