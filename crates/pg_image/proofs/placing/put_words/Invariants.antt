use Rattle.std.proofs.Common.{◌≡◌, ◌+◌, ◌^◌, ◌<◌, ◌≤◌, true, length, All}
use Rattle.std.specs.List.{list_all}
use Rattle.std.proofs.Math.Seq.{sets}
use Rattle.pg_image.specs.Images.{parts_of, is_word}
use Rattle.pg_image.specs.Forms.{words_in}
use Rattle.pg_image.proofs.placing.put_words.Given as goal

abbrev pub invariant-loop-part : goal.invariant-loop-part
invariant-loop-part l = record {
  words : list_all (is_word l.w) (parts_of l.left) ≡ true;
  room : l.k + length (parts_of l.left) ≤ length l.cells;
  fit : All (λ cell. cell < 2 ^ l.w) l.cells;
  so_far : sets l.cells l.k (words_in l.left) ≡ sets l.initial.cells l.first (words_in l.text);
}

abbrev pub decreases-loop-part : goal.decreases-loop-part
decreases-loop-part l = length (parts_of l.left)
