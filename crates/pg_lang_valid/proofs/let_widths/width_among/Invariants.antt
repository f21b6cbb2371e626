use Rattle.std.proofs.Common.{◌≡◌, ◌≤◌, length, take, map, reverse}
use Rattle.pg_lang_valid.specs.Widths.{let_width}
use Rattle.pg_lang_valid.proofs.let_widths.width_among.Given as goal

abbrev pub invariant-loop-left : goal.invariant-loop-left
invariant-loop-left l = record {
  within : l.left ≤ length l.lets;
  same : let_width (reverse (map (λ x. (x.name.now, x.width)) (take l.left l.lets))) l.name ≡ let_width (reverse (map (λ x. (x.name.now, x.width)) l.lets)) l.name;
}

abbrev pub decreases-loop-left : goal.decreases-loop-left
decreases-loop-left l = l.left
