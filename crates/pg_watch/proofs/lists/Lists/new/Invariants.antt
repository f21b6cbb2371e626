use Rattle.std.proofs.Common.{◌≡◌, [], replicate}
use Rattle.pg_watch.specs.Lists.{lists_in}
use Rattle.pg_watch.proofs.lists.Lists.new.Given as goal

abbrev pub invariant-loop-made : goal.invariant-loop-made
invariant-loop-made l = lists_in l.lists.items ≡ replicate l.made []
