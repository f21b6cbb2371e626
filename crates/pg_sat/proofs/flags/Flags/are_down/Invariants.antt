use Rattle.std.proofs.Common.{◌≡◌, ℕ, ◌/◌, ◌<◌, ◌≤◌, true, false, get_or}
use Rattle.pg_sat.proofs.flags.Flags.are_down.Given as goal

abbrev pub invariant-loop-block : goal.invariant-loop-block
invariant-loop-block l = (j : ℕ) → l.from / 64 ≤ j → j < l.block → get_or l.self-inside.blocks.items j true ≡ false
