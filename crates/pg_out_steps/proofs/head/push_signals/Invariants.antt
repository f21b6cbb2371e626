use Rattle.std.proofs.Common.{◌≡◌, ◌++◌, drop}
use Rattle.pg_out_steps.specs.Dump.{signals_text}
use Rattle.pg_out_steps.proofs.head.push_signals.Given as goal

abbrev pub invariant-loop-signal : goal.invariant-loop-signal
invariant-loop-signal l = l.text.items ++ signals_text (drop l.signal-index l.signals) ≡ l.initial.text.items ++ signals_text l.signals
