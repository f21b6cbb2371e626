use Rattle.std.proofs.Common.{◌≡◌, ◌++◌, drop}
use Rattle.pg_out_steps.specs.Values.{changes_text}
use Rattle.pg_out_steps.proofs.times.push_changes.Given as goal

abbrev pub invariant-loop-signal : goal.invariant-loop-signal
invariant-loop-signal l =
    l.text.items ++ changes_text l.before l.sample (drop l.signal-index l.signals) ≡ l.initial.text.items ++ changes_text l.before l.sample l.signals
