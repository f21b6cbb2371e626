use Rattle.std.proofs.Common.{inl, inr, refl}
use Rattle.pg_prog_trace.specs.Calls.{usage_line}
use Rattle.pg_prog_trace.proofs.trace.trace.Goals as goal

pub returns-in-Err-clause-traced : goal.returns-in-Err-clause-traced
returns-in-Err-clause-traced g c =
    inr (inl (record { status = refl; before = record { silent = refl; untouched = record { files = refl; saves = refl; hw = refl } } }))

pub returns-in-Ok-None-clause-traced : goal.returns-in-Ok-None-clause-traced
unfolding usage_line
returns-in-Ok-None-clause-traced g c = inl (record { told = c.tell_usage.ensures.told; untouched = record { files = refl; saves = refl; hw = refl } })

pub returns-in-Ok-Some-clause-traced : goal.returns-in-Ok-Some-clause-traced
returns-in-Ok-Some-clause-traced g c = inr (inr (record { words = c.in-Ok-Some.words; traces = c.carry_asked.ensures.traces }))
