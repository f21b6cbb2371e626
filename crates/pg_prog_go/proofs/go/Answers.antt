use Rattle.std.proofs.Common.{inl, inr, refl}
use Rattle.pg_prog_go.specs.Calls.{usage_lines}
use Rattle.pg_prog_go.proofs.go.Goals as goal

pub returns-in-Err-clause-goes : goal.returns-in-Err-clause-goes
returns-in-Err-clause-goes g c =
    inr (inl (record { status = refl; before = record { silent = refl; untouched = record { files = refl; saves = refl; hw = refl } } }))

pub returns-in-Ok-None-clause-goes : goal.returns-in-Ok-None-clause-goes
unfolding usage_lines
returns-in-Ok-None-clause-goes g c = inl (record { told = c.tell_usage.ensures.told; untouched = record { files = refl; saves = refl; hw = refl } })

pub returns-in-Ok-Some-Guests-clause-goes : goal.returns-in-Ok-Some-Guests-clause-goes
returns-in-Ok-Some-Guests-clause-goes g c = inr (inr (inl (record { words = c.in-Ok-Some-Guests.words; carries = c.carry_go.ensures.carries })))

pub returns-in-Ok-Some-Bare-clause-goes : goal.returns-in-Ok-Some-Bare-clause-goes
returns-in-Ok-Some-Bare-clause-goes g c = inr (inr (inr (record { words = c.in-Ok-Some-Bare.words; carries = c.carry_bare.ensures.carries })))
